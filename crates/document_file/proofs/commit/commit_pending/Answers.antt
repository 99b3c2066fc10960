use Rattle.std.proofs.Common.{IsTrue, subst}
use Rattle.std.proofs.lemmas.Result.{err_from_is_err_and}
use Rattle.document_file.proofs.PendingDirectoryLemmas.{both_placed, both_tables, both_stored, both_documents}
use Rattle.document_file.proofs.PassingLemmas.{KeepsCommitted-fails, KeepsCommitted-MayCommit}
use Rattle.document_file.proofs.StandsLemmas.{sound_settled}
use Rattle.document_file.proofs.SlotsLemmas.{kept_after, shut_after}
use Rattle.document_file.proofs.commit.commit_pending.Goals as goal

pub returns-in_err-write_pending-clause-commits : goal.returns-in_err-write_pending-clause-commits
returns-in_err-write_pending-clause-commits g c =
    let p = err_from_is_err_and c.from_residual.result c.from_residual.ensures.1 in
    rw (p.1) (KeepsCommitted-fails g.S.Store.facts _ _ _ _ c.write_pending.ensures.passes (sound_settled g.S.Store.facts c.write_pending.new.store c.args.live.now c.args.slots.now c.write_pending.ensures.sound))

pub commit_pair-requires-clause-placed : goal.commit_pair-requires-clause-placed
commit_pair-requires-clause-placed g c = both_placed c.args.live.now c.args.slots.now c.args.pending c.args.saved c.requires.sound.formed c.requires.pending c.requires.saved

pub commit_pair-requires-clause-tables : goal.commit_pair-requires-clause-tables
commit_pair-requires-clause-tables g c = both_tables c.args.live.now c.args.slots.now c.args.pending c.args.saved c.requires.sound.formed c.requires.pending c.requires.saved

pub commit_pair-requires-clause-stored : goal.commit_pair-requires-clause-stored
commit_pair-requires-clause-stored g c so =
    let file = (g.S.Store.facts c.write_pending.new.store).content in
    let before : IsTrue (g.S.Store.facts c.args.store.now).honest = subst IsTrue c.write_pending.ensures.passes.honest so in
    both_stored c.args.live.now c.args.slots.now c.args.pending c.args.saved c.requires.sound.formed c.requires.pending c.requires.saved file (c.write_pending.ensures.sound.whole so).committed.saved (c.in_ok-write_pending.ensures.written before)

pub returns-clause-commits : goal.returns-clause-commits
returns-clause-commits g c =
    let file = (g.S.Store.facts c.args.store.now).content in
    let now = (g.S.Store.facts c.write_pending.new.store).content in
    KeepsCommitted-MayCommit g.S.Store.facts _ _ _ _ _ c.commit_pair.result c.write_pending.ensures.passes
    (λ so. both_documents c.args.live.now c.args.slots.now c.args.pending c.args.saved c.requires.sound.formed c.requires.pending c.requires.saved file now (c.write_pending.ensures.same so) (c.write_pending.ensures.passes.saved so))
    c.commit_pair.ensures.commits

pub returns-clause-shut : goal.returns-clause-shut
returns-clause-shut g c = shut_after c.commit_pair.result (g.S.Store.facts c.args.store.now) (g.S.Store.facts c.write_pending.new.store) (g.S.Store.facts c.commit_pair.new.store) c.args.slots.now c.write_pending.ensures.passes.honest c.write_pending.ensures.passes.failures c.commit_pair.ensures.shut

pub returns-clause-kept : goal.returns-clause-kept
returns-clause-kept g c = kept_after c.commit_pair.result (g.S.Store.facts c.args.store.now) (g.S.Store.facts c.write_pending.new.store) (g.S.Store.facts c.commit_pair.new.store) c.args.slots.now c.write_pending.ensures.passes.honest
    (λ so.
    let updated = c.write_pending.ensures.passes.updated so in
    let saved = c.write_pending.ensures.passes.saved so in
    λ i. (updated i, saved i))
    c.commit_pair.ensures.kept
