use Rattle.std.proofs.Common.{◌∙◌}
use Rattle.std.proofs.lemmas.Result.{err_from_is_err_and}
use Rattle.document_file.proofs.PassingLemmas.{KeepsCommitted-fails, KeepsCommitted-MayCommit}
use Rattle.document_file.proofs.SavedAnewLemmas.{anew_apart, anew_document, anew_placed, anew_table}
use Rattle.document_file.proofs.StandsLemmas.{sound_settled}
use Rattle.document_file.proofs.SlotsLemmas.{kept_after, shut_after}
use Rattle.document_file.proofs.commit.commit_summed.Goals as goal

pub returns-in_err-write_saved-clause-commits : goal.returns-in_err-write_saved-clause-commits
returns-in_err-write_saved-clause-commits g c =
    let p = err_from_is_err_and c.from_residual.result c.from_residual.ensures.1 in
    rw (p.1) (KeepsCommitted-fails g.S.Store.facts _ _ _ _ c.write_saved.ensures.passes (sound_settled g.S.Store.facts c.write_saved.new.store c.args.live.now c.args.slots.now c.write_saved.ensures.sound))

pub commit_beside-requires-clause-table : goal.commit_beside-requires-clause-table
commit_beside-requires-clause-table g c = anew_table c.args.live.now c.args.slots.now c.requires.sound.formed c.args.saved c.requires.made

pub commit_beside-requires-clause-placed : goal.commit_beside-requires-clause-placed
commit_beside-requires-clause-placed g c = anew_placed c.args.live.now c.args.slots.now c.requires.sound.formed c.args.saved c.requires.made c.requires.spared

pub commit_beside-requires-clause-apart : goal.commit_beside-requires-clause-apart
commit_beside-requires-clause-apart g c = anew_apart c.args.live.now c.args.slots.now c.requires.sound.formed c.args.saved c.requires.made c.args.pending c.requires.pending c.requires.apart

pub returns-clause-commits : goal.returns-clause-commits
returns-clause-commits g c =
    let now = (g.S.Store.facts c.write_saved.new.store).content in
    KeepsCommitted-MayCommit g.S.Store.facts _ _ _ _ _ c.commit_beside.result c.write_saved.ensures.passes
    (λ so.
    let first = c.write_saved.ensures.same so in
    let second = anew_document c.args.live.now c.args.slots.now c.requires.sound.formed c.args.saved c.requires.made now ∙ c.write_saved.ensures.passes.saved so in
    λ i. (first i, second i))
    c.commit_beside.ensures.commits

pub returns-clause-shut : goal.returns-clause-shut
returns-clause-shut g c = shut_after c.commit_beside.result (g.S.Store.facts c.args.store.now) (g.S.Store.facts c.write_saved.new.store) (g.S.Store.facts c.commit_beside.new.store) c.args.slots.now c.write_saved.ensures.passes.honest c.write_saved.ensures.passes.failures c.commit_beside.ensures.shut

pub returns-clause-kept : goal.returns-clause-kept
returns-clause-kept g c = kept_after c.commit_beside.result (g.S.Store.facts c.args.store.now) (g.S.Store.facts c.write_saved.new.store) (g.S.Store.facts c.commit_beside.new.store) c.args.slots.now c.write_saved.ensures.passes.honest
    (λ so.
    let updated = c.write_saved.ensures.passes.updated so in
    let saved = c.write_saved.ensures.passes.saved so in
    λ i. (updated i, saved i))
    c.commit_beside.ensures.kept
