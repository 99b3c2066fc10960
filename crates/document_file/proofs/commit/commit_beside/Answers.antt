use Rattle.std.proofs.Common.{IsTrue, subst, ◌∙◌}
use Rattle.std.proofs.lemmas.Result.{err_from_is_err_and}
use Rattle.std.proofs.lemmas.List.Elements.{All-append}
use Rattle.document_file.specs.Ranges.{IsPlaced, start_of}
use Rattle.document_file.specs.Slots.{stored_extents}
use Rattle.document_file.proofs.CopiesLemmas.{copy_document}
use Rattle.document_file.proofs.PassingLemmas.{KeepsCommitted-fails, KeepsCommitted-MayCommit}
use Rattle.document_file.proofs.SavedAnewLemmas.{apart_stored, pending_extents}
use Rattle.document_file.proofs.StandsLemmas.{sound_settled}
use Rattle.document_file.proofs.SlotsLemmas.{kept_after, shut_after}
use Rattle.document_file.proofs.commit.commit_beside.Goals as goal

pub returns-in_err-write_pending-clause-commits : goal.returns-in_err-write_pending-clause-commits
returns-in_err-write_pending-clause-commits g c =
    let p = err_from_is_err_and c.from_residual.result c.from_residual.ensures.1 in
    rw (p.1) (KeepsCommitted-fails g.S.Store.facts _ _ _ _ c.write_pending.ensures.passes (sound_settled g.S.Store.facts c.write_pending.new.store c.args.live.now c.args.slots.now c.write_pending.ensures.sound))

pub commit_pair-requires-clause-placed : goal.commit_pair-requires-clause-placed
commit_pair-requires-clause-placed g c =
    All-append IsPlaced (stored_extents c.args.pending.document) (stored_extents c.args.saved) (pending_extents c.args.live.now c.args.slots.now c.args.pending c.requires.sound.formed c.requires.pending) c.requires.placed

pub commit_pair-requires-clause-stored : goal.commit_pair-requires-clause-stored
commit_pair-requires-clause-stored g c so =
    let before : IsTrue (g.S.Store.facts c.args.store.now).honest = subst IsTrue c.write_pending.ensures.passes.honest so in
    let directory = c.args.pending.document.directory in
    record {
      updated = c.in_ok-write_pending.ensures.written before;
      saved = (apart_stored c.args.slots.now.next_version (start_of directory) directory.length (g.S.Store.facts c.args.store.now).content (g.S.Store.facts c.write_pending.new.store).content c.args.saved (c.write_pending.ensures.elsewhere before) c.requires.apart (c.requires.stored before)).0;
    }

pub returns-clause-commits : goal.returns-clause-commits
returns-clause-commits g c =
    let file = (g.S.Store.facts c.args.store.now).content in
    let now = (g.S.Store.facts c.write_pending.new.store).content in
    let directory = c.args.pending.document.directory in
    KeepsCommitted-MayCommit g.S.Store.facts _ _ _ _ _ c.commit_pair.result c.write_pending.ensures.passes
    (λ so.
    let first = copy_document now c.args.pending.document.table.value c.args.live.now c.requires.pending.table ∙ c.write_pending.ensures.same so in
    let second = (apart_stored c.args.slots.now.next_version (start_of directory) directory.length file now c.args.saved (c.write_pending.ensures.elsewhere so) c.requires.apart (c.requires.stored so)).1 in
    λ i. (first i, second i))
    c.commit_pair.ensures.commits

pub returns-clause-shut : goal.returns-clause-shut
returns-clause-shut g c = shut_after c.commit_pair.result (g.S.Store.facts c.args.store.now) (g.S.Store.facts c.write_pending.new.store) (g.S.Store.facts c.commit_pair.new.store) c.args.slots.now c.write_pending.ensures.passes.honest c.write_pending.ensures.passes.failures c.commit_pair.ensures.shut

pub returns-clause-kept : goal.returns-clause-kept
returns-clause-kept g c = kept_after c.commit_pair.result (g.S.Store.facts c.args.store.now) (g.S.Store.facts c.write_pending.new.store) (g.S.Store.facts c.commit_pair.new.store) c.args.slots.now c.write_pending.ensures.passes.honest
    (λ so.
    let updated = c.write_pending.ensures.passes.updated so in
    let saved = c.write_pending.ensures.passes.saved so in
    λ i. (updated i, saved i))
    c.commit_pair.ensures.kept
