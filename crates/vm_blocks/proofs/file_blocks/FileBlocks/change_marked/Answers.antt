use Rattle.std.proofs.Common.{◌≡◌, Some, [], ap, sym, subst, ◌∙◌}
use Rattle.std.specs.Prelude.{Result, Err, IfErr}
use Rattle.std.proofs.lemmas.Result.{err_from_is_err_and}
use Rattle.geos_model.specs.declared.fault.Fault.{Fault}
use Rattle.document_file.specs.Disk.{unmarked}
use Rattle.vm_blocks.specs.State.{CacheState}
use Rattle.vm_blocks.proofs.Marking.{on_err_always}
use Rattle.vm_blocks.specs.Changes.{directed_all}
use Rattle.vm_blocks.specs.Preparing.{AreApplied, CantPrepareAll}
use Rattle.vm_blocks.proofs.ChangingAll.{not_marked, listed_marked, made_through, unready_through, valid_marked, keeps_back}
use Rattle.vm_blocks.proofs.KeepingLaws.{keeps-by}
use Rattle.vm_blocks.proofs.ChangeOutcomes.{same_locks}
use Rattle.vm_blocks.proofs.file_blocks.FileBlocks.change_marked.Goals as goal

-- The document couldn't be marked.

pub returns-in_err-mark-clause-err : goal.returns-in_err-mark-clause-err
returns-in_err-mark-clause-err g c =
    let facts = g.S.Store.facts in
    let was = c.args.self.now in
    let mid = c.mark.new.self in
    on_err_always c.from_residual.result (keeps-by facts was mid c.in_err-mark.ensures.err (same_locks was.resident mid.resident c.in_err-mark.ensures.resident))

pub returns-in_err-mark-clause-refusals : goal.returns-in_err-mark-clause-refusals
returns-in_err-mark-clause-refusals g c =
    let facts = g.S.Store.facts in
    let all = directed_all c.args.direction c.args.changes.now in
    let mid = c.mark.new.self in
    let fault = c.in_err-mark.field-0.0 in
    let e = err_from_is_err_and c.from_residual.result c.from_residual.ensures.1 in
    subst (λ (r : Result (Unit {0}) Fault). IfErr r (CantPrepareAll facts all c.args.self.now mid)) (sym (e.1 ∙ ap Err e.2))
    (not_marked facts all (Err fault) c.args.self.now mid c.in_err-mark.ensures.fails)

-- It was.

pub turn_all-requires-clause-listed : goal.turn_all-requires-clause-listed
turn_all-requires-clause-listed g c =
    let facts = g.S.Store.facts in
    let mid = c.mark.new.self in
    let marks = c.in_ok-mark.ensures.ok in
    let same = c.mark.ensures.resident in
    listed_marked facts (directed_all c.args.direction c.args.changes.now) c.args.self.now mid marks same c.requires.listed

-- All were made.
pub returns-in-Ok-clause-ok : goal.returns-in-Ok-clause-ok
returns-in-Ok-clause-ok g c =
    let facts = g.S.Store.facts in
    let all = directed_all c.args.direction c.args.changes.now in
    let mid = c.mark.new.self in
    let last = c.turn_all.new.self in
    let marks = c.in_ok-mark.ensures.ok in
    let same = c.mark.ensures.resident in
    let is : c.release.new.self ≡ record last { disk = unmarked last.disk } = c.release.ensures in
    subst (λ (s : CacheState g.row.S.Denot). AreApplied facts all c.args.self.now s) (sym is) (made_through facts all c.args.self.now mid marks same last c.in-Ok.ensures.ok)

-- One was refused.

pub roll_back-requires-clause-valid : goal.roll_back-requires-clause-valid
roll_back-requires-clause-valid g c =
    valid_marked g.S.Store.facts (directed_all c.args.direction c.args.changes.now) c.args.self.now c.mark.new.self c.in_ok-mark.ensures.ok c.mark.ensures.resident c.turn_all.new.self c.in-Err.ensures.passes c.reveal_invariant.ensures.document

pub returns-in-Err-clause-err : goal.returns-in-Err-clause-err
returns-in-Err-clause-err g c =
    let facts = g.S.Store.facts in
    let mid = c.mark.new.self in
    let last = c.turn_all.new.self in
    let new = c.roll_back.new.self in
    let marks = c.in_ok-mark.ensures.ok in
    let same = c.mark.ensures.resident in
    let back : Some new.document ≡ last.disk.marked = c.roll_back.ensures.document in
    let disk : new.disk ≡ unmarked last.disk = c.roll_back.ensures.disk in
    let empty : (new.resident ≡ []) × (new.frames ≡ last.frames) = c.roll_back.ensures.empty in
    keeps_back facts (directed_all c.args.direction c.args.changes.now) c.args.self.now mid marks same last new back c.in-Err.ensures.passes disk empty c.in-Err.ensures.frames c.requires.unlocked

pub returns-in-Err-clause-refusals : goal.returns-in-Err-clause-refusals
returns-in-Err-clause-refusals g c =
    let facts = g.S.Store.facts in
    let mid = c.mark.new.self in
    let last = c.turn_all.new.self in
    let new = c.roll_back.new.self in
    let marks = c.in_ok-mark.ensures.ok in
    let same = c.mark.ensures.resident in
    let disk : new.disk ≡ unmarked last.disk = c.roll_back.ensures.disk in
    unready_through facts (directed_all c.args.direction c.args.changes.now) c.args.self.now mid marks same last new c.in-Err.fault disk c.in-Err.ensures.refusals
