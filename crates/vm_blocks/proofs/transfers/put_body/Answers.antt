use Rattle.std.proofs.Common.{sym, subst}
use Rattle.std.specs.Prelude.{MatchResult, List, ℕ}
use Rattle.std.proofs.lemmas.Result.{err_from_is_err_and}
use Rattle.geos_model.specs.Document.{with_body}
use Rattle.geos_model.specs.declared.command.Body.TheVariants as bodies
use Rattle.document_file.specs.Effects.{LeavesDocument}
use Rattle.document_file.proofs.ImageLemmas.{raw_image_is}
use Rattle.document_file.proofs.PassingLemmas.{SameUnlessCorrupt-refl, KeepsCommitted-refl}
use Rattle.vm_blocks.specs.Bodies.{body_value}
use Rattle.vm_blocks.specs.declared.body.BlockBody.{BlockBody}
use Rattle.vm_blocks.proofs.transfers.put_body.Goals as goal

pub put_raw_image-requires-clause-image : goal.put_raw_image-requires-clause-image
put_raw_image-requires-clause-image g c = (raw_image_is c.in-Raw.raw c.image.result.now c.image.ensures.value c.image.ensures.len).0

pub returns-in_err-put_of-in-Heap-clause-keeps : goal.returns-in_err-put_of-in-Heap-clause-keeps
returns-in_err-put_of-in-Heap-clause-keeps g c =
    let facts = g.S.Store.facts in
    let f = c.args.file.now in
    let p = err_from_is_err_and c.from_residual.result c.from_residual.ensures.1 in
    let kept : LeavesDocument facts f.document f f = record { passes = KeepsCommitted-refl facts f.disk; document = SameUnlessCorrupt-refl (facts f.disk.store).honest f.document } in
    subst (λ r. MatchResult r (λ _. LeavesDocument facts (with_body f.document c.args.block.0 (body_value c.args.body.now)) f f) (λ _. LeavesDocument facts f.document f f)) (sym p.1) kept

pub returns-in-Raw-clause-keeps : goal.returns-in-Raw-clause-keeps
returns-in-Raw-clause-keeps g c =
    let facts = g.S.Store.facts in
    let old = c.args.file.now in
    let new = c.put_raw_image.new.self in
    let h = c.args.block.0 in
    let result = c.put_raw_image.result in
    let rest = (raw_image_is c.in-Raw.raw c.image.result.now c.image.ensures.value c.image.ensures.len).1 in
    subst (λ (x : BlockBody). MatchResult result (λ _. LeavesDocument facts (with_body old.document h (body_value x)) old new) (λ _. LeavesDocument facts old.document old new)) (sym c.in-Raw.is)
    (subst (λ (bytes : List ℕ). MatchResult result (λ _. LeavesDocument facts (with_body old.document h (bodies.Raw bytes)) old new) (λ _. LeavesDocument facts old.document old new)) rest c.put_raw_image.ensures.keeps)
