use Rattle.std.proofs.Common.{◌∷◌, [], ap, arith, length, refl, sym, subst}
use Rattle.geos_model.specs.declared.command.Body.{Body}
use Rattle.geos_model.proofs.Images.{length_image_body_le}
use Rattle.document_stat.specs.Counted.{AddsBlocks}
use Rattle.file_report.proofs.HeapLemmas.{heap_image, image-not_empty}
use Rattle.document_stat.proofs.ImageBodies.{raw_body}
use Rattle.document_stat.proofs.blocks.BlockStat.add.Goals as goal

pub overflow_sub-bytes : goal.overflow_sub-bytes
overflow_sub-bytes c = let long = image-not_empty c.args.image.now in let same = ap length c.as_slice-bytes.ensures in omega (arith, long, same)

pub overflow_cast-bytes : goal.overflow_cast-bytes
overflow_cast-bytes c = let short = length_image_body_le c.args.image.now c.reveal_invariant.ensures in let same = ap length c.as_slice-bytes.ensures in omega (arith, short, same)

pub returns-then-not-is_heap-clause-ok : goal.returns-then-not-is_heap-clause-ok
returns-then-not-is_heap-clause-ok c =
    let raw = raw_body c.args.image.now c.as_slice-bytes.result.now (sym c.if-not-is_heap.ensures) c.as_slice-bytes.ensures in
    subst (λ (body : Body). AddsBlocks ((c.args.block.0, record { attributes = c.args.attributes; body = body }) ∷ []) c.args.self.now c.add_raw.new.self) (sym raw.1) (c.add_raw.ensures c.args.attributes raw.0 raw.2)

pub returns-clause-ok : goal.returns-clause-ok
returns-clause-ok c =
    let made = c.in_ok-heap.ensures.heap in
    subst (λ (body : Body). AddsBlocks ((c.args.block.0, record { attributes = c.args.attributes; body = body }) ∷ []) c.args.self.now c.add_heap.new.self)
    (sym (heap_image c.args.image.now _ c.as_slice-bytes.result.now c.reveal_invariant.ensures made.1 (sym c.as_slice-bytes.ensures) made.0)) (c.in_ok-add_heap.ensures c.args.attributes refl)
