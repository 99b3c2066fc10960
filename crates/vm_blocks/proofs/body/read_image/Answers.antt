use Rattle.std.proofs.Common.{◌-◌, drop, length, slice_index, length-drop, arith, ap, sym, ◌∙◌, eqb-true}
use Rattle.std.specs.Prelude.{Some}
use Rattle.std.proofs.lemmas.Bool.{eqb-false}
use Rattle.std.proofs.lemmas.List.{take_all}
use Rattle.geos_model.specs.declared.command.Body.TheVariants.{Raw}
use Rattle.file_format.proofs.KindsLemmas.{told_raw, told_heap}
use Rattle.document_file.proofs.ImageLemmas.{empty_none, long_none, heap_none}
use Rattle.vm_blocks.proofs.FileImages.{raw_read, heap_read, no_heap_image}
use Rattle.vm_blocks.proofs.body.read_image.Goals as goal

pub returns-then-is_empty : goal.returns-then-is_empty
returns-then-is_empty c = empty_none c.args.bytes.now (eqb-true (length c.args.bytes.now) 0 (sym c.is_empty.ensures ∙ c.if-is_empty.true))

pub returns-in-Ok : goal.returns-in-Ok
returns-in-Ok c = heap_read c.args.bytes.now _ c.in-Ok.ensures.ok.0 c.in-Ok.ensures.ok.1

pub returns-in-Err : goal.returns-in-Err
returns-in-Err c = heap_none c.args.bytes.now (told_heap (slice_index c.args.bytes.now 0) c.of_byte.result c.is_heap.result c.of_byte.ensures c.is_heap.ensures c.if-is_heap.true) (no_heap_image c.args.bytes.now c.in-Err.ensures.err.1)

pub returns-then-bytes : goal.returns-then-bytes
returns-then-bytes c = long_none c.args.bytes.now (omega arith)

pub returns : goal.returns
returns c =
    let some = eqb-false (length c.args.bytes.now) 0 (sym c.is_empty.ensures ∙ c.if-is_empty.false) in
    raw_read c.args.bytes.now (omega (arith, some)) (told_raw (slice_index c.args.bytes.now 0) c.of_byte.result c.is_heap.result c.of_byte.ensures c.is_heap.ensures c.if-is_heap.false) (omega arith) ∙ ap (λ r. Some (Raw r)) (sym (take_all (length c.args.bytes.now - 1) (drop 1 c.args.bytes.now) (omega (arith, length-drop 1 c.args.bytes.now))) ∙ sym c.fill.ensures)
