use Rattle.std.proofs.Common.{◌-◌, ◌++◌, length, slice_index, drop, ap, sym, ◌∙◌, arith, length-drop}
use Rattle.std.proofs.lemmas.List.{take_all}
use Rattle.geos_model.specs.declared.command.Body.{Body}
use Rattle.geos_model.specs.declared.command.Body.TheVariants.{Raw}
use Rattle.document_dump.specs.Lines.{text}
use Rattle.document_dump.specs.Changes.{block_made}
use Rattle.std.proofs.lemmas.Result.{IfErr-weaker}
use Rattle.document_dump.specs.Faults.{IsHeapBodyImage, IsBodyImage, IsRefusalOf}
use Rattle.document_dump.proofs.Failing.{image-of_heap, part-narrower}
use Rattle.file_format.proofs.KindsLemmas.{told_raw, told_heap}
use Rattle.file_report.proofs.HeapLemmas.{image-not_empty}
use Rattle.document_dump.proofs.Images.{raw_image}
use Rattle.document_dump.proofs.bodies.push_block.Goals as goal

pub returns-clause-ok : goal.returns-clause-ok
returns-clause-ok c = λ body valid same.
    let bytes = c.args.bytes.now in
    let whole = take_all (length bytes - 1) (drop 1 bytes) (omega (arith, length-drop 1 bytes)) in
    let raw = raw_image body bytes same (told_raw (slice_index bytes 0) c.of_byte.result c.is_heap.result c.of_byte.ensures c.is_heap.ensures c.if-is_heap.false) in
    c.in_ok-push_raw.ensures ∙ ap (λ (b : Body). c.args.out.now.items ++ text (block_made c.args.block c.args.attributes b)) (ap Raw whole ∙ sym raw)

pub returns-then-is_empty-clause-err : goal.returns-then-is_empty-clause-err
returns-then-is_empty-clause-err c = λ i.
    let some = image-not_empty i.0 in
    grind (arith, some, ap length i.2)

pub returns-then-is_heap-clause-err : goal.returns-then-is_heap-clause-err
returns-then-is_heap-clause-err c =
    IfErr-weaker c.push_heap_image.result (IsRefusalOf (IsHeapBodyImage c.args.bytes.now)) (IsRefusalOf (IsBodyImage c.args.bytes.now))
    (λ fault is. part-narrower (IsHeapBodyImage c.args.bytes.now) (IsBodyImage c.args.bytes.now) fault (image-of_heap c.args.bytes.now (told_heap (slice_index c.args.bytes.now 0) c.of_byte.result c.is_heap.result c.of_byte.ensures c.is_heap.ensures c.if-is_heap.true)) is) c.push_heap_image.ensures.err
