use Rattle.std.proofs.Common.{length, slice_index, arith, sym, ◌∙◌, eqb-true}
use Rattle.std.proofs.lemmas.Bool.{eqb-false, leb-true, leb-false}
use Rattle.file_format.proofs.KindsLemmas.{heap_told, told_raw, told_heap}
use Rattle.document_file.proofs.ImageLemmas.{empty_none, raw_image, long_none, heap_image, heap_none, kind_is}
use Rattle.document_file.proofs.kind.image_kind.Goals.{then-is_heap, else-is_heap}
use Rattle.document_file.proofs.kind.image_kind.Goals as goal
use Rattle.file_format.specs.File.{longest_image}

pub returns-then-is_empty : goal.returns-then-is_empty
returns-then-is_empty c = empty_none c.args.bytes.now (eqb-true (length c.args.bytes.now) 0 (sym c.is_empty.ensures ∙ c.if-is_empty.true))

pub returns-then-is_image : goal.returns-then-is_image
returns-then-is_image c =
    let bytes = c.args.bytes.now in let some = eqb-false (length bytes) 0 (sym c.is_empty.ensures ∙ c.if-is_empty.false) in
    let first = slice_index bytes 0 in
    record {
      image = elim c.if-is_heap.branch [
        | then-is_heap w ↦ (heap_image bytes (w.is_image-is_image.ensures.0 (sym w.is_image-is ∙ c.if-is_image.true))).image
        | else-is_heap w ↦ (raw_image bytes (omega (arith, some)) (told_raw first c.of_byte.result c.is_heap-is_heap.result c.of_byte.ensures c.is_heap-is_heap.ensures w.if-is_heap.false) (leb-true (length bytes) longest_image (sym w.is_image-is ∙ c.if-is_image.true))).image
      ];
      kind = heap_told first c.of_byte.result c.is_heap-is_heap.result c.of_byte.ensures c.is_heap-is_heap.ensures ∙ kind_is bytes;
    }

pub returns-else-is_image : goal.returns-else-is_image
returns-else-is_image c =
    let bytes = c.args.bytes.now in
    let first = slice_index bytes 0 in
    elim c.if-is_heap.branch [
      | then-is_heap w ↦ heap_none bytes (told_heap first c.of_byte.result c.is_heap-is_heap.result c.of_byte.ensures c.is_heap-is_heap.ensures w.if-is_heap.true) (λ is. let yes = sym w.is_image-is ∙ c.if-is_image.false in let no = w.is_image-is_image.ensures.1 is in absurd (cc (yes, no)))
      | else-is_heap w ↦ long_none bytes (leb-false (length bytes) longest_image (sym w.is_image-is ∙ c.if-is_image.false))
    ]
