use Rattle.std.proofs.Common.{◌≡◌, ◌≤◌, length, drop, arith, ap, sym}
use Rattle.std.proofs.lemmas.List.{length-drop}
use Rattle.std.proofs.lemmas.Slice.{between_to_end}
use Rattle.std.specs.List as list
use Rattle.heap_images.specs.Packed.{slots_in}
use Rattle.heap_images.proofs.PackedLemmas.{length-slots_in}
use Rattle.heap_images.proofs.HeapImageLemmas.{no_image_begin, no_image_long, no_image_table, no_image_heap, heap_table, found_none, found_some}
use Rattle.heap_images.proofs.reading.heap_slots.Goals.{then-not-is_table-via-then-not-is_table, then-not-is_table-via-else-not-is_table+then-not-is_heap}
use Rattle.heap_images.proofs.reading.heap_slots.Goals as goal

pub returns-in_err-slots-clause-image : goal.returns-in_err-slots-clause-image
returns-in_err-slots-clause-image c = rw c.from_residual.ensures (found_none c.args.bytes.now (no_image_begin c.args.bytes.now c.in_err-slots.ensures))

pub returns-then-bytes-clause-image : goal.returns-then-bytes-clause-image
returns-then-bytes-clause-image c = found_none c.args.bytes.now (no_image_long c.args.bytes.now (omega arith))

pub returns-then-not-is_table-clause-image : goal.returns-then-not-is_table-clause-image
returns-then-not-is_table-clause-image c =
    let bytes = c.args.bytes.now in let rest = list.between 3 (length bytes) bytes in let n = c.in_ok-slots.slots in
    let behind : rest ≡ drop 3 bytes = between_to_end bytes 3 (length bytes) (omega arith) in
    let short : length rest ≤ 65520 = omega (arith, ap length behind, length-drop 3 bytes, c.if-bytes.false) in
    found_none bytes (elim c.then-not-is_table.branch [
      | then-not-is_table-via-then-not-is_table w ↦ no_image_table n bytes rest c.in_ok-slots.ensures.0 c.in_ok-slots.ensures.1 behind (c.is_table.ensures.no w.if-not-is_table.true)
      | then-not-is_table-via-else-not-is_table+then-not-is_heap w ↦
          no_image_heap n bytes rest (slots_in n rest) c.in_ok-slots.ensures.0 c.in_ok-slots.ensures.1 behind short (length-slots_in n rest) (sym (c.is_table.ensures.yes w.if-not-is_table.false).whole) (w.is_heap.ensures.no w.if-not-is_heap.true)
    ])

pub returns-clause-image : goal.returns-clause-image
returns-clause-image c =
    let bytes = c.args.bytes.now in let rest = list.between 3 (length bytes) bytes in let n = c.in_ok-slots.slots in
    let behind : rest ≡ drop 3 bytes = between_to_end bytes 3 (length bytes) (omega arith) in
    found_some n bytes (heap_table n bytes rest c.in_ok-slots.ensures.1 behind (c.is_table.ensures.yes c.if-not-is_table.false) (c.is_heap.ensures.yes c.if-not-is_heap.false))
