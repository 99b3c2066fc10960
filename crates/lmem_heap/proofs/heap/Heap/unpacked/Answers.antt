use Rattle.std.proofs.Common.{◌≡◌, length, drop, arith, ap, ◌∙◌}
use Rattle.std.proofs.lemmas.Slice.{between_to_end}
use Rattle.std.specs.List as list
use Rattle.geos_model.proofs.Table.{table_map}
use Rattle.heap_images.specs.Packed.{slots_in}
use Rattle.heap_images.proofs.HeapImageLemmas.{image_again}
use Rattle.lmem_heap.proofs.heap.Heap.unpacked.Goals as goal

pub returns : goal.returns
returns c =
    let bytes = c.args.bytes.now in let n = c.args.slots in
    let behind : list.between 3 (length bytes) bytes ≡ drop 3 bytes = between_to_end bytes 3 (length bytes) (omega arith) in
    let is = image_again n bytes (table_map 2 16 c.unpack-table.result.chunks) c.requires (ap (table_map 2 16) (c.unpack-table.ensures ∙ ap (slots_in n) behind)) in
    record { image = is.0; valid = is.1 }
