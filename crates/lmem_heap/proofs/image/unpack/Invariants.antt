use Rattle.std.proofs.Common.{◌≡◌, ◌+◌, ◌*◌, length, take}
use Rattle.heap_images.specs.Packed.{slots_in, chunks}
use Rattle.heap_images.proofs.HeapImageLemmas.{so_far}
use Rattle.lmem_heap.proofs.image.unpack.Given as goal

-- the chunks so far are in the table
abbrev pub invariant-loop-i : goal.invariant-loop-i
invariant-loop-i l = record {
  filled : l.table.chunks ≡ so_far (slots_in l.slots l.rest) l.i;
  at : l.at ≡ 2 * l.slots + length (chunks (take l.i (slots_in l.slots l.rest)));
}
