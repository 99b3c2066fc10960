use Rattle.std.proofs.Common.{◌≡◌, ◌*◌, ◌≤◌, take}
use Rattle.heap_images.specs.Packed.{slots_in}
use Rattle.heap_images.specs.Slots.{space_in}
use Rattle.heap_images.proofs.reading.space_total.Given as goal

abbrev pub invariant-loop-i : goal.invariant-loop-i
invariant-loop-i l = (l.space ≡ space_in (take l.i (slots_in l.slots l.rest))) × (l.space ≤ 70000 * l.i)
