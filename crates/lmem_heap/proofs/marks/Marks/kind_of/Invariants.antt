use Rattle.std.proofs.Common.{◌≡◌, drop}
use Rattle.lmem_heap.specs.Marks.{kind_in}
use Rattle.lmem_heap.proofs.marks.Marks.kind_of.Given as goal

abbrev pub invariant-loop-mark : goal.invariant-loop-mark
invariant-loop-mark l = kind_in l.self.list.items l.slot ≡ kind_in (drop l.mark-index l.self.list.items) l.slot
