use Rattle.std.proofs.Common.{◌≡◌, ◌++◌, ◌-◌, drop, length}
use Rattle.document_dump.specs.Lines.{text}
use Rattle.document_dump.specs.Arrays.{elements_inserted}
use Rattle.document_dump.proofs.arrays.push_elements.Given as goal

abbrev pub invariant-loop-i : goal.invariant-loop-i
invariant-loop-i l = l.out.items ≡ l.fn.out.items ++ text (elements_inserted l.block l.chunk (drop (length l.view.array.elements - l.i) l.view.array.elements))
