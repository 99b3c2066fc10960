use Rattle.std.proofs.Common.{◌≡◌, ◌++◌, take}
use Rattle.large_bodies.specs.RootEdits.{count_bytes}
use Rattle.large_arrays.proofs.root_edits.push_words.Given as goal

abbrev pub invariant-loop-number : goal.invariant-loop-number
invariant-loop-number l = l.out.items ≡ l.initial.out.items ++ count_bytes (take l.number-index l.numbers)
