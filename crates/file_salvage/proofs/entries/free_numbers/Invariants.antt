use Rattle.std.proofs.Common.{◌≡◌, map}
use Rattle.std.specs.List.{range_with_len}
use Rattle.file_salvage.specs.Entries.{free_at}
use Rattle.file_salvage.proofs.entries.free_numbers.Given as goal

abbrev pub invariant-loop-i : goal.invariant-loop-i
invariant-loop-i l = l.frees.items ≡ map (free_at l.bytes l.damages) (range_with_len 0 l.i)
