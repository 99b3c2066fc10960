use Rattle.std.proofs.Common.{◌≡◌, map}
use Rattle.std.specs.List.{range_with_len}
use Rattle.file_salvage.specs.Entries.{free_beside}
use Rattle.file_salvage.proofs.entries.frees_beside.Given as goal

abbrev pub invariant-loop-i : goal.invariant-loop-i
invariant-loop-i l = l.frees.items ≡ map (free_beside l.bytes l.damages l.numbers l.row) (range_with_len 0 l.i)
