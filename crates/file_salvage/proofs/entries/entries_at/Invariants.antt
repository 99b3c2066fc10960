use Rattle.std.proofs.Common.{◌≡◌, map, take}
use Rattle.file_salvage.specs.Entries.{taken_at}
use Rattle.file_salvage.proofs.entries.entries_at.Given as goal

abbrev pub invariant-loop-i : goal.invariant-loop-i
invariant-loop-i l = l.entries.items ≡ map (taken_at l.bytes l.damages) (take l.i-index l.row)
