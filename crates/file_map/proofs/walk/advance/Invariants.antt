use Rattle.std.proofs.Common.{◌-◌, length}
use Rattle.file_map.specs.Walks.{IsPartWalk}
use Rattle.file_map.proofs.walk.advance.Given as goal

abbrev pub invariant-loop-walk : goal.invariant-loop-walk
invariant-loop-walk l = IsPartWalk l.parts l.page l.walk

abbrev pub decreases-loop-walk : goal.decreases-loop-walk
decreases-loop-walk l = length l.parts - l.walk.next
