use Rattle.std.proofs.Common.{◌≡◌, ◌+◌, ◌≤◌, slice_range}
use Rattle.raw_region.specs.Bytes.{put}
use Rattle.raw_region.proofs.moving.move_up.Given as goal

abbrev pub invariant-loop-left : goal.invariant-loop-left
invariant-loop-left l = (l.left ≤ l.n) × (l.bytes ≡ put l.fn.bytes (l.to + l.left) (slice_range l.fn.bytes (l.from + l.left) (l.from + l.n)))

abbrev pub decreases-loop-left : goal.decreases-loop-left
decreases-loop-left l = l.left
