use Rattle.std.proofs.Common.{◌≡◌, ◌+◌, ◌-◌, ◌≤◌, slice_range}
use Rattle.raw_region.specs.Bytes.{put}
use Rattle.raw_region.proofs.moving.move_down.Given as goal

abbrev pub invariant-loop-done : goal.invariant-loop-done
invariant-loop-done l = (l.done ≤ l.n) × (l.bytes ≡ put l.fn.bytes l.to (slice_range l.fn.bytes l.from (l.from + l.done)))

abbrev pub decreases-loop-done : goal.decreases-loop-done
decreases-loop-done l = l.n - l.done
