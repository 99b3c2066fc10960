use Rattle.std.proofs.Common.{◌≡◌, ℕ, ◌<◌, true, is_some}
use Rattle.large_arrays.specs.Bodies.{bytes_of_bodies}
use Rattle.large_arrays.specs.RunReading.{run_read}
use Rattle.large_arrays.proofs.middle.test_between.Given as goal

-- those before are read
abbrev pub invariant-loop-n : goal.invariant-loop-n
invariant-loop-n l = (m : ℕ) → m < l.n → 0 < m → is_some (run_read l.fn.spot (bytes_of_bodies l.fn.bodies) m) ≡ true
