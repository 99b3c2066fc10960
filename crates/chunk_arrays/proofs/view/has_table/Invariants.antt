use Rattle.std.proofs.Common.{◌≡◌, ◌<◌, ◌≤◌, ℕ, ◌+◌, ◌-◌}
use Rattle.chunk_arrays.specs.Parts.{place_at}
use Rattle.chunk_arrays.proofs.view.has_table.Given as goal

abbrev pub invariant-loop-i : goal.invariant-loop-i
invariant-loop-i l = record {
  last : l.last ≡ place_at l.bytes l.start (l.i - 1);
  rising : (k : ℕ) → k + 1 < l.i → place_at l.bytes l.start k ≤ place_at l.bytes l.start (k + 1);
}
