use Rattle.std.proofs.Common.{◌≡◌, ◌≤◌, ℕ, get_or, is_some, false, length, None}
use Rattle.document_file.proofs.listing.live_end.Given as goal

abbrev pub invariant-loop-end : goal.invariant-loop-end
invariant-loop-end l = record {
  within : l.end ≤ length l.places;
  past : (k : ℕ) → l.end ≤ k → is_some (get_or l.places k None) ≡ false;
}

abbrev pub decreases-loop-end : goal.decreases-loop-end
decreases-loop-end l = l.end
