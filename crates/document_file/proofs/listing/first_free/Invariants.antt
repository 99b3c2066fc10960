use Rattle.std.proofs.Common.{◌≡◌, ◌<◌, ℕ, get_or, is_some, true, None}
use Rattle.document_file.proofs.listing.first_free.Given as goal

abbrev pub invariant-loop-i : goal.invariant-loop-i
invariant-loop-i l = (k : ℕ) → k < l.i → is_some (get_or l.places k None) ≡ true
