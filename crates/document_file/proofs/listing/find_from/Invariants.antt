use Rattle.std.proofs.Common.{◌≡◌, drop}
use Rattle.document_file.proofs.ListingLemmas.{found_from}
use Rattle.document_file.proofs.listing.find_from.Given as goal

abbrev pub invariant-loop-i : goal.invariant-loop-i
invariant-loop-i l = found_from l.user_id l.start 0 l.places ≡ found_from l.user_id l.start l.i (drop l.i l.places)
