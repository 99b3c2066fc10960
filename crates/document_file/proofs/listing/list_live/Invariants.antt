use Rattle.std.proofs.Common.{◌≡◌, ◌≤◌, map, take, vec_capacity}
use Rattle.document_file.proofs.ListingLemmas.{handles_from}
use Rattle.document_file.proofs.listing.list_live.Given as goal

abbrev pub invariant-loop-i : goal.invariant-loop-i
invariant-loop-i l =
    (map (λ h. h.0) l.handles.items ≡ handles_from 1 (take l.i l.places))
    × (vec_capacity l.fn.handles ≤ vec_capacity l.handles)
