use Rattle.std.proofs.Common.{◌≡◌, false, take}
use Rattle.large_arrays.specs.Spots.{link_handles}
use Rattle.large_arrays.proofs.Marking.{is_met}
use Rattle.large_arrays.proofs.distinct.has_handle.Given as goal

-- none so far
abbrev pub invariant-loop-link : goal.invariant-loop-link
invariant-loop-link l = is_met l.handle.0 (take l.link-index (link_handles l.links)) ≡ false
