use Rattle.std.proofs.Common.{◌≤◌, ◌-◌, All, take}
use Rattle.document_file.proofs.listing.gap_without.Given as goal

abbrev pub invariant-loop-block : goal.invariant-loop-block
invariant-loop-block l = record {
  start : l.gap ≤ l.fn.gap;
  removals : All (λ h. l.gap ≤ h.0 - 1) (take l.block-index l.removals);
}
