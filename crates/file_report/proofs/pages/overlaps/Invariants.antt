use Rattle.std.proofs.Common.{All, take}
use Rattle.std.specs.List.Sorted.{IsNonDecreasingBy}
use Rattle.file_report.specs.Pages.{DoOverlap}
use Rattle.file_report.proofs.OverlapLemmas.{IsSwept}
use Rattle.file_report.proofs.pages.overlaps.Given as goal

-- those so far overlap, and the extents so far are walked over
abbrev pub invariant-loop-usage : goal.invariant-loop-usage
invariant-loop-usage l = record {
  overlap : All DoOverlap l.pairs.items;
  swept : IsNonDecreasingBy (λ u. u.extent.page) l.usages → IsSwept (take l.usage-index l.usages) l.pairs.items l.furthest;
}
