use Rattle.std.proofs.Common.{◌≡◌, ◌^◌, ◌-◌, min, take}
use Rattle.std.specs.List.{sum_by}
use Rattle.chunk_edits.specs.Spans.{most}
use Rattle.chunk_edits.proofs.held.peak_of_spans.Given as goal

abbrev pub invariant-loop-span : goal.invariant-loop-span
invariant-loop-span l = l.peak ≡ min (sum_by most (take l.span-index l.spans)) (2 ^ 64 - 1)
