use Rattle.std.proofs.Common.{◌≡◌, ◌^◌, ◌-◌, min, take}
use Rattle.std.specs.List.{sum_by}
use Rattle.chunk_edits.specs.Spans.{extent}
use Rattle.chunk_edits.proofs.held.size_of_spans.Given as goal

abbrev pub invariant-loop-span : goal.invariant-loop-span
invariant-loop-span l = l.size ≡ min (sum_by (extent l.fn.direction) (take l.span-index l.spans)) (2 ^ 64 - 1)
