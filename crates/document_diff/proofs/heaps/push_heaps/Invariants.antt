use Rattle.std.proofs.Common.{◌+◌, length}
use Rattle.document_diff.proofs.Merged.{IsMerging}
use Rattle.document_diff.proofs.heaps.push_heaps.Given as goal

abbrev pub invariant-loop-chunk : goal.invariant-loop-chunk
invariant-loop-chunk l = IsMerging l.block l.old.chunks l.new.chunks l.fn.out.items l.out.items l.before l.after

abbrev pub decreases-loop-chunk : goal.decreases-loop-chunk
decreases-loop-chunk l = length l.before + length l.after
