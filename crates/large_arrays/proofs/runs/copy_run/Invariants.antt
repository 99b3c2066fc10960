use Rattle.std.proofs.Common.{◌≡◌, ◌≤◌, ◌<◌, ◌+◌, ◌++◌, true, length, take, drop, get_or}
use Rattle.geos_model.specs.Pieces.{elements_in_pieces}
use Rattle.large_arrays.specs.Spots.{counts_of}
use Rattle.large_arrays.specs.LargeRuns.{are_branches_under, pieces_under, run_under}
use Rattle.large_arrays.proofs.CopiedRuns.{joined_bytes}
use Rattle.geos_model.proofs.OverwrittenPieces.{sum}
use Rattle.vm_blocks.specs.Keeping.{KeepsBlocks, IsHonest}
use Rattle.large_arrays.proofs.runs.copy_run.Given as goal

-- what is copied and what is left are the run
abbrev pub invariant-loop-link : goal.invariant-loop-link
invariant-loop-link g l = record {
  keeps : KeepsBlocks g.S.Store.facts l.fn.blocks l.blocks;
  first : l.link-index < length l.spot.links.items → l.from ≤ get_or (counts_of l.spot.links.items) l.link-index 0;
  few : l.from + l.left ≤ l.spot.before + l.spot.count;
  all : l.from + l.left ≤ sum (drop l.link-index (counts_of l.spot.links.items));
  tested : IsHonest g.S.Store.facts l.fn.blocks.disk.store → are_branches_under l.fn.blocks.document l.spot.size (take l.link-index l.spot.links.items) ≡ true;
  bytes : IsHonest g.S.Store.facts l.fn.blocks.disk.store
      → l.bytes.items ++ joined_bytes (take l.left (drop l.from (elements_in_pieces (drop l.link-index (pieces_under l.fn.blocks.document l.spot.size l.spot.links.items)))))
      ≡ run_under l.fn.blocks.document l.spot;
}
