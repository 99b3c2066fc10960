use Rattle.std.proofs.Common.{take}
use Rattle.geos_model.proofs.HeapTables.{table_of}
use Rattle.document_stat.specs.Counted.{AddsChunks}
use Rattle.document_stat.proofs.HeapChunks.{chunks_in}
use Rattle.document_stat.proofs.chunks.ChunkStat.with_heap.Given as goal

-- the chunks of the entries so far are counted
abbrev pub invariant-loop-i : goal.invariant-loop-i
invariant-loop-i l = AddsChunks l.block.0 (chunks_in 16 (take l.i (table_of l.heap.chunks))) l.initial.stat l.stat
