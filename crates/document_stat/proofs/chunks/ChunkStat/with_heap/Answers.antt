use Rattle.std.proofs.Common.{arith, take}
use Rattle.std.specs.FinMap.{get}
use Rattle.geos_model.specs.Heap.{handle_of}
use Rattle.geos_model.proofs.HeapTables.{table_of}
use Rattle.document_stat.specs.Counted.{chunks_under}
use Rattle.document_stat.proofs.Adding.{adds_more_chunks, adds_no_chunk, adds_same_chunks}
use Rattle.file_report.proofs.HeapLemmas.{table_len_le}
use Rattle.document_stat.proofs.HeapChunks.{chunks_all, chunks_in, chunks_more}
use Rattle.document_stat.proofs.chunks.ChunkStat.with_heap.Goals as goal

pub loop-i-init : goal.loop-i-init
loop-i-init c = adds_no_chunk c.args.block.0 c.args.self

pub with_entry-stat-requires : goal.with_entry-stat-requires
with_entry-stat-requires c = omega (arith, c.requires.slots, table_len_le c.args.heap.now.chunks c.requires.valid)

pub loop-i-preserved : goal.loop-i-preserved
loop-i-preserved c =
    let m = c.args.heap.now.chunks in
    let i = c.loop-i.i in
    let b = c.args.block.0 in
    adds_same_chunks b _ _ c.args.self c.with_entry-stat.result (chunks_more m i c.requires.valid (omega (arith, c.requires.slots)))
    (adds_more_chunks b (chunks_in 16 (take i (table_of m))) (chunks_under (handle_of i) (get m (handle_of i))) c.args.self c.loop-i.stat c.with_entry-stat.result c.loop-i.invariant c.with_entry-stat.ensures)

pub returns : goal.returns
returns c =
    let m = c.args.heap.now.chunks in
    adds_same_chunks c.args.block.0 _ _ c.args.self c.loop-i.stat (chunks_all m c.loop-i.i c.requires.valid (omega (arith, c.requires.slots))) c.loop-i.invariant
