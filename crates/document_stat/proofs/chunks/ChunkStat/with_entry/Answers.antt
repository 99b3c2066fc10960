use Rattle.std.proofs.Common.{arith}
use Rattle.document_stat.proofs.HeapChunks.{short_chunk}
use Rattle.document_stat.proofs.chunks.ChunkStat.with_entry.Goals as goal

pub with-requires : goal.with-requires
with-requires c = omega (arith, short_chunk c.args.heap.now.chunks _ c.in-Some.bytes.now c.in-Some.ensures.valid c.in-Some.ensures.value)
