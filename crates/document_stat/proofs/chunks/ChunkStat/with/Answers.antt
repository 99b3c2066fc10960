use Rattle.document_stat.proofs.Adding.{adds_chunk_array}
use Rattle.document_stat.proofs.chunks.ChunkStat.with.Goals as goal

pub returns : goal.returns
returns c = record {
  all = c.with.ensures;
  arrays = adds_chunk_array c.args.block.0 c.args.chunk.0 c.args.bytes.now c.args.self.arrays c.with_bytes.result c.with_bytes.ensures;
}
