use Rattle.std.proofs.Common.{◌∙◌}
use Rattle.lmem_heap.proofs.FoundLemmas.{found_slot, found_run}
use Rattle.lmem_heap.proofs.LendsChunkLemmas.{run_bytes}
use Rattle.lmem_heap.proofs.table.ChunkTable.bytes.Goals as goal

pub returns : goal.returns
returns c =
    let s = c.self.inside.space in let m = c.args.self.now in let f = c.args.found in let stored = c.self.invariant in let is = c.requires in
    c.slice.ensures.value ∙ run_bytes s m f.slot f.run.from f.run.size stored c.self.view_is (found_slot m f is) (found_run s m f stored c.self.view_is is)
