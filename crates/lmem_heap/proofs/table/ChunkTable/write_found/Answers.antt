use Rattle.std.proofs.Common.{arith}
use Rattle.lmem_heap.proofs.FoundLemmas.{found_slot, found_run}
use Rattle.lmem_heap.proofs.LendsChunkLemmas.{over_stored, over_chunks, over_offsets}
use Rattle.lmem_heap.proofs.table.ChunkTable.write_found.Goals as goal

pub overflow_add-found : goal.overflow_add-found
overflow_add-found c = let is = c.requires.found in record { fits = omega (arith, is.size, is.ends, c.requires.range) }

pub copy_in-requires : goal.copy_in-requires
copy_in-requires c = let is = c.requires.found in omega (arith, is.size, is.ends, c.requires.range)

pub invariant_of-self : goal.invariant_of-self
invariant_of-self c =
    let s = c.self.inside.space in let m = c.args.self.now in let f = c.args.found in let is = c.requires.found in
    over_stored s m f.slot f.run.from f.run.size c.self.invariant c.self.view_is (found_slot m f is) (found_run s m f c.self.invariant c.self.view_is is) is.live c.copy_in.new.self c.args.at c.args.bytes.now (omega (arith, is.size, c.requires.range)) c.copy_in.ensures

pub returns-clause-chunks : goal.returns-clause-chunks
returns-clause-chunks c =
    let s = c.self.inside.space in let m = c.args.self.now in let f = c.args.found in let is = c.requires.found in
    over_chunks s m f.slot f.run.from f.run.size c.self.invariant c.self.view_is (found_slot m f is) (found_run s m f c.self.invariant c.self.view_is is) is.live c.copy_in.new.self c.args.at c.args.bytes.now (omega (arith, is.size, c.requires.range)) c.copy_in.ensures

pub returns-clause-offsets : goal.returns-clause-offsets
returns-clause-offsets c =
    let s = c.self.inside.space in let m = c.args.self.now in let f = c.args.found in let is = c.requires.found in
    over_offsets s m f.slot f.run.from f.run.size c.self.invariant c.self.view_is (found_slot m f is) (found_run s m f c.self.invariant c.self.view_is is) is.live c.copy_in.new.self c.args.at c.args.bytes.now (omega (arith, is.size, c.requires.range)) c.copy_in.ensures
