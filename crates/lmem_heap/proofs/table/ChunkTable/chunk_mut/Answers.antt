use Rattle.std.proofs.Common.{◌∙◌, refl}
use Rattle.lmem_heap.proofs.StoredLemmas.{in_table}
use Rattle.lmem_heap.proofs.LendsChunkLemmas.{run_bytes, lent_stored, lent_shows}
use Rattle.lmem_heap.proofs.table.ChunkTable.chunk_mut.Goals as goal

pub find_run-run-requires-clause-slot : goal.find_run-run-requires-clause-slot
find_run-run-requires-clause-slot c = in_table c.self.inside.space c.args.self.now c.args.i c.self.invariant c.self.view_is c.requires.slot

pub slice_mut-requires : goal.slice_mut-requires
slice_mut-requires c = c.find_run-run.ensures.ends

pub invariant_of-self-lent : goal.invariant_of-self-lent
invariant_of-self-lent c = λ w. let s = c.self.inside.space in let r = c.find_run-run in
    lent_stored s c.args.self.now c.args.i r.result.from r.result.size c.self.invariant c.self.view_is c.requires.slot r.ensures c.requires.live w

pub returns : goal.returns
returns c =
    let s = c.self.inside.space in let r = c.find_run-run in (
      (refl, λ w. lent_shows s c.args.self.now c.args.i r.result.from r.result.size c.self.invariant c.self.view_is c.requires.slot r.ensures c.requires.live w),
      record { writes_back = tt; value = c.slice_mut.ensures.value ∙ run_bytes s c.args.self.now c.args.i r.result.from r.result.size c.self.invariant c.self.view_is c.requires.slot r.ensures },
    )
