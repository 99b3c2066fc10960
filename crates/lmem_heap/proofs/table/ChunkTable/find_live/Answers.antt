use Rattle.lmem_heap.proofs.FoundLemmas.{run_found}
use Rattle.lmem_heap.proofs.StoredLemmas.{in_table}
use Rattle.lmem_heap.proofs.table.ChunkTable.find_live.Goals as goal

pub find_run-requires-clause-slot : goal.find_run-requires-clause-slot
find_run-requires-clause-slot c = in_table c.self.inside.space c.args.self.now c.args.i c.self.invariant c.self.view_is c.requires.slot

pub returns-clause-found : goal.returns-clause-found
returns-clause-found c =
    run_found c.self.inside.space c.args.self.now (record { slot = c.args.i; run = c.find_run.result }) c.self.invariant c.self.view_is c.requires.slot c.requires.live c.find_run.ensures
