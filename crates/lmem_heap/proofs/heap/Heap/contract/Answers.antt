use Rattle.std.proofs.Common.{refl}
use Rattle.lmem_heap.specs.Placed.{placed_in}
use Rattle.lmem_heap.proofs.StoredLemmas.{shown_last}
use Rattle.lmem_heap.proofs.heap.Heap.contract.Goals as goal

pub returns-clause-last : goal.returns-clause-last
returns-clause-last c = shown_last c.pack.new.self (placed_in c.pack.new.self) refl c.pack.ensures.last
