use Rattle.lmem_heap.proofs.StoredLemmas.{in_table, size_small}
use Rattle.lmem_heap.proofs.table.ChunkTable.size.Goals as goal

pub returns-clause-small : goal.returns-clause-small
returns-clause-small c =
    let s = c.self.inside.space in
    size_small s c.args.i c.size.result c.self.invariant.well_formed (in_table s c.args.self.now c.args.i c.self.invariant c.self.view_is c.requires) c.size.ensures
