use Rattle.lmem_heap.proofs.StoredLemmas.{in_table, empty_entry, place_fits}
use Rattle.lmem_heap.proofs.table.ChunkTable.place.Goals as goal

pub place-requires-clause-slot : goal.place-requires-clause-slot
place-requires-clause-slot c = in_table c.self.inside.space c.args.self.now c.args.i c.self.invariant c.self.view_is c.requires.slot

pub place-requires-clause-none : goal.place-requires-clause-none
place-requires-clause-none c = empty_entry c.self.inside.space c.args.self.now c.args.i c.self.invariant c.self.view_is c.requires.slot c.requires.none

pub place-requires-clause-fits : goal.place-requires-clause-fits
place-requires-clause-fits c = place_fits c.self.inside.space c.args.self.now c.args.i c.self.invariant c.self.view_is c.requires.slot c.args.n c.requires.none c.requires.room
