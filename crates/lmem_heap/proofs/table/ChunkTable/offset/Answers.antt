use Rattle.lmem_heap.proofs.StoredLemmas.{in_chunks, place_is, place_there, place_within}
use Rattle.lmem_heap.proofs.table.ChunkTable.offset.Goals as goal

pub offset-requires-clause-slot : goal.offset-requires-clause-slot
offset-requires-clause-slot c = in_chunks c.self.inside.space c.args.self.now c.args.i c.self.invariant c.self.view_is c.requires

pub returns-clause-place : goal.returns-clause-place
returns-clause-place c = place_is c.self.inside.space c.args.self.now c.args.i c.self.invariant c.self.view_is c.requires c.offset.result c.offset.ensures.place

pub returns-clause-there : goal.returns-clause-there
returns-clause-there c = place_there c.self.inside.space c.args.self.now c.args.i c.self.invariant c.self.view_is c.requires c.offset.result c.offset.ensures.place

pub returns-clause-within : goal.returns-clause-within
returns-clause-within c = place_within c.self.inside.space c.args.self.now c.args.i c.self.invariant c.self.view_is c.requires c.offset.result c.offset.ensures.place
