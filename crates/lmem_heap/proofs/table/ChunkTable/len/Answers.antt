use Rattle.lmem_heap.proofs.StoredLemmas.{shown, room_shown, shown_disjoint, shown_behind}
use Rattle.lmem_heap.proofs.table.ChunkTable.len.Goals as goal

pub returns-clause-chunks : goal.returns-clause-chunks
returns-clause-chunks c = (shown c.self.inside.space c.args.self.now c.self.view_is).count

pub returns-clause-offsets : goal.returns-clause-offsets
returns-clause-offsets c = (shown c.self.inside.space c.args.self.now c.self.view_is).count_offsets

pub returns-clause-room : goal.returns-clause-room
returns-clause-room c = room_shown c.self.inside.space c.args.self.now c.self.invariant c.self.view_is

pub returns-clause-apart : goal.returns-clause-apart
returns-clause-apart c = shown_disjoint c.self.inside.space c.args.self.now c.self.invariant c.self.view_is

pub returns-clause-behind : goal.returns-clause-behind
returns-clause-behind c = shown_behind c.self.inside.space c.args.self.now c.self.invariant c.self.view_is
