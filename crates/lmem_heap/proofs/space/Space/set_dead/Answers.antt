use Rattle.std.proofs.Common.{refl, arith}
use Rattle.lmem_heap.proofs.EditLemmas.{entry_set}
use Rattle.lmem_heap.proofs.EntryLemmas.{deadened, dead_changed, entry_ends}
use Rattle.lmem_heap.proofs.space.Space.set_dead.Goals as goal

pub set_entry-requires-clause-within : goal.set_entry-requires-clause-within
set_entry-requires-clause-within c = omega (arith, entry_ends c.requires.well_formed c.args.i c.requires.slot)

pub set_entry-requires-clause-long : goal.set_entry-requires-clause-long
set_entry-requires-clause-long c = c.requires.well_formed.held.tiled.long

pub returns-clause-well_formed : goal.returns-clause-well_formed
returns-clause-well_formed c = deadened c.args.self.now c.requires.well_formed c.set_entry.new.region c.args.i c.args.e _ c.requires.slot c.requires.none c.requires.dead c.set_entry.ensures refl

pub returns-clause-changed : goal.returns-clause-changed
returns-clause-changed c = dead_changed c.args.self.now c.requires.well_formed c.set_entry.new.region c.args.i c.args.e _ c.requires.slot c.requires.none c.requires.dead c.set_entry.ensures refl

pub returns-clause-entry : goal.returns-clause-entry
returns-clause-entry c = entry_set c.args.i c.set_entry.ensures refl
