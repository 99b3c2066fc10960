use Rattle.std.proofs.Common.{arith}
use Rattle.lmem_heap.proofs.EntryLemmas.{entry_ends, next_well_formed}
use Rattle.lmem_heap.proofs.ResizingLemmas.{IsNextFor, next_for, next_head, absorbed, absorb_resized}
use Rattle.lmem_heap.proofs.space.Space.absorb.Goals.{After-word_in-size}
use Rattle.lmem_heap.proofs.space.Space.absorb.Goals as goal

next : (c : After-word_in-size) → IsNextFor c.args.self.now c.args.i c.entry-p.result c.word_in-size.result c.args.n
next c = let s = c.args.self.now in next_for s c.args.i c.entry-p.result c.word_in-size.result c.args.n c.requires.slot c.entry-p.ensures.value c.word_in-size.ensures.value c.requires.more c.requires.next

pub entry-p-requires : goal.entry-p-requires
entry-p-requires c = omega (arith, entry_ends (next_well_formed c.requires.next) c.args.i c.requires.slot)

pub word_in-size-requires : goal.word_in-size-requires
word_in-size-requires c = let s = c.args.self.now in omega (arith, next_head s c.args.i c.entry-p.result c.requires.slot c.entry-p.ensures.value c.requires.next)

pub set_size-requires-clause-within : goal.set_size-requires-clause-within
set_size-requires-clause-within c = let f = next (goal.at.set_size-requires-clause-within c).After-word_in-size in omega (arith, f.more, f.beside.ends)

pub set_size-requires-clause-held : goal.set_size-requires-clause-held
set_size-requires-clause-held c = let f = next (goal.at.set_size-requires-clause-held c).After-word_in-size in omega (arith, f.more, f.beside.ends)

pub set_size-requires-clause-long : goal.set_size-requires-clause-long
set_size-requires-clause-long c = c.requires.next.held.tiled.long

pub piece_space-requires : goal.piece_space-requires
piece_space-requires c = let f = next (goal.at.piece_space-requires c).After-word_in-size in omega (arith, f.more, f.beside.ends)

pub overflow_sub-self : goal.overflow_sub-self
overflow_sub-self c = let f = next (goal.at.overflow_sub-self c).After-word_in-size in omega (arith, f.more)

pub overflow_add-self : goal.overflow_add-self
overflow_add-self c = let f = next (goal.at.overflow_add-self c).After-word_in-size in record { fits = omega (arith, f.beside.small) }

pub returns-clause-well_formed : goal.returns-clause-well_formed
returns-clause-well_formed c = let f = next (goal.at.returns-clause-well_formed c).After-word_in-size in
    rw (c.piece_space.ensures, c.piece_space-2.ensures) (absorbed c.args.self.now c.set_size.new.region c.args.i c.entry-p.result c.word_in-size.result c.args.n f.next f.beside c.requires.slot f.more c.set_size.ensures)

pub returns-clause-resized : goal.returns-clause-resized
returns-clause-resized c = let f = next (goal.at.returns-clause-resized c).After-word_in-size in
    rw (c.piece_space.ensures, c.piece_space-2.ensures) (absorb_resized c.args.self.now c.set_size.new.region c.args.i c.entry-p.result c.word_in-size.result c.args.n f.next f.beside c.requires.slot f.more c.set_size.ensures)
