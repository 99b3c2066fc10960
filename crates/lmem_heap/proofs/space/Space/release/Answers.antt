use Rattle.std.proofs.Common.{refl, arith}
use Rattle.lmem_heap.specs.Pieces.{piece_space}
use Rattle.lmem_heap.proofs.EditLemmas.{entry_set}
use Rattle.lmem_heap.proofs.EntryLemmas.{IsLivePiece, released, release_changed, entry_ends, piece_read}
use Rattle.lmem_heap.proofs.space.Space.release.Goals.{After-live_piece-p}
use Rattle.lmem_heap.proofs.space.Space.release.Goals as goal

piece : (c : After-live_piece-p) → IsLivePiece c.args.self.now c.requires.well_formed c.args.i c.live_piece-p.result.place c.live_piece-p.result.size
piece c = piece_read c.requires.well_formed c.args.i c.live_piece-p.result.place c.live_piece-p.result.size c.requires.slot c.requires.live c.live_piece-p.ensures.place c.live_piece-p.ensures.size

pub set_entry-requires-clause-within : goal.set_entry-requires-clause-within
set_entry-requires-clause-within c = omega (arith, entry_ends c.requires.well_formed c.args.i c.requires.slot)

pub overflow_sub-self : goal.overflow_sub-self
overflow_sub-self c = rw c.piece_space-room.ensures (piece (goal.at.overflow_sub-self c).After-live_piece-p).less

pub returns-clause-detached : goal.returns-clause-detached
returns-clause-detached c =
    rw c.piece_space-room.ensures (piece_space c.live_piece-p.result.size, released c.args.self.now c.requires.well_formed c.set_word.new.region c.set_entry.new.region c.live_piece-p.result.place c.args.i c.live_piece-p.result.size c.args.e _ (piece (goal.at.returns-clause-detached c).After-live_piece-p) c.requires.slot c.requires.dead (rw c.piece_space-room.ensures at c.set_word.ensures) c.set_entry.ensures refl)

pub returns-clause-changed : goal.returns-clause-changed
returns-clause-changed c =
    rw c.piece_space-room.ensures (release_changed c.args.self.now c.requires.well_formed c.set_word.new.region c.set_entry.new.region c.live_piece-p.result.place c.args.i c.live_piece-p.result.size c.args.e _ (piece (goal.at.returns-clause-changed c).After-live_piece-p) c.requires.slot c.requires.dead (rw c.piece_space-room.ensures at c.set_word.ensures) c.set_entry.ensures refl)

pub returns-clause-total : goal.returns-clause-total
returns-clause-total c = let f = piece (goal.at.returns-clause-total c).After-live_piece-p in omega (arith, f.less, f.value)

pub returns-clause-entry : goal.returns-clause-entry
returns-clause-entry c = entry_set c.args.i c.set_entry.ensures refl
