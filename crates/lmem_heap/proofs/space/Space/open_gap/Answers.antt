use Rattle.std.proofs.Common.{arith}
use Rattle.lmem_heap.proofs.EntryLemmas.{IsLivePiece, low_ends, piece_read}
use Rattle.lmem_heap.proofs.ResizingLemmas.{gap_opened, gap_open_chunks, gap_entries}
use Rattle.lmem_heap.proofs.space.Space.open_gap.Goals.{After-live_piece-p}
use Rattle.lmem_heap.proofs.space.Space.open_gap.Goals as goal

piece : (c : After-live_piece-p) → IsLivePiece c.args.self.now c.requires.well_formed c.args.i c.live_piece-p.result.place c.live_piece-p.result.size
piece c = piece_read c.requires.well_formed c.args.i c.live_piece-p.result.place c.live_piece-p.result.size c.requires.slot c.requires.live c.live_piece-p.ensures.place c.live_piece-p.ensures.size

pub overflow_sub-end : goal.overflow_sub-end
overflow_sub-end c = let f = piece (goal.at.overflow_sub-end c).After-live_piece-p in omega (arith, f.place)

pub slide-requires-clause-source : goal.slide-requires-clause-source
slide-requires-clause-source c = let f = piece (goal.at.slide-requires-clause-source c).After-live_piece-p in omega (arith, f.place, f.ends)

pub slide-requires-clause-target : goal.slide-requires-clause-target
slide-requires-clause-target c = let f = piece (goal.at.slide-requires-clause-target c).After-live_piece-p in omega (arith, f.place, f.ends)

pub overflow_sub-end-2 : goal.overflow_sub-end-2
overflow_sub-end-2 c = let f = piece (goal.at.overflow_sub-end-2 c).After-live_piece-p in omega (arith, f.place, c.requires.fits)

pub set_word-requires-clause-small : goal.set_word-requires-clause-small
set_word-requires-clause-small c = omega (arith, c.requires.fits, low_ends c.requires.well_formed)

pub lower_entries-requires-clause-within : goal.lower_entries-requires-clause-within
lower_entries-requires-clause-within c = omega (arith, c.requires.fits, low_ends c.requires.well_formed)

pub lower_entries-requires-clause-enough : goal.lower_entries-requires-clause-enough
lower_entries-requires-clause-enough c =
    let f = piece (goal.at.lower_entries-requires-clause-enough c).After-live_piece-p in
    gap_entries c.args.self.now c.requires.well_formed c.slide.new.region c.set_word.new.region c.args.room _ _ _ c.requires.fits (omega (arith, f.place)) c.slide.ensures c.set_word.ensures

pub lower_entries-requires-clause-long : goal.lower_entries-requires-clause-long
lower_entries-requires-clause-long c = let long = c.requires.well_formed.held.tiled.long in omega (arith, c.slide.ensures.long, c.set_word.ensures.long)

pub lower_entries-requires-clause-some : goal.lower_entries-requires-clause-some
lower_entries-requires-clause-some c = omega (arith, (piece (goal.at.lower_entries-requires-clause-some c).After-live_piece-p).table)

pub returns-clause-next : goal.returns-clause-next
returns-clause-next c =
    gap_opened c.args.self.now c.requires.well_formed c.slide.new.region c.set_word.new.region c.lower_entries.new.region c.args.i c.live_piece-p.result.place c.live_piece-p.result.size c.args.room c.requires.packed (piece (goal.at.returns-clause-next c).After-live_piece-p) c.requires.slot c.requires.some c.requires.whole c.requires.fits (rw c.piece_space.ensures at c.slide.ensures) (rw c.piece_space.ensures at c.set_word.ensures) (rw c.piece_space.ensures at c.lower_entries.ensures)

pub returns-clause-chunks : goal.returns-clause-chunks
returns-clause-chunks c =
    gap_open_chunks c.args.self.now c.requires.well_formed c.slide.new.region c.set_word.new.region c.lower_entries.new.region c.args.i c.live_piece-p.result.place c.live_piece-p.result.size c.args.room c.requires.packed (piece (goal.at.returns-clause-chunks c).After-live_piece-p) c.requires.slot c.requires.some c.requires.whole c.requires.fits (rw c.piece_space.ensures at c.slide.ensures) (rw c.piece_space.ensures at c.set_word.ensures) (rw c.piece_space.ensures at c.lower_entries.ensures)
