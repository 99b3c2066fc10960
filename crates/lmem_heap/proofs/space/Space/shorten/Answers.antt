use Rattle.std.proofs.Common.{◌<◌, arith}
use Rattle.lmem_heap.specs.Pieces.{piece_space}
use Rattle.lmem_heap.proofs.EntryLemmas.{IsLivePiece, piece_read}
use Rattle.lmem_heap.proofs.ResizingLemmas.{shortened, short_resized}
use Rattle.lmem_heap.proofs.space.Space.shorten.Goals.{After-live_piece-p}
use Rattle.lmem_heap.proofs.space.Space.shorten.Goals as goal

piece : (c : After-live_piece-p) → IsLivePiece c.args.self.now c.requires.well_formed c.args.i c.live_piece-p.result.place c.live_piece-p.result.size
piece c = piece_read c.requires.well_formed c.args.i c.live_piece-p.result.place c.live_piece-p.result.size c.requires.slot c.requires.live c.live_piece-p.ensures.place c.live_piece-p.ensures.size

less : (c : After-live_piece-p) → piece_space c.args.n < piece_space c.live_piece-p.result.size
less c = omega (arith, (piece c).value, c.requires.less)

pub overflow_sub-self : goal.overflow_sub-self
overflow_sub-self c = omega (arith, (piece (goal.at.overflow_sub-self c).After-live_piece-p).less)

pub returns-clause-detached : goal.returns-clause-detached
returns-clause-detached c =
    rw (c.piece_space-room.ensures, c.piece_space.ensures) (shortened c.args.self.now c.requires.well_formed c.set_size.new.region c.set_word.new.region c.args.i c.live_piece-p.result.place c.live_piece-p.result.size c.args.n (piece (goal.at.returns-clause-detached c).After-live_piece-p) c.requires.slot c.requires.some (less (goal.at.returns-clause-detached c).After-live_piece-p) c.set_size.ensures (rw (c.piece_space-room.ensures, c.piece_space.ensures) at c.set_word.ensures))

pub returns-clause-resized : goal.returns-clause-resized
returns-clause-resized c =
    rw (c.piece_space-room.ensures, c.piece_space.ensures) (short_resized c.args.self.now c.requires.well_formed c.set_size.new.region c.set_word.new.region c.args.i c.live_piece-p.result.place c.live_piece-p.result.size c.args.n (piece (goal.at.returns-clause-resized c).After-live_piece-p) c.requires.slot c.requires.some (less (goal.at.returns-clause-resized c).After-live_piece-p) c.set_size.ensures (rw (c.piece_space-room.ensures, c.piece_space.ensures) at c.set_word.ensures))
