use Rattle.std.proofs.Common.{refl, arith}
use Rattle.lmem_heap.specs.Pieces.{piece_space}
use Rattle.lmem_heap.proofs.EntryLemmas.{IsLivePiece, total_small, entry_ends, piece_read, detached_room, detached_well_formed}
use Rattle.lmem_heap.proofs.MovingLemmas.{exchanged, exchange_resized}
use Rattle.lmem_heap.proofs.space.Space.exchange.Goals.{After-live_piece-p}
use Rattle.lmem_heap.proofs.space.Space.exchange.Goals as goal

piece : (c : After-live_piece-p) → IsLivePiece c.args.self.now (detached_well_formed c.requires.detached) c.args.i c.live_piece-p.result.place c.live_piece-p.result.size
piece c = piece_read (detached_well_formed c.requires.detached) c.args.i c.live_piece-p.result.place c.live_piece-p.result.size c.requires.slot c.requires.live c.live_piece-p.ensures.place c.live_piece-p.ensures.size

pub set_entry-requires-clause-within : goal.set_entry-requires-clause-within
set_entry-requires-clause-within c = omega (arith, entry_ends (detached_well_formed c.requires.detached) c.args.i c.requires.slot)

pub set_word-requires-2-clause-within : goal.set_word-requires-2-clause-within
set_word-requires-2-clause-within c = let room = detached_room c.requires.detached in omega (arith)

pub set_word-requires-2-clause-small : goal.set_word-requires-2-clause-small
set_word-requires-2-clause-small c = let room = detached_room c.requires.detached in omega (arith)

pub set_entry-requires-2-clause-within : goal.set_entry-requires-2-clause-within
set_entry-requires-2-clause-within c = omega (arith, entry_ends (detached_well_formed c.requires.detached) c.args.i c.requires.slot)

pub set_entry-requires-2-clause-small : goal.set_entry-requires-2-clause-small
set_entry-requires-2-clause-small c = let room = detached_room c.requires.detached in omega (arith)

pub overflow_sub-self : goal.overflow_sub-self
overflow_sub-self c = rw c.piece_space-room.ensures (piece (goal.at.overflow_sub-self c).After-live_piece-p).less

pub piece_space-requires : goal.piece_space-requires
piece_space-requires c = let room = detached_room c.requires.detached in omega arith

pub overflow_add-self : goal.overflow_add-self
overflow_add-self c = let k = detached_well_formed c.requires.detached in let room = detached_room c.requires.detached in record { fits = omega (arith, c.piece_space.ensures, total_small c.args.self.now k.pieces k.free k.held) }

pub returns-clause-detached : goal.returns-clause-detached
returns-clause-detached c =
    rw (c.piece_space-room.ensures, c.piece_space.ensures) (exchanged c.args.self.now c.args.i c.live_piece-p.result.place c.args.q c.live_piece-p.result.size c.args.n (piece_space c.args.n) _ c.requires.detached (piece (goal.at.returns-clause-detached c).After-live_piece-p) c.requires.slot c.requires.some refl c.requires.ready c.set_word.new.region c.set_entry.new.region c.set_word-2.new.region c.set_entry-2.new.region (rw c.piece_space-room.ensures at c.set_word.ensures) c.set_entry.ensures c.set_word-2.ensures c.set_entry-2.ensures refl)

pub returns-clause-resized : goal.returns-clause-resized
returns-clause-resized c =
    rw (c.piece_space-room.ensures, c.piece_space.ensures) (exchange_resized c.args.self.now c.args.i c.live_piece-p.result.place c.args.q c.live_piece-p.result.size c.args.n (piece_space c.args.n) _ c.requires.detached (piece (goal.at.returns-clause-resized c).After-live_piece-p) c.requires.slot c.requires.some refl c.requires.ready c.set_word.new.region c.set_entry.new.region c.set_word-2.new.region c.set_entry-2.new.region (rw c.piece_space-room.ensures at c.set_word.ensures) c.set_entry.ensures c.set_word-2.ensures c.set_entry-2.ensures refl)
