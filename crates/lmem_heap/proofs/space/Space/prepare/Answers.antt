use Rattle.std.proofs.Common.{arith}
use Rattle.lmem_heap.proofs.EntryLemmas.{IsLivePiece, piece_read, detached_room, detached_well_formed}
use Rattle.lmem_heap.proofs.MovingLemmas.{copied_detached, copied_unmoved, ready_bytes}
use Rattle.lmem_heap.proofs.space.Space.prepare.Goals.{After-live_piece-p}
use Rattle.lmem_heap.proofs.space.Space.prepare.Goals as goal

piece : (c : After-live_piece-p) → IsLivePiece c.args.self.now (detached_well_formed c.requires.detached) c.args.i c.live_piece-p.result.place c.live_piece-p.result.size
piece c = piece_read (detached_well_formed c.requires.detached) c.args.i c.live_piece-p.result.place c.live_piece-p.result.size c.requires.slot c.requires.live c.live_piece-p.ensures.place c.live_piece-p.ensures.size

pub copy_piece-requires-clause-target : goal.copy_piece-requires-clause-target
copy_piece-requires-clause-target c = let room = detached_room c.requires.detached in omega (arith)

pub returns-clause-detached : goal.returns-clause-detached
returns-clause-detached c = copied_detached c.args.self.now c.args.q c.args.n c.requires.detached c.copy_piece.ensures

pub returns-clause-unmoved : goal.returns-clause-unmoved
returns-clause-unmoved c = copied_unmoved c.args.self.now c.args.q c.args.n c.requires.detached c.copy_piece.ensures

pub returns-clause-ready : goal.returns-clause-ready
returns-clause-ready c =
    ready_bytes c.args.self.now (detached_well_formed c.requires.detached) c.copy_piece.new.region c.args.i c.live_piece-p.result.place c.args.q c.live_piece-p.result.size c.args.n (piece (goal.at.returns-clause-ready c).After-live_piece-p) c.requires.slot c.copy_piece.ensures (copied_unmoved c.args.self.now c.args.q c.args.n c.requires.detached c.copy_piece.ensures).chunks
