use Rattle.std.proofs.Common.{◌≡◌, ◌∙◌, ap, sym}
use Rattle.lmem_heap.specs.Pieces.{piece_space}
use Rattle.lmem_heap.proofs.EntryLemmas.{IsLivePiece, piece_read}
use Rattle.lmem_heap.proofs.ResizingLemmas.{refitted, refit_resized}
use Rattle.lmem_heap.proofs.space.Space.refit.Goals.{After-live_piece-p}
use Rattle.lmem_heap.proofs.space.Space.refit.Goals as goal

piece : (c : After-live_piece-p) → IsLivePiece c.args.self.now c.requires.well_formed c.args.i c.live_piece-p.result.place c.live_piece-p.result.size
piece c = piece_read c.requires.well_formed c.args.i c.live_piece-p.result.place c.live_piece-p.result.size c.requires.slot c.requires.live c.live_piece-p.ensures.place c.live_piece-p.ensures.size

same : (c : After-live_piece-p) → piece_space c.args.n ≡ piece_space c.live_piece-p.result.size
same c = c.requires.same ∙ ap piece_space (sym (piece c).value)

pub returns-clause-well_formed : goal.returns-clause-well_formed
returns-clause-well_formed c =
    refitted c.args.self.now c.requires.well_formed c.set_size.new.region c.args.i c.live_piece-p.result.place c.live_piece-p.result.size c.args.n (piece (goal.at.returns-clause-well_formed c).After-live_piece-p) c.requires.slot c.requires.some (same (goal.at.returns-clause-well_formed c).After-live_piece-p) c.set_size.ensures

pub returns-clause-resized : goal.returns-clause-resized
returns-clause-resized c =
    refit_resized c.args.self.now c.requires.well_formed c.set_size.new.region c.args.i c.live_piece-p.result.place c.live_piece-p.result.size c.args.n (piece (goal.at.returns-clause-resized c).After-live_piece-p) c.requires.slot c.requires.some (same (goal.at.returns-clause-resized c).After-live_piece-p) c.set_size.ensures
