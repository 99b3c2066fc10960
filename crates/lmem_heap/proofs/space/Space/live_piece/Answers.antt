use Rattle.std.proofs.Common.{arith}
use Rattle.lmem_heap.proofs.EntryLemmas.{IsLivePiece, entry_ends, head_ends, piece_read}
use Rattle.lmem_heap.proofs.space.Space.live_piece.Goals.{After-word_in}
use Rattle.lmem_heap.proofs.space.Space.live_piece.Goals as goal

piece : (c : After-word_in) → IsLivePiece c.args.self.now c.requires.held.1 c.args.i c.entry-place.result c.word_in.result
piece c = piece_read c.requires.held.1 c.args.i c.entry-place.result c.word_in.result c.requires.slot c.requires.live c.entry-place.ensures.value c.word_in.ensures.value

pub entry-place-requires : goal.entry-place-requires
entry-place-requires c = omega (arith, entry_ends c.requires.held.1 c.args.i c.requires.slot)

pub word_in-requires : goal.word_in-requires
word_in-requires c = head_ends c.requires.held.1 c.args.i c.entry-place.result c.requires.slot c.requires.live c.entry-place.ensures.value

pub returns-clause-ends : goal.returns-clause-ends
returns-clause-ends c = omega (arith, (piece (goal.at.returns-clause-ends c).After-word_in).ends)

pub returns-clause-some : goal.returns-clause-some
returns-clause-some c = omega (arith, c.entry-place.ensures.value, c.requires.live)
