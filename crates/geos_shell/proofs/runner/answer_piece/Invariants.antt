-- The bytes before what is left of the piece are answered, and the replies are sent.
use Rattle.std.proofs.Common.{◌≡◌, ◌++◌, ◌+◌, ◌≤◌, [], ℕ, List, length}
use Rattle.geos_replies.specs.Holdings.{holding}
use Rattle.geos_shell.specs.Progress.{AnswersPiece, moment}
use Rattle.geos_shell.proofs.runner.answer_piece.Given as goal

abbrev pub invariant-loop-rest : goal.invariant-loop-rest
invariant-loop-rest g l =
    (used : List ℕ) × (l.piece ≡ used ++ l.rest)
    × AnswersPiece g.S.Store.facts l.initial.manner (moment (holding l.initial.session l.initial.target l.initial.former) l.initial.answering) used (moment (holding l.session l.target l.former) l.answering) (g.W.Sink.contents l.initial.writer) (g.W.Sink.contents l.writer)
    × (l.initial.answering.replies.items ≡ [] → l.answering.replies.items ≡ [])
    × (l.answering.ended + length l.rest ≤ l.initial.answering.ended + length l.piece)

abbrev pub decreases-loop-rest : goal.decreases-loop-rest
decreases-loop-rest g l = length l.rest
