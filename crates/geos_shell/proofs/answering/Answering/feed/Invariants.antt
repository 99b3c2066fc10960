-- The lines before what is left of the piece are answered.
use Rattle.std.proofs.Common.{◌≡◌, ◌++◌, ◌+◌, ◌≤◌, ℕ, List, length}
use Rattle.geos_replies.specs.Holdings.{holding}
use Rattle.geos_shell.specs.Progress.{MovesTo, moment}
use Rattle.geos_shell.proofs.answering.Answering.feed.Given as goal

abbrev pub invariant-loop-end : goal.invariant-loop-end
invariant-loop-end g l =
    (used : List ℕ) × (l.piece ≡ used ++ l.rest)
    × MovesTo g.S.Store.facts l.initial.manner (moment (holding l.initial.session l.initial.target l.initial.former) l.initial.self) used (moment (holding l.session l.target l.former) l.self)
    × (l.self.ended + length l.rest ≤ l.initial.self.ended + length l.piece)

abbrev pub decreases-loop-end : goal.decreases-loop-end
decreases-loop-end g l = length l.rest
