use Rattle.std.proofs.Common.{ℕ, List, Some, subst}
use Rattle.document_tools.specs.Endings.{PrintsLine}
use Rattle.document_tools.proofs.ending.Ending.tell_line.Goals as goal

-- The line is written as it is.
pub returns-in-Refused : goal.returns-in-Refused
returns-in-Refused g c =
    rw c.in-Refused.is (subst (λ (line : List ℕ). PrintsLine g.E.Sink.writes (Some line) c.args.errors.now c.complain.new.errors) c.as_slice.ensures c.complain.ensures)

pub returns-in-Uncompared : goal.returns-in-Uncompared
returns-in-Uncompared g c =
    rw c.in-Uncompared.is (subst (λ (line : List ℕ). PrintsLine g.E.Sink.writes (Some line) c.args.errors.now c.complain-in-Uncompared.new.errors) c.line.ensures c.complain-in-Uncompared.ensures)
