use Rattle.std.proofs.Common.{ℕ, List, Some, refl, subst}
use Rattle.document_tools.specs.Endings.{PrintsLine}
use Rattle.document_tools.proofs.request.tell_no_request.Goals as goal

-- What clap says is written as it is.
pub returns-in-Usage : goal.returns-in-Usage
returns-in-Usage g c =
    rw c.in-Usage.is ((refl, subst (λ (line : List ℕ). PrintsLine g.E.Sink.writes (Some line) c.args.errors.now c.complain.new.errors) c.as_slice.ensures c.complain.ensures), refl)
