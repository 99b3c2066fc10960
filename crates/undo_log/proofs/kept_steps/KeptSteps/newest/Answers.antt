use Rattle.std.proofs.Common.{◌≡◌, [], sym, subst, ap, ◌∙◌}
use Rattle.std.specs.Prelude.{MatchOption}
use Rattle.std.specs.Option.{option_map}
use Rattle.packed_log.specs.Lent.{record_of}
use Rattle.undo_log.specs.Steps.{IsFirst, Steps}
use Rattle.undo_log.proofs.Entries.{is_first, none_first}
use Rattle.undo_log.proofs.kept_steps.KeptSteps.newest.Goals as goal

pub returns-in_err-newest : goal.returns-in_err-newest
returns-in_err-newest c =
    let first = sym (ap (option_map record_of) c.in_err-newest.was) ∙ c.newest.ensures.first in
    subst (λ o. MatchOption o (c.args.self.now.undo ≡ []) (λ step. IsFirst step c.args.self.now.undo)) (sym c.from_residual.ensures)
    (sym (ap (λ (s : Steps). s.undo) c.self.view_is) ∙ none_first c.self.inside.log.before first)

pub returns : goal.returns
returns c =
    let first = sym (ap (option_map record_of) c.in_ok-newest.was) ∙ c.newest.ensures.first in
    subst (λ (s : Steps). IsFirst c.of.result s.undo) c.self.view_is
    (is_first c.self.inside.log.before (record_of c.in_ok-newest.field-0) c.of.result first c.of.ensures.entry c.of.ensures.counted)
