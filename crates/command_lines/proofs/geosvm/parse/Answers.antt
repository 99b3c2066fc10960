use Rattle.std.proofs.Common.{◌≡◌, map, refl, subst, true}
use Rattle.std.proofs.lemmas.Result.{IfOk-weaker}
use Rattle.clap.specs.Words.{App, FailsBy, HasMatchesOf, fault_of, is_simple_and_free}
use Rattle.command_lines.proofs.Matched.{matched}
use Rattle.command_lines.proofs.geosvm.parse.Goals as goal

pub returns-clause-matched : goal.returns-clause-matched
returns-clause-matched g c =
    IfOk-weaker c.try_get_matches_from.result _ _ (λ m p. matched c.in_ok-command.field-0 m c.in_ok-command.ensures p) c.try_get_matches_from.ensures.parsed

pub returns-clause-rows : goal.returns-clause-rows
returns-clause-rows g c =
    let words = map g.S.AsStr.text c.args.words.now in
    IfOk-weaker c.try_get_matches_from.result _ _ (λ m has. (subst (λ (a : App). HasMatchesOf a words m) c.in_ok-command.ensures has refl).0) c.try_get_matches_from.ensures.matches

pub returns-clause-kinds : goal.returns-clause-kinds
returns-clause-kinds g c =
    let words = map g.S.AsStr.text c.args.words.now in
    subst (λ (a : App). is_simple_and_free a ≡ true → FailsBy (fault_of a words) c.try_get_matches_from.result) c.in_ok-command.ensures c.try_get_matches_from.ensures.kinds refl
