use Rattle.std.proofs.Common.{◌≡◌, map, refl, subst, true}
use Rattle.std.specs.Prelude.{IfErr}
use Rattle.std.proofs.lemmas.Result.{IfOk-weaker}
use Rattle.clap.specs.Words.{App, HasMatchesOf, kind_of, takes}
use Rattle.clap.specs.declared.error.kind.ErrorKind.TheVariants.{OutOfMemory}
use Rattle.document_commands.proofs.commands.parse.Goals as goal

pub returns-clause-rows : goal.returns-clause-rows
returns-clause-rows g c =
    let words = map g.S.AsStr.text c.args.words.now in
    IfOk-weaker c.try_get_matches_from.result _ _ (λ m has. (subst (λ (a : App). HasMatchesOf a words m) c.in_ok-command.ensures has refl).1) c.try_get_matches_from.ensures.matches

pub returns-clause-passes : goal.returns-clause-passes
returns-clause-passes g c =
    let words = map g.S.AsStr.text c.args.words.now in
    subst (λ (a : App). IfErr c.try_get_matches_from.result (λ e. takes a words ≡ true → kind_of e ≡ OutOfMemory)) c.in_ok-command.ensures c.try_get_matches_from.ensures.passes
