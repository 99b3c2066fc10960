use Rattle.std.proofs.Common.{◌≡◌, ◌∙◌, ap, ap₂, codes}
use Rattle.std.proofs.lemmas.Result.{IfOk-weaker}
use Rattle.clap.specs.Simple.{app_of_fields}
use Rattle.clap.specs.Words.{app_of, new_app, with_rule}
use Rattle.document_commands.specs.Arguments.{flag_rule}
use Rattle.document_commands.proofs.commands.restore_command.Goals as goal

pub returns : goal.returns
returns c =
    let start : app_of c.about.result ≡ new_app (codes "restore") = ap app_of_fields c.about.ensures ∙ c.new.ensures.app in
    let first : app_of c.in_ok-arg.field-0 ≡ with_rule (new_app (codes "restore")) (flag_rule (codes "checksums")) = c.in_ok-arg.ensures.shape c.flag.ensures.1 ∙ ap₂ with_rule start c.flag.ensures.0 in
    IfOk-weaker c.arg-2.result _ _ (λ r h. h.shape c.file_operand.ensures.1 ∙ ap₂ with_rule first c.file_operand.ensures.0) c.arg-2.ensures
