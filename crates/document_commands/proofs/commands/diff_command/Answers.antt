use Rattle.std.proofs.Common.{◌≡◌, ◌∙◌, ap, ap₂, codes}
use Rattle.std.proofs.lemmas.Result.{IfOk-weaker}
use Rattle.clap.specs.Simple.{app_of_fields}
use Rattle.clap.specs.Words.{app_of, new_app, with_rule}
use Rattle.document_commands.specs.Arguments.{file_rule, flag_rule}
use Rattle.document_commands.proofs.commands.diff_command.Goals as goal

pub returns : goal.returns
returns c =
    let start : app_of c.about.result ≡ new_app (codes "diff") = ap app_of_fields c.about.ensures ∙ c.new.ensures.app in
    let first : app_of c.in_ok-arg.field-0 ≡ with_rule (new_app (codes "diff")) (flag_rule (codes "saved")) = c.in_ok-arg.ensures.shape c.flag.ensures.1 ∙ ap₂ with_rule start c.flag.ensures.0 in
    let second : app_of c.in_ok-arg-2.field-0 ≡ with_rule (with_rule (new_app (codes "diff")) (flag_rule (codes "saved"))) file_rule = c.in_ok-arg-2.ensures.shape c.file_operand.ensures.1 ∙ ap₂ with_rule first c.file_operand.ensures.0 in
    IfOk-weaker c.arg-3.result _ _ (λ r h. h.shape c.second_operand.ensures.1 ∙ ap₂ with_rule second c.second_operand.ensures.0) c.arg-3.ensures
