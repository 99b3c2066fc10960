use Rattle.std.proofs.Common.{◌≡◌, ◌∙◌, ap, ap₂, codes}
use Rattle.std.proofs.lemmas.Result.{IfOk-weaker}
use Rattle.clap.specs.Simple.{app_of_fields}
use Rattle.clap.specs.Words.{app_of, new_app, with_rule}
use Rattle.clap.specs.declared.builder.arg.Arg.{Arg}
use Rattle.document_commands.specs.Arguments.{flag_rule}
use Rattle.document_commands.proofs.Entered.{exclusive}
use Rattle.document_commands.proofs.commands.dump_command.Goals as goal

pub returns : goal.returns
returns c =
    let start : app_of c.about.result ≡ new_app (codes "dump") = ap app_of_fields c.about.ensures ∙ c.new.ensures.app in
    let first : app_of c.in_ok-arg.field-0 ≡ with_rule (new_app (codes "dump")) (flag_rule (codes "saved")) = c.in_ok-arg.ensures.shape c.flag.ensures.1 ∙ ap₂ with_rule start c.flag.ensures.0 in
    let adds = c.in_ok-conflicts_with.ensures in
    let second = c.in_ok-arg-2.ensures.shape (ap (λ (a : Arg). a.global) adds.0 ∙ c.flag-2.ensures.1) ∙ ap₂ with_rule first (exclusive c.flag-2.result c.in_ok-conflicts_with.field-0 _ (codes "other") c.flag-2.ensures.0 adds) in
    IfOk-weaker c.arg-3.result _ _ (λ r h. h.shape c.file_operand.ensures.1 ∙ ap₂ with_rule second c.file_operand.ensures.0) c.arg-3.ensures
