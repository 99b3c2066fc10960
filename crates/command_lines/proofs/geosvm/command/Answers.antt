use Rattle.std.proofs.Common.{◌≡◌, ◌∙◌, Some, ap, ap₂, codes, false, true}
use Rattle.std.proofs.lemmas.Result.{IfOk-weaker}
use Rattle.clap.specs.Simple.{app_of_fields}
use Rattle.clap.specs.Words.{Rule, app_of, new_app, with_rule, rule_of}
use Rattle.clap.specs.declared.builder.action.ArgAction.TheVariants.{Set}
use Rattle.command_lines.specs.Options.{as_option, file_operand, flag, with_version}
use Rattle.command_lines.proofs.geosvm.command.Goals as goal

-- Texts are no part of what a parse reads, but for whether there is a version.
pub returns : goal.returns
returns c =
    let told : app_of c.after_help.result ≡ with_version (new_app (codes "geosvm")) =
    ap app_of_fields c.after_help.ensures ∙ ap app_of_fields c.about.ensures ∙ ap app_of_fields c.version.ensures ∙ ap with_version c.new.ensures.app in
    let start = with_version (new_app (codes "geosvm")) in
    let first : app_of c.in_ok-arg.field-0 ≡ with_rule start (flag (codes "new")) = c.in_ok-arg.ensures.shape c.flag.ensures.1 ∙ ap₂ with_rule told c.flag.ensures.0 in
    let second = c.in_ok-arg-2.ensures.shape c.flag-2.ensures.1 ∙ ap₂ with_rule first c.flag-2.ensures.0 in
    let third = c.in_ok-arg-3.ensures.shape c.flag-3.ensures.1 ∙ ap₂ with_rule second c.flag-3.ensures.0 in
    let fourth = c.in_ok-arg-4.ensures.shape c.flag-4.ensures.1 ∙ ap₂ with_rule third c.flag-4.ensures.0 in
    let fifth = c.in_ok-arg-5.ensures.shape c.cache_option.ensures.1 ∙ ap₂ with_rule fourth c.cache_option.ensures.0 in
    let sixth = c.in_ok-arg-6.ensures.shape c.undo_option.ensures.1 ∙ ap₂ with_rule fifth c.undo_option.ensures.0 in
    let target : (rule_of c.help.result ≡ as_option) × (c.help.result.global ≡ false) = rw (c.help.ensures, c.value_name.ensures, c.action.ensures, c.long.ensures)
    (ap (λ (r : Rule). record r { long = Some (codes "as"); action = Some Set; value_names = 1 }) c.new-2.ensures.rule, c.new-2.ensures.optional.1) in
    let seventh = c.in_ok-arg-7.ensures.shape target.1 ∙ ap₂ with_rule sixth target.0 in
    let file : (rule_of c.help-2.result ≡ file_operand) × (c.help-2.result.global ≡ false) = rw (c.help-2.ensures, c.required.ensures, c.value_name-2.ensures, c.action-2.ensures)
    (ap (λ (r : Rule). record r { action = Some Set; value_names = 1; required = true }) c.new-3.ensures.rule, c.new-3.ensures.optional.1) in
    IfOk-weaker c.arg-8.result _ _ (λ r h. h.shape file.1 ∙ ap₂ with_rule seventh file.0) c.arg-8.ensures
