use Rattle.std.proofs.Common.{◌≡◌, ◌∙◌, ap, ap₂, codes, refl, true}
use Rattle.std.proofs.lemmas.Result.{IfOk-weaker}
use Rattle.clap.specs.Simple.{app_of_fields, on_top}
use Rattle.clap.specs.Words.{App, app_of, new_app, with_subcommand}
use Rattle.document_commands.specs.Arguments.{with_version_flag}
use Rattle.document_commands.specs.Requests.{check_command, diff_command, dump_command, map_command, restore_command, salvage_command, stat_command, with_commands_alone}
use Rattle.document_commands.proofs.Entered.{no_globals}
use Rattle.document_commands.proofs.commands.command.Goals as goal

pub returns : goal.returns
returns c =
    let told : app_of c.about.result ≡ with_version_flag (new_app (codes "geosdoc")) = ap app_of_fields c.about.ensures ∙ ap app_of_fields c.version.ensures ∙ ap with_version_flag c.new.ensures.app in
    let start : app_of c.arg_required_else_help.result ≡ with_commands_alone (with_version_flag (new_app (codes "geosdoc"))) =
    ap app_of_fields c.arg_required_else_help.ensures ∙ ap (on_top (λ s. record s { arg_required_else_help = true })) (ap app_of_fields c.subcommand_required.ensures) ∙ ap with_commands_alone told in
    let check = c.in_ok-check_command.ensures in
    let dump = c.in_ok-dump_command.ensures in
    let stat = c.in_ok-stat_command.ensures in
    let map = c.in_ok-map_command.ensures in
    let diff = c.in_ok-diff_command.ensures in
    let salvage = c.in_ok-salvage_command.ensures in
    let restore = c.in_ok-restore_command.ensures in
    let first = c.in_ok-subcommand.ensures.shape (no_globals _ check_command check refl) ∙ ap₂ with_subcommand start (ap (λ (a : App). a.top) check) in
    let second = c.in_ok-subcommand-2.ensures.shape (no_globals _ dump_command dump refl) ∙ ap₂ with_subcommand first (ap (λ (a : App). a.top) dump) in
    let third = c.in_ok-subcommand-3.ensures.shape (no_globals _ stat_command stat refl) ∙ ap₂ with_subcommand second (ap (λ (a : App). a.top) stat) in
    let fourth = c.in_ok-subcommand-4.ensures.shape (no_globals _ map_command map refl) ∙ ap₂ with_subcommand third (ap (λ (a : App). a.top) map) in
    let fifth = c.in_ok-subcommand-5.ensures.shape (no_globals _ diff_command diff refl) ∙ ap₂ with_subcommand fourth (ap (λ (a : App). a.top) diff) in
    let sixth = c.in_ok-subcommand-6.ensures.shape (no_globals _ salvage_command salvage refl) ∙ ap₂ with_subcommand fifth (ap (λ (a : App). a.top) salvage) in
    IfOk-weaker c.subcommand-7.result _ _ (λ r h. h.shape (no_globals _ restore_command restore refl) ∙ ap₂ with_subcommand sixth (ap (λ (a : App). a.top) restore)) c.subcommand-7.ensures
