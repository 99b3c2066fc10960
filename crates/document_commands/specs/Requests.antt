-- The commands of `geosdoc`.
use Rattle.std.specs.Prelude.{◌≡◌, true, false, List, Option, Some, None, codes, if◌then◌else◌}
use Rattle.clap.specs.Simple.{on_top}
use Rattle.clap.specs.Words.{App, Row, Rule, Text, first_of, new_app, with_rule, with_subcommand}
use Rattle.document_commands.specs.Arguments.{file_rule, flag_rule, has_flag_word, second_operand, with_version_flag}
use Rattle.document_commands.specs.declared.requested.Asked.TheVariants as asked
use Rattle.document_commands.specs.declared.requested.Checksums.{Checksums}
use Rattle.document_commands.specs.declared.requested.Checksums.TheVariants as sums
use Rattle.document_commands.specs.declared.requested.DiffScope.{DiffScope}
use Rattle.document_commands.specs.declared.requested.DiffScope.TheVariants as scopes
use Rattle.document_commands.specs.declared.requested.DumpScope.{DumpScope}
use Rattle.document_commands.specs.declared.requested.DumpScope.TheVariants.{Both, Other, Saved}
use Rattle.document_commands.specs.declared.requested.Form.{Form}
use Rattle.document_commands.specs.declared.requested.Form.TheVariants as forms
use Rattle.document_commands.specs.declared.requested.MapFormat.{MapFormat}
use Rattle.document_commands.specs.declared.requested.MapFormat.TheVariants as pictures
use Rattle.document_commands.specs.declared.requested.Request.{Request}
use Rattle.document_commands.specs.declared.requested.Request.TheVariants as requests
use Rattle.document_commands.specs.declared.requested.SalvageScope.{SalvageScope}
use Rattle.document_commands.specs.declared.requested.SalvageScope.TheVariants as takings

-- ---- what the program takes

-- check FILE
abbrev pub check_command : App
check_command = with_rule (new_app (codes "check")) file_rule

-- a flag that stands in no command line with another one
abbrev pub exclusive_flag : Text → Rule
exclusive_flag name = record (flag_rule name) { is_free = false }

-- dump [--saved | --other] FILE
abbrev pub dump_command : App
dump_command = with_rule
    (with_rule (with_rule (new_app (codes "dump")) (flag_rule (codes "saved"))) (exclusive_flag (codes "other")))
    file_rule

-- stat [--json] FILE
abbrev pub stat_command : App
stat_command = with_rule (with_rule (new_app (codes "stat")) (flag_rule (codes "json"))) file_rule

-- map [--svg] FILE
abbrev pub map_command : App
map_command = with_rule (with_rule (new_app (codes "map")) (flag_rule (codes "svg"))) file_rule

-- diff [--saved] FILE FILE2
abbrev pub diff_command : App
diff_command =
    with_rule (with_rule (with_rule (new_app (codes "diff")) (flag_rule (codes "saved"))) file_rule) second_operand

-- salvage [--all] FILE
abbrev pub salvage_command : App
salvage_command = with_rule (with_rule (new_app (codes "salvage")) (flag_rule (codes "all"))) file_rule

-- restore [--checksums] FILE
abbrev pub restore_command : App
restore_command = with_rule (with_rule (new_app (codes "restore")) (flag_rule (codes "checksums"))) file_rule

-- a command that does nothing without another one behind it, and tells its help where nothing is behind it
abbrev pub with_commands_alone : App → App
with_commands_alone = on_top (λ s. record s { subcommand_required = true; arg_required_else_help = true })

abbrev pub geosdoc : App
geosdoc =
    let start = with_commands_alone (with_version_flag (new_app (codes "geosdoc"))) in
    let looks = with_subcommand
    (with_subcommand (with_subcommand (with_subcommand start check_command.top) dump_command.top) stat_command.top)
    map_command.top in
    with_subcommand (with_subcommand (with_subcommand looks diff_command.top) salvage_command.top) restore_command.top

-- ---- what a command asks for

abbrev pub dump_scope_by : List Row → DumpScope
dump_scope_by rows =
    if has_flag_word (codes "saved") rows then Saved else if has_flag_word (codes "other") rows then Other else Both

abbrev pub form_by : List Row → Form
form_by rows = if has_flag_word (codes "json") rows then forms.Json else forms.Columns

abbrev pub map_format_by : List Row → MapFormat
map_format_by rows = if has_flag_word (codes "svg") rows then pictures.Svg else pictures.Text

abbrev pub salvage_scope_by : List Row → SalvageScope
salvage_scope_by rows = if has_flag_word (codes "all") rows then takings.All else takings.Whole

abbrev pub checksums_by : List Row → Checksums
checksums_by rows = if has_flag_word (codes "checksums") rows then sums.With else sums.Without

abbrev pub diff_scope_by : List Row → DiffScope
diff_scope_by rows = if has_flag_word (codes "saved") rows then scopes.Saved else scopes.Updated

-- The request is that of the command of this name, with these matches, and of the file that they name.
abbrev pub IsAsked : Text → List Row → Request → Type 0
IsAsked name rows (requests.Check file) = (name ≡ codes "check") × (first_of (codes "file") rows ≡ Some file.now)
IsAsked name rows (requests.Look (asked.Dump dumped) file) =
    (name ≡ codes "dump") × (dumped ≡ dump_scope_by rows) × (first_of (codes "file") rows ≡ Some file.now)
IsAsked name rows (requests.Look (asked.Stat form) file) =
    (name ≡ codes "stat") × (form ≡ form_by rows) × (first_of (codes "file") rows ≡ Some file.now)
IsAsked name rows (requests.Look (asked.Map picture) file) =
    (name ≡ codes "map") × (picture ≡ map_format_by rows) × (first_of (codes "file") rows ≡ Some file.now)
IsAsked name rows (requests.Look (asked.Salvage taken) file) =
    (name ≡ codes "salvage") × (taken ≡ salvage_scope_by rows) × (first_of (codes "file") rows ≡ Some file.now)
IsAsked name rows (requests.Diff scope file second) =
    (name ≡ codes "diff") × (scope ≡ diff_scope_by rows) × (first_of (codes "file") rows ≡ Some file.now)
    × (first_of (codes "file2") rows ≡ Some second.now)
IsAsked name rows (requests.Restore checksums file) =
    (name ≡ codes "restore") × (checksums ≡ checksums_by rows) × (first_of (codes "file") rows ≡ Some file.now)

-- a command was named, and the request is its
abbrev pub IsAskedBy : Option (Text × List Row) → Request → Type 0
IsAskedBy None request = ⊥
IsAskedBy (Some named) request = IsAsked named.0 named.1 request
