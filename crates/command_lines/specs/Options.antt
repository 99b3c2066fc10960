-- The command line of `geosvm`.
use Rattle.std.specs.Prelude.{◌≡◌, ◌≢◌, ◌≤◌, ◌||◌, false, ℕ, Bool, true, List, [], Option, Some, None, IfSome, codes, is_some, option_map, unwrap_or, if◌then◌else◌, pos, ⊤}
use Rattle.std.specs.Option.{option_map_or}
use Rattle.std.specs.Str.{bytes_eq}
use Rattle.std.specs.Str.Parse.{digits_value, without_leading_plus}
use Rattle.clap.specs.Walk.{is_empty}
use Rattle.clap.specs.declared.parser.matches.Found.{Found}
pub use Rattle.clap.specs.Words.{Text}
use Rattle.clap.specs.Words.{App, IsAmong, IsSignedIn, first_value, one_text, without_minus, Row, Rule, fault_of, first_of, matches_of, new_app, new_rule, one_of, with_rule}
use Rattle.clap.specs.Simple.{on_top}
use Rattle.clap.specs.declared.builder.action.ArgAction.TheVariants.{Set, SetTrue}
use Rattle.clap.specs.declared.builder.value_parser.ValueParser.{ValueParser}
use Rattle.clap.specs.declared.builder.value_parser.ValueParser.TheVariants as parsers
use Rattle.clap.specs.declared.error.kind.ErrorKind.{ErrorKind}
use Rattle.clap.specs.declared.error.kind.ErrorKind.TheVariants.{DisplayHelp, DisplayVersion, OutOfMemory}
use Rattle.command_lines.specs.declared.asked.Options.{Options}
use Rattle.command_lines.specs.declared.asked.NoOptions.{NoOptions}
use Rattle.command_lines.specs.declared.asked.NoOptions.TheVariants as no_options

-- ---- what the program takes: [--new] [--checksums] [--bail] [--echo] [--cache N] [--undo N] [--as FILE2] FILE

abbrev pub flag : Text → Rule
flag name = record (new_rule name) {
  long = Some name;
  action = Some SetTrue;
  parser = Some parsers.Bool;
}

abbrev pub number_option : Text → ValueParser → Rule
number_option name parser = record (new_rule name) {
  long = Some name;
  action = Some Set;
  value_names = 1;
  parser = Some parser;
}

-- N is 1 to 64
abbrev pub cache_option : Rule
cache_option = number_option (codes "cache") (parsers.Signed (pos 1) (pos 64))

-- N is 1 or more
abbrev pub undo_option : Rule
undo_option = number_option (codes "undo") (parsers.Signed (pos 1) (pos 4294967295))

abbrev pub as_option : Rule
as_option = record (new_rule (codes "as")) {
  long = Some (codes "as");
  action = Some Set;
  value_names = 1;
}

abbrev pub file_operand : Rule
file_operand = record (new_rule (codes "file")) {
  action = Some Set;
  value_names = 1;
  required = true;
}

-- a command that tells its version
abbrev pub with_version : App → App
with_version = on_top (λ s. record s { has_version = true })

abbrev pub geosvm : App
geosvm =
    let of_file = with_rule (with_rule (with_version (new_app (codes "geosvm"))) (flag (codes "new")))
    (flag (codes "checksums")) in
    let flags = with_rule (with_rule of_file (flag (codes "bail"))) (flag (codes "echo")) in
    with_rule (with_rule (with_rule (with_rule flags cache_option) undo_option) as_option) file_operand

-- ---- what a command line says

pub record CommandLine : Type 0 where
  pub is_new : Bool
  pub checksums : Bool  -- the file's next commit makes it one of version 3
  pub bails : Bool
  pub echoes : Bool
  pub cache : ℕ
  pub undo_limit : Option ℕ  -- None where all steps are kept
  pub target : Option Text
  pub file : Text

abbrev pub read_number : Text → ℕ
read_number text = digits_value 10 (without_leading_plus text)

-- whether the words have this flag
abbrev pub has_flag : Text → List Row → Bool
has_flag name rows = option_map_or (λ t. bytes_eq t (codes "true")) (one_of name rows) false

-- of what the words give: 8 frames where they have no number of them, and no limit where they have none
abbrev pub said : List Row → CommandLine
said rows = record {
  is_new = has_flag (codes "new") rows;
  checksums = has_flag (codes "checksums") rows;
  bails = has_flag (codes "bail") rows;
  echoes = has_flag (codes "echo") rows;
  cache = option_map_or read_number (one_of (codes "cache") rows) 8;
  undo_limit = option_map read_number (one_of (codes "undo") rows);
  target = first_of (codes "as") rows;
  file = unwrap_or (first_of (codes "file") rows) [];
}

-- what the words say, where they are a command line and nothing is wrong with them
abbrev pub command_line : List Text → Option CommandLine
command_line words = if is_empty (fault_of geosvm words) then Some (said (matches_of geosvm words)) else None

-- a step is kept, or more, as many as a `u32` counts
abbrev pub IsLimit : ℕ → Type 0
IsLimit most = (1 ≤ most) × (most ≤ 4294967295)

-- The cache has 1 to 64 frames, a limit of steps to be undone leaves one or more, and the target isn't the file.
abbrev pub IsUsable : CommandLine → Type 0
IsUsable line =
    (1 ≤ line.cache) × (line.cache ≤ 64) × IfSome line.undo_limit IsLimit × (line.target ≡ Some line.file → ⊥)

-- what the options say
abbrev pub line_of_options : Options → CommandLine
line_of_options o =
    record {
      is_new = o.new;
      checksums = o.checksums;
      bails = o.bail;
      echoes = o.echo;
      cache = o.cache;
      undo_limit = o.undo_limit;
      target = option_map (λ t. t.now) o.target;
      file = o.file.now;
    }

-- the flag reads as a truth value
abbrev pub IsFlag : Found → Text → Type 0
IsFlag found name =
    (t : Text) → one_text found name ≡ Some t → (bytes_eq t (codes "true") || bytes_eq t (codes "false")) ≡ true

-- What a match of the command line gives: the flags read as truth values, the numbers are in their ranges, and the file
-- is there.
pub record IsMatched (found : Found) : Type 0 where
  pub new : IsFlag found (codes "new")
  pub checksums : IsFlag found (codes "checksums")
  pub bail : IsFlag found (codes "bail")
  pub echo : IsFlag found (codes "echo")
  pub number : (t : Text) → one_text found (codes "cache") ≡ Some t
      → (raw : Text) × (t ≡ without_minus raw) × IsSignedIn (pos 1) (pos 64) raw
  pub limit : (t : Text) → one_text found (codes "undo") ≡ Some t
      → (raw : Text) × (t ≡ without_minus raw) × IsSignedIn (pos 1) (pos 4294967295) raw
  pub file : is_some (first_value found (codes "file")) ≡ true

-- ---- why there are no options

-- what an error of this kind comes to
abbrev pub TurnsInto : ErrorKind → NoOptions → Type 0
TurnsInto kind (no_options.Usage text) = (kind ≢ DisplayHelp) × (kind ≢ DisplayVersion) × (kind ≢ OutOfMemory)
TurnsInto kind (no_options.Help text) = kind ≡ DisplayHelp
TurnsInto kind (no_options.Version text) = kind ≡ DisplayVersion
TurnsInto kind no_options.SameFile = ⊥
TurnsInto kind no_options.Memory = ⊤

-- why the words give no options
abbrev pub RefusesWords : List Text → NoOptions → Type 0
RefusesWords words (no_options.Usage text) =
    (kind : ErrorKind) × IsAmong kind (fault_of geosvm words) × (kind ≢ DisplayHelp) × (kind ≢ DisplayVersion)
RefusesWords words (no_options.Help text) = IsAmong DisplayHelp (fault_of geosvm words)
RefusesWords words (no_options.Version text) = IsAmong DisplayVersion (fault_of geosvm words)
RefusesWords words no_options.SameFile =
    (line : CommandLine) × (command_line words ≡ Some line) × (line.target ≡ Some line.file)
RefusesWords words no_options.Memory = ⊤
