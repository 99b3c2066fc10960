-- What both programs take, and how a match has it.
use Rattle.std.specs.Prelude.{Bool, false, true, List, Some, codes}
use Rattle.std.specs.Option.{option_map_or}
use Rattle.std.specs.Str.{bytes_eq}
use Rattle.clap.specs.Simple.{on_top}
use Rattle.clap.specs.Words.{App, Row, Rule, Text, new_rule, one_of}
use Rattle.clap.specs.declared.builder.action.ArgAction.TheVariants.{Set, SetTrue}
use Rattle.clap.specs.declared.builder.value_parser.ValueParser.TheVariants as parsers

abbrev pub flag_rule : Text → Rule
flag_rule name = record (new_rule name) {
  long = Some name;
  action = Some SetTrue;
  parser = Some parsers.Bool;
}

abbrev pub file_rule : Rule
file_rule = record (new_rule (codes "file")) {
  action = Some Set;
  value_names = 1;
  required = true;
}

abbrev pub second_operand : Rule
second_operand = record (new_rule (codes "file2")) {
  action = Some Set;
  value_names = 1;
  required = true;
}

-- a command that tells its version
abbrev pub with_version_flag : App → App
with_version_flag = on_top (λ s. record s { has_version = true })

-- whether the words have this flag
abbrev pub has_flag_word : Text → List Row → Bool
has_flag_word name rows = option_map_or (λ t. bytes_eq t (codes "true")) (one_of name rows) false
