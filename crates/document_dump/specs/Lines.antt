-- The lines of a script, each with its line feed.
use Rattle.std.specs.Prelude.{ℕ, List, [], ◌∷◌, ◌++◌}
use Rattle.std.specs.List.{flat_map}
use Rattle.geos_model.specs.Script.{line_feed}
use Rattle.geos_model.specs.declared.command.Edit.{Edit}
use Rattle.geos_script.specs.Printing.{edit_text}

abbrev pub line : Edit → List ℕ
line e = edit_text e ++ line_feed ∷ []

-- a line for each edit, in order
abbrev pub text : List Edit → List ℕ
text es = flat_map line es
