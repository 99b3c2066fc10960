-- What help says of the commands.
use Rattle.std.specs.Prelude.{◌≡◌, ℕ, List, ◌∷◌, [], drop, map, take}
use Rattle.geos_model.specs.Script.{commands_by_name, lines, words}

-- Behind a heading a line begins with the name of each command, in the order of the script's table.
abbrev pub ListsCommands : List ℕ → Type 0
ListsCommands text = map (λ line. take 1 (words line)) (drop 1 (lines text)) ≡ map (λ row. row.0 ∷ []) commands_by_name
