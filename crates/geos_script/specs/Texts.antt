-- What a call leaves that puts a text behind others.
use Rattle.std.specs.Prelude.{◌≡◌, ℕ, List, length, take}

-- The bytes are still there, whatever stands behind them.
abbrev pub Extends : List ℕ → List ℕ → Type 0
Extends old new = take (length old) new ≡ old
