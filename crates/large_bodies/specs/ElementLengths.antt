-- How many bytes elements have that lie one after another.
use Rattle.std.specs.Prelude.{◌+◌, ◌==◌, ◌∷◌, ℕ, List, [], length, map, take, drop, replicate, if◌then◌else◌}
use Rattle.geos_model.specs.Pieces.{BranchPiece}

-- bytes cut into elements that have so many each
abbrev pub cut_lengths : List ℕ → List ℕ → BranchPiece
cut_lengths [] bytes = []
cut_lengths (n ∷ lengths) bytes = take n bytes ∷ cut_lengths lengths (drop n bytes)

-- how many bytes each element has, of which lengths are kept only where they vary
abbrev pub all_lengths : ℕ → ℕ → List ℕ → List ℕ
all_lengths size count lengths = if size == 0 then lengths else replicate count size

abbrev pub kept_lengths : ℕ → BranchPiece → List ℕ
kept_lengths size elements = if size == 0 then map length elements else []

-- where elements begin that have so many each and lie one after another from a place on
abbrev pub places_by : ℕ → List ℕ → List ℕ
places_by at [] = []
places_by at (n ∷ lengths) = at ∷ places_by (at + n) lengths
