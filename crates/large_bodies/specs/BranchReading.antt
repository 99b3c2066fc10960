-- What bytes have that are a branch.
use Rattle.std.specs.Prelude.{◌≡◌, ◌≤◌, ℕ, List, [], length}
use Rattle.geos_model.specs.Words.{word_at}
use Rattle.geos_model.specs.Array.{Array}

-- a zero word stands before all else
abbrev pub BeginsWithZero : List ℕ → Type 0
BeginsWithZero bytes = (2 ≤ length bytes) × (word_at bytes 0 ≡ 0)

-- so many elements of this size, and no extra bytes
abbrev pub IsPlain : Array → ℕ → ℕ → Type 0
IsPlain a size count = (a.size ≡ size) × (length a.elements ≡ count) × (a.extra ≡ [])
