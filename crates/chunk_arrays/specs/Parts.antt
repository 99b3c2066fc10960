-- What bytes have that are an array: a header, and elements that fill what lies behind the extra bytes.
use Rattle.std.specs.Prelude.{◌≡◌, ◌≢◌, ◌<◌, ◌≤◌, ℕ, ◌+◌, ◌*◌, List, length, slice_index}
use Rattle.geos_model.specs.Words.{word_at}

-- each is a byte
abbrev pub AreByteValues : List ℕ → Type 0
AreByteValues xs = (i : ℕ) → slice_index xs i < 256

-- where an element begins, by a table of places that begins at start
abbrev pub place_at : List ℕ → ℕ → ℕ → ℕ
place_at bytes start i = word_at bytes (start + 2 * i)

-- a table of places: the elements begin at its end, in order, and without elements nothing lies behind start
pub record IsPlaceTable (bytes : List ℕ) (count start : ℕ) : Type 0 where
  pub room : start + 2 * count ≤ length bytes
  pub none : count ≡ 0 → length bytes ≡ start
  pub first : 0 < count → place_at bytes start 0 ≡ start + 2 * count
  pub rising : (i : ℕ) → i + 1 < count → place_at bytes start i ≤ place_at bytes start (i + 1)
  pub within : (i : ℕ) → i < count → place_at bytes start i ≤ length bytes

-- elements from start on, of one size or with a table of places
pub record HasElements (bytes : List ℕ) (count size start : ℕ) : Type 0 where
  pub even : size ≢ 0 → length bytes ≡ start + count * size
  pub table : size ≡ 0 → IsPlaceTable bytes count start

-- the parts of an array
pub record HasParts (bytes : List ℕ) : Type 0 where
  pub are_bytes : AreByteValues bytes
  pub header : 8 ≤ length bytes
  pub third : word_at bytes 4 ≡ 0
  pub low : 8 ≤ word_at bytes 6
  pub high : word_at bytes 6 ≤ length bytes
  pub elements : HasElements bytes (word_at bytes 0) (word_at bytes 2) (word_at bytes 6)
