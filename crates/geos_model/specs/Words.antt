-- Numbers as bytes, the low byte first.
use Rattle.std.specs.Prelude.{ℕ, List, drop}
use Rattle.byteorder.specs.Endian.{little_bytes, little_number}

-- a number below 65,536 in two bytes
abbrev pub word : ℕ → List ℕ
word n = little_bytes 2 n

-- one below 2^32 in four, and one below 2^64 in eight
abbrev pub double_word : ℕ → List ℕ
double_word n = little_bytes 4 n

abbrev pub quad_word : ℕ → List ℕ
quad_word n = little_bytes 8 n

-- the number in the two bytes at a place, in the four, in the eight
abbrev pub word_at : List ℕ → ℕ → ℕ
word_at bytes at = little_number 2 (drop at bytes)

abbrev pub double_word_at : List ℕ → ℕ → ℕ
double_word_at bytes at = little_number 4 (drop at bytes)

abbrev pub quad_word_at : List ℕ → ℕ → ℕ
quad_word_at bytes at = little_number 8 (drop at bytes)
