-- The longest row of numbers that never fall. A row is a choice of some of the numbers of a list, by their places, from
-- the last one back; no 0 is in a row.
use Rattle.std.specs.Prelude.{◌≡◌, ℕ, zero, suc, ◌+◌, ◌<◌, ◌≤◌, ◌↔◌, List, [], ◌∷◌, ◌&&◌, nat_le, length, slice_index, if◌then◌else◌, ⊤}

-- these places make a row: each is below the one before it, and its number is at least 1 and at most that one's; the
-- first is below n, and its number is at most `most`
abbrev pub IsRow : List ℕ → ℕ → ℕ → List ℕ → Type 0
IsRow numbers n most [] = ⊤
IsRow numbers n most (i ∷ row) =
    (i < n) × (1 ≤ slice_index numbers i) × (slice_index numbers i ≤ most)
    × IsRow numbers i (slice_index numbers i) row

-- the longer of two rows, of two as long the first
abbrev pub longer : List ℕ → List ℕ → List ℕ
longer a b = if nat_le (length b) (length a) then a else b

-- The longest row of the first n numbers that are at most `most`: the longer of that with the last of them, where it
-- may be in one, and that without it.
unfoldable pub row_to : List ℕ → ℕ → ℕ → List ℕ
row_to numbers zero most = []
row_to numbers (suc i) most =
    if nat_le 1 (slice_index numbers i) && nat_le (slice_index numbers i) most
    then longer (i ∷ row_to numbers i (slice_index numbers i)) (row_to numbers i most)
    else row_to numbers i most

-- the longest row of a list of numbers below 65,536
abbrev pub longest_row : List ℕ → List ℕ
longest_row numbers = row_to numbers (length numbers) 65535

-- this is a row, and none is longer
pub record IsLongestRow (numbers row : List ℕ) : Type 0 where
  pub is : IsRow numbers (length numbers) 65535 row
  pub longest : (other : List ℕ) → IsRow numbers (length numbers) 65535 other → length other ≤ length row

-- The least numbers at which rows end: of each length there is a row among the first n numbers that are at most `most`
-- just where the number here that stands so far is.
abbrev pub AreRowEnds : List ℕ → ℕ → List ℕ → Type 0
AreRowEnds numbers n ends =
    (most k : ℕ) → (k < length (row_to numbers n most)) ↔ ((k < length ends) × (slice_index ends k ≤ most))

-- these numbers are the lengths of the longest rows that end at each of the first n places where a row can end
abbrev pub AreLengths : List ℕ → ℕ → List ℕ → Type 0
AreLengths numbers n lengths =
    (i : ℕ) → i < n → 1 ≤ slice_index numbers i
    → slice_index lengths i ≡ 1 + length (row_to numbers i (slice_index numbers i))
