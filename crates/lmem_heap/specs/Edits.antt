-- What a write leaves of the other bytes.
use Rattle.std.specs.Prelude.{◌≡◌, ◌≢◌, ℕ, ◌+◌, ◌*◌, ◌<◌, ◌≤◌, List, ◌++◌, length, get_or}
use Rattle.lmem_heap.specs.Pieces.{word_in, entry, Piece, Lies, Points, AllShaped, IsFresh, ArePiecesDistinct, size_head, handle_head, size_of, place_to, used, spaces}

-- the bytes from a to b are the same
pub record Same (xs ys : List ℕ) (a b : ℕ) : Type 0 where
  pub at : (k : ℕ) → a ≤ k → k < b → get_or ys k 0 ≡ get_or xs k 0

-- a word was written
pub record IsSet (xs ys : List ℕ) (p v : ℕ) : Type 0 where
  pub long : length ys ≡ length xs
  pub word : word_in ys p ≡ v
  pub before : (k : ℕ) → k < p → get_or ys k 0 ≡ get_or xs k 0
  pub behind : (k : ℕ) → p + 2 ≤ k → get_or ys k 0 ≡ get_or xs k 0

-- bytes were moved from p to q
pub record IsSlid (xs ys : List ℕ) (p q n : ℕ) : Type 0 where
  pub long : length ys ≡ length xs
  pub moved : (k : ℕ) → k < n → get_or ys (q + k) 0 ≡ get_or xs (p + k) 0
  pub before : (k : ℕ) → k < q → get_or ys k 0 ≡ get_or xs k 0
  pub behind : (k : ℕ) → q + n ≤ k → get_or ys k 0 ≡ get_or xs k 0

-- n bytes are zero
pub record IsZeroed (xs ys : List ℕ) (p n : ℕ) : Type 0 where
  pub long : length ys ≡ length xs
  pub zeros : (k : ℕ) → k < n → get_or ys (p + k) 0 ≡ 0
  pub before : (k : ℕ) → k < p → get_or ys k 0 ≡ get_or xs k 0
  pub behind : (k : ℕ) → p + n ≤ k → get_or ys k 0 ≡ get_or xs k 0

-- the chunks of the pieces lie one after another from `low` on, with the entries that they have from `target` on; other
-- entries are the same
pub record IsPacked (xs ys : List ℕ) (low target : ℕ) (cs : List Piece) : Type 0 where
  pub long : length ys ≡ 65520
  pub lies : Lies size_head ys low (used cs) (low + spaces (used cs))
  pub points : Points (place_to low target) ys low (used cs)
  pub others : (j : ℕ) → IsFresh j (used cs) → 18 + 2 * j ≤ low → entry ys j ≡ entry xs j

-- the pieces lie from `low` to the end with their slots' handles, and the table has the sizes; their chunks have room
-- from `target` on
pub record IsReadyToPack (xs : List ℕ) (low target : ℕ) (cs : List Piece) : Type 0 where
  pub long : length xs ≡ 65520
  pub lies : Lies handle_head xs low cs 65520
  pub points : Points size_of xs low cs
  pub shaped : AllShaped low cs
  pub distinct : ArePiecesDistinct (used cs)
  pub room : target + spaces (used cs) ≤ 65520

-- the chunks that lie first, up to `end`, have their sizes back, and the entries that they have from `target` on; the
-- pieces behind them wait
pub record IsRunPacked (xs ys : List ℕ) (start target : ℕ) (cs : List Piece) (end : ℕ) : Type 0 where
  pub run : List Piece
  pub rest : List Piece
  pub whole : run ++ rest ≡ cs
  pub chunks : used run ≡ run
  pub long : length ys ≡ length xs
  pub lies : Lies size_head ys start run end
  pub points : Points (place_to start target) ys start run
  pub waiting : Lies handle_head ys end rest 65520
  pub sizes : Points size_of ys end rest
  pub others : (j : ℕ) → IsFresh j run → 18 + 2 * j ≤ start → entry ys j ≡ entry xs j
  pub before : (m : ℕ) → AllShaped m run → Same xs ys m start

-- an entry that is a place below m goes down; others are the same
pub record IsLow (xs ys : List ℕ) (m by i : ℕ) : Type 0 where
  pub low : 1 < entry xs i → entry xs i < m → entry ys i + by ≡ entry xs i
  pub high : m ≤ entry xs i → entry ys i ≡ entry xs i
  pub dead : entry xs i ≤ 1 → entry ys i ≡ entry xs i

pub record IsEntryLowered (xs ys : List ℕ) (i m by : ℕ) : Type 0 where
  pub long : length ys ≡ length xs
  pub own : IsLow xs ys m by i
  pub others : (j : ℕ) → j ≢ i → entry ys j ≡ entry xs j
  pub beyond : (k : ℕ) → 18 + 2 * i ≤ k → get_or ys k 0 ≡ get_or xs k 0

pub record AreLowered (xs ys : List ℕ) (t m by : ℕ) : Type 0 where
  pub long : length ys ≡ length xs
  pub each : (j : ℕ) → j < t → IsLow xs ys m by j
  pub beyond : (k : ℕ) → 16 + 2 * t ≤ k → get_or ys k 0 ≡ get_or xs k 0

-- a word that is a place from `from` to `to` goes up; another is the same
pub record IsWordRaised (v w from to by : ℕ) : Type 0 where
  pub below : v < from → w ≡ v
  pub moved : from ≤ v → v < to → w ≡ v + by
  pub above : to ≤ v → w ≡ v

-- each word does
pub record AreWordsRaised (xs ys : List ℕ) (from to by : ℕ) : Type 0 where
  pub long : length ys ≡ length xs
  pub each : (j : ℕ) → 2 * j + 2 ≤ length xs → IsWordRaised (word_in xs (2 * j)) (word_in ys (2 * j)) from to by

-- each entry does
pub record AreRaised (xs ys : List ℕ) (t from to by : ℕ) : Type 0 where
  pub long : length ys ≡ length xs
  pub each : (j : ℕ) → j < t → IsWordRaised (entry xs j) (entry ys j) from to by
  pub beyond : (k : ℕ) → 16 + 2 * t ≤ k → get_or ys k 0 ≡ get_or xs k 0

-- the piece at p, of `size` bytes, has n: those behind the first `size` are zeros
pub record IsSized (xs ys : List ℕ) (p size n : ℕ) : Type 0 where
  pub long : length ys ≡ length xs
  pub head : word_in ys p ≡ n
  pub front : (k : ℕ) → k < size → get_or ys (p + 2 + k) 0 ≡ get_or xs (p + 2 + k) 0
  pub zeros : (k : ℕ) → size ≤ k → k < n → get_or ys (p + 2 + k) 0 ≡ 0
  pub before : (k : ℕ) → k < p → get_or ys k 0 ≡ get_or xs k 0
  pub behind : (k : ℕ) → p + 2 + n ≤ k → p + 2 + size ≤ k → get_or ys k 0 ≡ get_or xs k 0

-- the `size` bytes of the piece at p stand behind the first word at q too, and zeros up to n bytes
pub record IsRangeCopied (xs ys : List ℕ) (p q size n : ℕ) : Type 0 where
  pub long : length ys ≡ length xs
  pub moved : (k : ℕ) → k < size → get_or ys (q + 2 + k) 0 ≡ get_or xs (p + 2 + k) 0
  pub zeros : (k : ℕ) → size ≤ k → k < n → get_or ys (q + 2 + k) 0 ≡ 0
  pub before : (k : ℕ) → k < q + 2 → get_or ys k 0 ≡ get_or xs k 0
  pub behind : (k : ℕ) → q + 2 + n ≤ k → get_or ys k 0 ≡ get_or xs k 0
