-- A heap's space: its region, and the list of its free pieces, which lies in the region.
use Rattle.std.specs.Prelude.{◌≡◌, ◌≢◌, ℕ, ◌+◌, ◌<◌, ◌≤◌, ◌⊎◌, List, [], ◌∷◌, ◌++◌, length, Option, Some, None, set, get_or, unwrap_or}
use Rattle.geos_model.specs.Bytes.{resized}
use Rattle.lmem_heap.specs.Pieces.{word_in, entry, piece_space, Piece, Used, Free, free_count, used, spaces}
use Rattle.lmem_heap.specs.Tiled.{IsTiled, chunks_in}
use Rattle.lmem_heap.specs.declared.space.Space.{Space}

-- a free piece lies at f, where the pieces lie from p on
abbrev pub IsSpareAt : ℕ → List Piece → ℕ → Type 0
IsSpareAt p [] f = ⊥
IsSpareAt p (Used i bytes ∷ cs) f = IsSpareAt (p + piece_space (length bytes)) cs f
IsSpareAt p (Free s ∷ cs) f = (f ≡ p) ⊎ IsSpareAt (p + s) cs f

abbrev pub AreSpare : ℕ → List Piece → List ℕ → Type 0
AreSpare p cs [] = Unit {0}
AreSpare p cs (f ∷ fs) = IsSpareAt p cs f × AreSpare p cs fs

-- the list of free pieces, from the word h on: each has the next one's place behind its first word, and the last one 0
abbrev pub IsChain : List ℕ → ℕ → List ℕ → Type 0
IsChain xs h [] = h ≡ 0
IsChain xs h (f ∷ fs) = (h ≡ f) × IsChain xs (word_in xs (f + 2)) fs

abbrev pub IsOther : ℕ → List ℕ → Type 0
IsOther f [] = Unit {0}
IsOther f (g ∷ gs) = (f ≢ g) × IsOther f gs

abbrev pub AreApart : List ℕ → Type 0
AreApart [] = Unit {0}
AreApart (f ∷ fs) = IsOther f fs × AreApart fs

-- what the piece of slot i's chunk takes
abbrev pub room_of : Space → ℕ → ℕ
room_of s i = piece_space (word_in s.region (entry s.region i))

-- the pieces of a space, and its free list, which has each free piece once but for so many
pub record HasPieces (s : Space) (cs : List Piece) (fs : List ℕ) (detached : ℕ) : Type 0 where
  pub tiled : IsTiled s.region s.slots s.low cs
  pub chain : IsChain s.region s.head fs
  pub spare : AreSpare s.low cs fs
  pub apart : AreApart fs
  pub all : free_count cs ≡ length fs + detached
  pub count : s.total ≡ spaces (used cs)

-- a space, with so many free pieces that the list lacks
pub record IsWellFormedBut (s : Space) (detached : ℕ) : Type 0 where
  pub pieces : List Piece
  pub free : List ℕ
  pub held : HasPieces s pieces free detached

-- with none
abbrev pub IsWellFormed : Space → Type 0
IsWellFormed s = IsWellFormedBut s 0

-- a free piece of this room lies at p, and it alone is not in the list
pub record IsDetached (s : Space) (p room : ℕ) : Type 0 where
  pub before : List Piece
  pub after : List Piece
  pub free : List ℕ
  pub held : HasPieces s (before ++ (Free room ∷ after)) free 1
  pub place : p ≡ s.low + spaces before
  pub other : IsOther p free

-- the table is the same, and so are the chunks, which lie where they lay
pub record IsUnmoved (s u : Space) : Type 0 where
  pub slots : u.slots ≡ s.slots
  pub total : u.total ≡ s.total
  pub entries : (j : ℕ) → j < s.slots → entry u.region j ≡ entry s.region j
  pub chunks : chunks_in u.region u.slots ≡ chunks_in s.region s.slots

-- the chunks are the same, though they may lie elsewhere, and slots with no bytes keep their entries
pub record HasSameChunks (s u : Space) : Type 0 where
  pub slots : u.slots ≡ s.slots
  pub total : u.total ≡ s.total
  pub chunks : chunks_in u.region u.slots ≡ chunks_in s.region s.slots
  pub dead : (j : ℕ) → j < s.slots → entry s.region j ≤ 1 → entry u.region j ≡ entry s.region j

-- a free piece of this room lies at p
pub record HasFree (s : Space) (p room : ℕ) : Type 0 where
  pub before : List Piece
  pub after : List Piece
  pub free : List ℕ
  pub held : HasPieces s (before ++ (Free room ∷ after)) free 0
  pub place : p ≡ s.low + spaces before

-- none of the first pieces of the free list has this room
pub record HasNoFree (s : Space) (room : ℕ) : Type 0 where
  pub pieces : List Piece
  pub free : List ℕ
  pub held : HasPieces s pieces free 0
  pub none : (k : ℕ) → k < 128 → k < length free → word_in s.region (get_or free k 0) ≤ room

-- `place` is the first piece of the list, or the next one behind `prev`
pub record IsFirst (s : Space) (prev place : ℕ) : Type 0 where
  pub pieces : List Piece
  pub back : List ℕ
  pub none : prev ≡ 0
  pub held : HasPieces s pieces (place ∷ back) 0

pub record IsNext (s : Space) (prev place : ℕ) : Type 0 where
  pub pieces : List Piece
  pub front : List ℕ
  pub back : List ℕ
  pub held : HasPieces s pieces (front ++ (prev ∷ (place ∷ back))) 0

abbrev pub IsLinked : Space → ℕ → ℕ → Type 0
IsLinked s prev place = IsFirst s prev place ⊎ IsNext s prev place

-- between the free pieces at g and at h lie only chunks, and the one at h alone is not in the list
pub record HasBelow (s : Space) (g h : ℕ) : Type 0 where
  pub before : List Piece
  pub room : ℕ
  pub run : List Piece
  pub last : ℕ
  pub after : List Piece
  pub free : List ℕ
  pub held : HasPieces s (before ++ (Free room ∷ (run ++ (Free last ∷ after)))) free 1
  pub chunks : free_count run ≡ 0
  pub place : g ≡ s.low + spaces before
  pub next : h ≡ g + room + spaces run
  pub other : IsOther h free

-- slot i has another chunk, and every other one its own, where it lay
pub record IsChanged (s u : Space) (i : ℕ) (chunk : Option (List ℕ)) : Type 0 where
  pub slots : u.slots ≡ s.slots
  pub entries : (j : ℕ) → j < s.slots → j ≢ i → entry u.region j ≡ entry s.region j
  pub chunks : chunks_in u.region u.slots ≡ set (chunks_in s.region s.slots) i chunk

-- where the bytes of slot i's chunk lie, and how many there are; none where it has no piece
pub record IsRunOf (xs : List ℕ) (i from size : ℕ) : Type 0 where
  pub ends : from + size ≤ 65520
  pub none : entry xs i ≤ 1 → size ≡ 0
  pub some : 1 < entry xs i → (from ≡ entry xs i + 2) × (size ≡ word_in xs (entry xs i))

-- behind the piece of slot i lies a free one of this room, and it alone is not in the list
pub record HasNext (s : Space) (i room : ℕ) : Type 0 where
  pub before : List Piece
  pub bytes : List ℕ
  pub after : List Piece
  pub free : List ℕ
  pub held : HasPieces s (before ++ (Used i bytes ∷ (Free room ∷ after))) free 1
  pub other : IsOther (s.low + spaces before + piece_space (length bytes)) free

-- the chunk of slot i, which has a piece, is cut, or has zeros behind it; every other slot has its own
pub record IsResized (s u : Space) (i n : ℕ) : Type 0 where
  pub slots : u.slots ≡ s.slots
  pub chunks : chunks_in u.region u.slots ≡ set (chunks_in s.region s.slots) i (
      Some (resized (unwrap_or (get_or (chunks_in s.region s.slots) i None) []) n))
  pub total : u.total + piece_space (word_in s.region (entry s.region i)) ≡ s.total + piece_space n

-- behind the first word at q stand the bytes of slot i's chunk, cut to n or with zeros behind them
abbrev pub IsReadyToTake : Space → ℕ → ℕ → ℕ → Type 0
IsReadyToTake s i q n =
    (k : ℕ) → k < n
    → get_or s.region (q + 2 + k) 0 ≡ get_or (resized (unwrap_or (get_or (chunks_in s.region s.slots) i None) []) n) k 0

-- between the piece of slot i and the free one at h, of this room, lie only chunks, and that one alone is not in the
-- list
pub record HasBehind (s : Space) (i h room : ℕ) : Type 0 where
  pub before : List Piece
  pub bytes : List ℕ
  pub run : List Piece
  pub after : List Piece
  pub free : List ℕ
  pub held : HasPieces s (before ++ (Used i bytes ∷ (run ++ (Free room ∷ after)))) free 1
  pub chunks : free_count run ≡ 0
  pub place : h ≡ s.low + spaces before + piece_space (length bytes) + spaces run
  pub other : IsOther h free
