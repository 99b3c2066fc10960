-- What a heap's region holds: behind a header of 16 bytes a word for each slot, its entry, and from the mark `low` to
-- the end the pieces, one after another.
use Rattle.std.specs.Prelude.{◌≡◌, ◌≢◌, ℕ, ◌+◌, ◌-◌, ◌*◌, ◌/◌, ◌<◌, ◌≤◌, List, [], ◌∷◌, length, get_or}

-- the word at a place, its low byte first
unfoldable pub word_in : List ℕ → ℕ → ℕ
word_in xs p = get_or xs p 0 + 256 * get_or xs (p + 1) 0

-- a slot's entry
unfoldable pub entry : List ℕ → ℕ → ℕ
entry xs i = get_or xs (16 + 2 * i) 0 + 256 * get_or xs (16 + 2 * i + 1) 0

-- what a piece takes that holds n bytes
abbrev pub piece_space : ℕ → ℕ
piece_space n = 4 * ((n + 5) / 4)

-- a piece: the chunk of a slot, or free space
pub data Piece : Type 0 where
  Used : (slot : ℕ) (bytes : List ℕ) → Piece
  Free : (room : ℕ) → Piece

abbrev pub space : Piece → ℕ
space (Used i bytes) = piece_space (length bytes)
space (Free s) = s

abbrev pub content : Piece → List ℕ
content (Used i bytes) = bytes
content (Free s) = []

-- the word that a piece begins with: of a chunk its size, or while the heap is packed its handle; of free space the
-- space, made odd
abbrev pub size_head : Piece → ℕ
size_head (Used i bytes) = length bytes
size_head (Free s) = s + 1

abbrev pub handle_head : Piece → ℕ
handle_head (Used i bytes) = 16 + 2 * i
handle_head (Free s) = s + 1

-- a piece lies at p
pub record IsPieceAt (head_of : Piece → ℕ) (xs : List ℕ) (p : ℕ) (c : Piece) : Type 0 where
  pub head : word_in xs p ≡ head_of c
  pub bytes : (k : ℕ) → k < length (content c) → get_or xs (p + 2 + k) 0 ≡ get_or (content c) k 0

-- pieces lie one after another from p to q
abbrev pub Lies : (Piece → ℕ) → List ℕ → ℕ → List Piece → ℕ → Type 0
Lies head_of xs p [] q = p ≡ q
Lies head_of xs p (c ∷ cs) q = IsPieceAt head_of xs p c × Lies head_of xs (p + space c) cs q

-- the entries of the pieces' slots are as `entry_of` says, of the place, the slot and the chunk
abbrev pub Points : (ℕ → ℕ → List ℕ → ℕ) → List ℕ → ℕ → List Piece → Type 0
Points entry_of xs p [] = Unit {0}
Points entry_of xs p (Used i bytes ∷ cs) =
    (entry xs i ≡ entry_of p i bytes) × Points entry_of xs (p + piece_space (length bytes)) cs
Points entry_of xs p (Free s ∷ cs) = Points entry_of xs (p + s) cs

-- a chunk has bytes, and its entry lies below the mark; a free space is of whole double words
abbrev pub IsShaped : ℕ → Piece → Type 0
IsShaped low (Used i bytes) = (0 < length bytes) × (18 + 2 * i ≤ low)
IsShaped low (Free s) = (0 < s) × (s ≡ 4 * (s / 4))

abbrev pub AllShaped : ℕ → List Piece → Type 0
AllShaped low [] = Unit {0}
AllShaped low (c ∷ cs) = IsShaped low c × AllShaped low cs

-- no piece is of this slot
abbrev pub IsFresh : ℕ → List Piece → Type 0
IsFresh i [] = Unit {0}
IsFresh i (Used j bytes ∷ cs) = (i ≢ j) × IsFresh i cs
IsFresh i (Free s ∷ cs) = IsFresh i cs

-- no two pieces are of one slot
abbrev pub ArePiecesDistinct : List Piece → Type 0
ArePiecesDistinct [] = Unit {0}
ArePiecesDistinct (Used i bytes ∷ cs) = IsFresh i cs × ArePiecesDistinct cs
ArePiecesDistinct (Free s ∷ cs) = ArePiecesDistinct cs

-- the pieces with a chunk
abbrev pub used : List Piece → List Piece
used [] = []
used (Used i bytes ∷ cs) = Used i bytes ∷ used cs
used (Free s ∷ cs) = used cs

-- how many are free
abbrev pub free_count : List Piece → ℕ
free_count [] = 0
free_count (Used i bytes ∷ cs) = free_count cs
free_count (Free s ∷ cs) = free_count cs + 1

-- what pieces take
abbrev pub spaces : List Piece → ℕ
spaces [] = 0
spaces (c ∷ cs) = space c + spaces cs

-- entries: where the piece lies; where it is to lie, if what lies at `from` goes to `target`; while the heap is packed
-- the size
abbrev pub place_of : ℕ → ℕ → List ℕ → ℕ
place_of p i bytes = p

abbrev pub place_to : ℕ → ℕ → ℕ → ℕ → List ℕ → ℕ
place_to from target p i bytes = p + target - from

abbrev pub size_of : ℕ → ℕ → List ℕ → ℕ
size_of p i bytes = length bytes
