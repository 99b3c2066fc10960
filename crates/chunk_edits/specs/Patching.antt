-- What a patch does to bytes, forwards and backwards.
use Rattle.std.specs.Prelude.{◌≡◌, ◌<◌, ◌+◌, ◌-◌, ◌*◌, ◌^◌, ◌%◌, ◌++◌, ℕ, zero, suc, List, [], ◌∷◌, length, map, take, drop, max, None}
use Rattle.std.specs.List.{All, splice, sum_by}
use Rattle.geos_model.specs.Refusal.{Conditions, first_refusal}
use Rattle.geos_model.specs.Words.{word, word_at}
use Rattle.chunk_edits.specs.declared.direction.Direction.{Direction}
use Rattle.chunk_edits.specs.declared.direction.Direction.TheVariants.{Forwards, Backwards}

-- A piece of some bytes, and what becomes of it: so many bytes stay; these go, and others come in their place; so many
-- words, each as far behind `to` then, modulo 2^16, as it is behind `from`.
pub data PatchPiece : Type 0 where
  Keep : (n : ℕ) → PatchPiece
  Put : (old new : List ℕ) → PatchPiece
  Rebase : (words from to : ℕ) → PatchPiece

-- how many bytes a piece is of, how many come in their place, and how many it holds

abbrev pub taken : PatchPiece → ℕ
taken (Keep n) = n
taken (Put old new) = length old
taken (Rebase words from to) = 2 * words

abbrev pub given : PatchPiece → ℕ
given (Keep n) = n
given (Put old new) = length new
given (Rebase words from to) = 2 * words

abbrev pub held_by : PatchPiece → ℕ
held_by (Keep n) = 0
held_by (Put old new) = length old + length new
held_by (Rebase words from to) = 0

-- how many bytes all pieces are of, how many come in their place, how many there are at most in between, and how many
-- are held
abbrev pub total_taken : List PatchPiece → ℕ
total_taken ps = sum_by taken ps

abbrev pub total_given : List PatchPiece → ℕ
total_given ps = sum_by given ps

abbrev pub peak : List PatchPiece → ℕ
peak ps = sum_by (λ p. max (taken p) (given p)) ps

abbrev pub total_held : List PatchPiece → ℕ
total_held ps = sum_by held_by ps

-- so many words, each as far behind a number, modulo 2^16, as it was behind another
abbrev pub rebased : ℕ → ℕ → ℕ → List ℕ → List ℕ
rebased zero from to bytes = []
rebased (suc n) from to bytes =
    word (word_at bytes 0 + to + (2 ^ 16 - from % 2 ^ 16)) ++ rebased n from to (drop 2 bytes)

-- what becomes of the bytes of a piece
abbrev pub piece_after : PatchPiece → List ℕ → List ℕ
piece_after (Keep n) bytes = bytes
piece_after (Put old new) bytes = new
piece_after (Rebase words from to) bytes = rebased words from to bytes

-- the bytes with each piece as it becomes
abbrev pub patched : List PatchPiece → List ℕ → List ℕ
patched [] bytes = bytes
patched (p ∷ ps) bytes = piece_after p (take (taken p) bytes) ++ patched ps (drop (taken p) bytes)

-- these are the bytes of a piece
abbrev pub IsPieceOf : PatchPiece → List ℕ → Type 0
IsPieceOf (Keep n) bytes = length bytes ≡ n
IsPieceOf (Put old new) bytes = bytes ≡ old
IsPieceOf (Rebase words from to) bytes = (length bytes ≡ 2 * words) × All (λ b. b < 256) bytes

-- the bytes are those of the pieces, one after another
abbrev pub ArePiecesOf : List PatchPiece → List ℕ → Type 0
ArePiecesOf [] bytes = bytes ≡ []
ArePiecesOf (p ∷ ps) bytes = IsPieceOf p (take (taken p) bytes) × ArePiecesOf ps (drop (taken p) bytes)

-- The same pieces the other way round.

abbrev pub reversed_piece : PatchPiece → PatchPiece
reversed_piece (Keep n) = Keep n
reversed_piece (Put old new) = Put new old
reversed_piece (Rebase words from to) = Rebase words to from

abbrev pub reversed_pieces : List PatchPiece → List PatchPiece
reversed_pieces ps = map reversed_piece ps

abbrev pub directed_pieces : Direction → List PatchPiece → List PatchPiece
directed_pieces Forwards ps = ps
directed_pieces Backwards ps = reversed_pieces ps

abbrev pub directed_piece : Direction → PatchPiece → PatchPiece
directed_piece Forwards p = p
directed_piece Backwards p = reversed_piece p

-- bytes of which those of a piece at a place became what the piece makes of them
abbrev pub with_piece : PatchPiece → ℕ → List ℕ → List ℕ
with_piece p at bytes = splice bytes at (at + taken p) (piece_after p (take (taken p) (drop at bytes)))

-- From these bytes the patch leads to those, and on the way there are no more of them than before or after it.
pub record PatchLeads (ps : List PatchPiece) (from to : List ℕ) : Type 0 where
  pub stands : ArePiecesOf ps from
  pub gives : patched ps from ≡ to
  pub peak : peak ps ≡ max (length from) (length to)

-- The patch that is asked for is built where nothing refuses it.
pub record BuildsPatch (conditions : Conditions) (ps : List PatchPiece) (from to : List ℕ) : Type 0 where
  pub accepted : first_refusal conditions ≡ None
  pub leads : PatchLeads ps from to

-- Where pieces are those of some bytes, the pieces the other way round are those of what becomes of them, and lead
-- back.
abbrev pub PatchLaw : Type 0
PatchLaw = (ps : List PatchPiece) (bytes : List ℕ) → ArePiecesOf ps bytes
    → ArePiecesOf (reversed_pieces ps) (patched ps bytes) × (patched (reversed_pieces ps) (patched ps bytes) ≡ bytes)
