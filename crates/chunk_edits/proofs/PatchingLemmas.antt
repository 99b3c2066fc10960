-- What a patch leaves: how many bytes, and that it leads back.
use Rattle.std.proofs.Common.{◌≡◌, ℕ, zero, suc, ◌+◌, ◌-◌, ◌*◌, ◌/◌, ◌%◌, ◌^◌, ◌≤◌, ◌<◌, max, List, [], ◌∷◌, ◌++◌, length, map, take, drop, flat_map, All, refl, sym, ap, ap₂, ◌∙◌, arith, length-append, length-drop, length-take-le, take-append-drop, take_at, drop_at}
use Rattle.std.proofs.Math.Nat.{div-one}
use Rattle.std.proofs.lemmas.List.Sums.{sum_by-cons}
use Rattle.byteorder.specs.Numbers.{little_from-bytes}
use Rattle.geos_model.specs.Words.{word, word_at}
use Rattle.chunk_edits.specs.Patching.{PatchPiece, Keep, Put, Rebase, taken, given, held_by, total_taken, total_given, peak, total_held, rebased, piece_after, patched, IsPieceOf, ArePiecesOf, reversed_piece, reversed_pieces}

-- Words.

-- numbers that are the same modulo 2^16 are the same words
pub word-same : (m n : ℕ) → m % 65536 ≡ n % 65536 → word m ≡ word n
word-same m n same =
    let low : m % 256 ≡ n % 256 = omega arith in
    let high : m / 256 % 256 ≡ n / 256 % 256 = omega arith in
    ap₂ (λ (a b : ℕ). a ∷ b ∷ []) low high

pub word-wraps : (n k : ℕ) → word (n + 2 ^ 16 * k) ≡ word n
word-wraps n k = word-same (n + 2 ^ 16 * k) n (omega arith)

pub word-read : (n : ℕ) (rest : List ℕ) → word_at (word n ++ rest) 0 ≡ n % 65536
word-read n rest = little_from-bytes 2 0 n rest ∙ ap (λ (x : ℕ). x % 65536) (div-one n)

pub word-of_bytes : (a b : ℕ) → a < 256 → b < 256 → word (a + 256 * b) ≡ a ∷ b ∷ []
word-of_bytes a b la lb =
    let low : (a + 256 * b) % 256 ≡ a = omega arith in
    let high : (a + 256 * b) / 256 % 256 ≡ b = omega arith in
    ap₂ (λ (x y : ℕ). x ∷ y ∷ []) low high

word_at-of_bytes : (a b : ℕ) (bs : List ℕ) → word_at (a ∷ b ∷ bs) 0 ≡ a + 256 * b
word_at-of_bytes a b bs = omega arith

pub length-rebased : (n from to : ℕ) (bytes : List ℕ) → length (rebased n from to bytes) ≡ 2 * n
length-rebased zero from to bytes = refl
length-rebased (suc n) from to bytes = let rest = length-rebased n from to (drop 2 bytes) in omega (arith, rest)

-- words that are rebased, and rebased back
shifted_twice : (w from to : ℕ) → (((w + to + (2 ^ 16 - from % 2 ^ 16)) % 65536) + from + (2 ^ 16 - to % 2 ^ 16)) % 65536 ≡ w % 65536
shifted_twice w from to = omega arith

word_back : (a b from to : ℕ) (bs rest : List ℕ) → a < 256 → b < 256
    → word (word_at (word (word_at (a ∷ b ∷ bs) 0 + to + (2 ^ 16 - from % 2 ^ 16)) ++ rest) 0 + from + (2 ^ 16 - to % 2 ^ 16)) ≡ a ∷ b ∷ []
word_back a b from to bs rest la lb =
    let w = word_at (a ∷ b ∷ bs) 0 in
    ap (λ (x : ℕ). word (x + from + (2 ^ 16 - to % 2 ^ 16))) (word-read (w + to + (2 ^ 16 - from % 2 ^ 16)) rest)
    ∙ (word-same ((w + to + (2 ^ 16 - from % 2 ^ 16)) % 65536 + from + (2 ^ 16 - to % 2 ^ 16)) w (shifted_twice w from to)
    ∙ (ap word (word_at-of_bytes a b bs) ∙ word-of_bytes a b la lb))

rebased_back : (n from to : ℕ) (bytes : List ℕ) → length bytes ≡ 2 * n → All (λ b. b < 256) bytes
    → rebased n to from (rebased n from to bytes) ≡ bytes
rebased_back zero from to [] size all = refl
rebased_back zero from to (b ∷ bs) size all = absurd (omega arith)
rebased_back (suc n) from to [] size all = absurd (omega arith)
rebased_back (suc n) from to (a ∷ []) size all = absurd (omega arith)
rebased_back (suc n) from to (a ∷ b ∷ bs) size all =
    let la : a < 256 = all 0 0 (omega arith) in
    let lb : b < 256 = all 1 0 (omega arith) in
    let rest : rebased n to from (rebased n from to bs) ≡ bs = rebased_back n from to bs (omega arith) (λ k d l. all (suc (suc k)) d (omega arith)) in
    ap₂ (λ (x y : List ℕ). x ++ y) (word_back a b from to bs (rebased n from to bs) la lb) rest

bytes_of_word : (n : ℕ) (rest : List ℕ) → All (λ b. b < 256) rest → All (λ b. b < 256) (word n ++ rest)
bytes_of_word n rest all zero d l = omega arith
bytes_of_word n rest all (suc zero) d l = omega arith
bytes_of_word n rest all (suc (suc k)) d l = all k d (omega arith)

bytes_of_rebased : (n from to : ℕ) (bytes : List ℕ) → All (λ b. b < 256) (rebased n from to bytes)
bytes_of_rebased zero from to bytes = λ k d l. absurd (omega arith)
bytes_of_rebased (suc n) from to bytes =
    bytes_of_word (word_at bytes 0 + to + (2 ^ 16 - from % 2 ^ 16)) (rebased n from to (drop 2 bytes)) (bytes_of_rebased n from to (drop 2 bytes))

pub rebased_words : (ws : List ℕ) (from to : ℕ)
    → rebased (length ws) from to (flat_map word ws) ≡ flat_map word (map (λ w. w + to + (2 ^ 16 - from % 2 ^ 16)) ws)
rebased_words [] from to = refl
rebased_words (w ∷ ws) from to =
    let first : word (word_at (word w ++ flat_map word ws) 0 + to + (2 ^ 16 - from % 2 ^ 16)) ≡ word (w + to + (2 ^ 16 - from % 2 ^ 16)) =
    ap (λ (x : ℕ). word (x + to + (2 ^ 16 - from % 2 ^ 16))) (word-read w (flat_map word ws))
    ∙ word-same (w % 65536 + to + (2 ^ 16 - from % 2 ^ 16)) (w + to + (2 ^ 16 - from % 2 ^ 16)) (omega arith) in
    ap₂ (λ (x y : List ℕ). x ++ y) first (rebased_words ws from to)

-- How many bytes a patch takes, gives and holds.

pub piece-length : (p : PatchPiece) (bytes : List ℕ) → IsPieceOf p bytes → length bytes ≡ taken p
piece-length (Keep n) bytes is = is
piece-length (Put old new) bytes is = ap length is
piece-length (Rebase words from to) bytes is = is.0

pub piece_after-length : (p : PatchPiece) (bytes : List ℕ) → length bytes ≡ taken p → length (piece_after p bytes)
    ≡ given p
piece_after-length (Keep n) bytes size = size
piece_after-length (Put old new) bytes size = refl
piece_after-length (Rebase words from to) bytes size = length-rebased words from to bytes

-- sums, by the first piece

pub taken-cons : (p : PatchPiece) (ps : List PatchPiece) → total_taken (p ∷ ps) ≡ taken p + total_taken ps
taken-cons p ps = sum_by-cons taken p ps

pub given-cons : (p : PatchPiece) (ps : List PatchPiece) → total_given (p ∷ ps) ≡ given p + total_given ps
given-cons p ps = sum_by-cons given p ps

pub peak-cons : (p : PatchPiece) (ps : List PatchPiece) → peak (p ∷ ps) ≡ max (taken p) (given p) + peak ps
peak-cons p ps = sum_by-cons (λ q. max (taken q) (given q)) p ps

pub held-cons : (p : PatchPiece) (ps : List PatchPiece) → total_held (p ∷ ps) ≡ held_by p + total_held ps
held-cons p ps = sum_by-cons held_by p ps

pub pieces_length : (ps : List PatchPiece) (bytes : List ℕ) → ArePiecesOf ps bytes → length bytes ≡ total_taken ps
pieces_length [] bytes are = ap length are
pieces_length (p ∷ ps) bytes are =
    let first = piece-length p (take (taken p) bytes) are.0 in
    let rest = pieces_length ps (drop (taken p) bytes) are.1 in
    let whole : length (take (taken p) bytes ++ drop (taken p) bytes) ≡ length bytes = ap length (take-append-drop (taken p) bytes) in
    omega (arith, first, rest, whole, length-append (take (taken p) bytes) (drop (taken p) bytes), taken-cons p ps)

pub patched_length_of : (ps : List PatchPiece) (bytes : List ℕ) → total_taken ps ≡ length bytes → length (patched ps bytes) ≡ total_given ps
patched_length_of [] bytes size = sym size
patched_length_of (p ∷ ps) bytes size =
    let first = piece_after-length p (take (taken p) bytes) (omega (arith, taken-cons p ps, length-take-le (taken p) bytes)) in
    let rest = patched_length_of ps (drop (taken p) bytes) (omega (arith, taken-cons p ps, length-drop (taken p) bytes)) in
    omega (arith, first, rest, given-cons p ps, length-append (piece_after p (take (taken p) bytes)) (patched ps (drop (taken p) bytes)))

pub patched_length : (ps : List PatchPiece) (bytes : List ℕ) → ArePiecesOf ps bytes → length (patched ps bytes) ≡ total_given ps
patched_length ps bytes are = patched_length_of ps bytes (sym (pieces_length ps bytes are))

pub taken_le_peak : (ps : List PatchPiece) → total_taken ps ≤ peak ps
taken_le_peak [] = omega arith
taken_le_peak (p ∷ ps) = let rest = taken_le_peak ps in omega (arith, rest, taken-cons p ps, peak-cons p ps)

pub given_le_peak : (ps : List PatchPiece) → total_given ps ≤ peak ps
given_le_peak [] = omega arith
given_le_peak (p ∷ ps) = let rest = given_le_peak ps in omega (arith, rest, given-cons p ps, peak-cons p ps)

held_by-le : (p : PatchPiece) → held_by p ≤ taken p + given p
held_by-le (Keep n) = omega arith
held_by-le (Put old new) = omega arith
held_by-le (Rebase words from to) = omega arith

pub held_le : (ps : List PatchPiece) → total_held ps ≤ total_taken ps + total_given ps
held_le [] = omega arith
held_le (p ∷ ps) =
    let first = held_by-le p in
    let rest = held_le ps in
    omega (arith, first, rest, held-cons p ps, taken-cons p ps, given-cons p ps)

-- The pieces the other way round.

pub taken-reversed : (p : PatchPiece) → taken (reversed_piece p) ≡ given p
taken-reversed (Keep n) = refl
taken-reversed (Put old new) = refl
taken-reversed (Rebase words from to) = refl

pub given-reversed : (p : PatchPiece) → given (reversed_piece p) ≡ taken p
given-reversed (Keep n) = refl
given-reversed (Put old new) = refl
given-reversed (Rebase words from to) = refl

piece-twice : (p : PatchPiece) → reversed_piece (reversed_piece p) ≡ p
piece-twice (Keep n) = refl
piece-twice (Put old new) = refl
piece-twice (Rebase words from to) = refl

pub reversed_taken : (ps : List PatchPiece) → total_taken (reversed_pieces ps) ≡ total_given ps
reversed_taken [] = refl
reversed_taken (p ∷ ps) =
    taken-cons (reversed_piece p) (reversed_pieces ps)
    ∙ (ap₂ (λ (x y : ℕ). x + y) (taken-reversed p) (reversed_taken ps) ∙ sym (given-cons p ps))

pub reversed_given : (ps : List PatchPiece) → total_given (reversed_pieces ps) ≡ total_taken ps
reversed_given [] = refl
reversed_given (p ∷ ps) =
    given-cons (reversed_piece p) (reversed_pieces ps)
    ∙ (ap₂ (λ (x y : ℕ). x + y) (given-reversed p) (reversed_given ps) ∙ sym (taken-cons p ps))

pub reversed_peak : (ps : List PatchPiece) → peak (reversed_pieces ps) ≡ peak ps
reversed_peak [] = refl
reversed_peak (p ∷ ps) =
    let rest = reversed_peak ps in
    omega (arith, taken-reversed p, given-reversed p, rest, peak-cons p ps, peak-cons (reversed_piece p) (reversed_pieces ps))

pub reversed_twice : (ps : List PatchPiece) → reversed_pieces (reversed_pieces ps) ≡ ps
reversed_twice [] = refl
reversed_twice (p ∷ ps) = ap₂ (λ (x : PatchPiece) (y : List PatchPiece). x ∷ y) (piece-twice p) (reversed_twice ps)

piece_back : (p : PatchPiece) (bytes : List ℕ) → IsPieceOf p bytes
    → IsPieceOf (reversed_piece p) (piece_after p bytes) × (piece_after (reversed_piece p) (piece_after p bytes) ≡ bytes)
piece_back (Keep n) bytes is = (is, refl)
piece_back (Put old new) bytes is = (refl, sym is)
piece_back (Rebase words from to) bytes is =
    ((length-rebased words from to bytes, bytes_of_rebased words from to bytes), rebased_back words from to bytes is.0 is.1)

-- pieces that begin with one which becomes these bytes
back_from : (p : PatchPiece) (ps : List PatchPiece) (a r : List ℕ) → length a ≡ taken p → IsPieceOf p a
    → ArePiecesOf ps r
    → ArePiecesOf (p ∷ ps) (a ++ r) × (patched (p ∷ ps) (a ++ r) ≡ piece_after p a ++ patched ps r)
back_from p ps a r size is are =
    let first = take_at a r (taken p) size in
    let rest = drop_at a r (taken p) size in
    ((rw first is, rw rest are), ap₂ (λ (x y : List ℕ). piece_after p x ++ patched ps y) first rest)

pub patch_leads_back : (ps : List PatchPiece) (bytes : List ℕ) → ArePiecesOf ps bytes
    → ArePiecesOf (reversed_pieces ps) (patched ps bytes) × (patched (reversed_pieces ps) (patched ps bytes) ≡ bytes)
patch_leads_back [] bytes are = (are, refl)
patch_leads_back (p ∷ ps) bytes are =
    let head = take (taken p) bytes in
    let tail = drop (taken p) bytes in
    let first = piece_back p head are.0 in
    let rest = patch_leads_back ps tail are.1 in
    let size : length (piece_after p head) ≡ taken (reversed_piece p) =
    piece_after-length p head (piece-length p head are.0) ∙ sym (taken-reversed p) in
    let all = back_from (reversed_piece p) (reversed_pieces ps) (piece_after p head) (patched ps tail) size first.0 rest.0 in
    (all.0, all.1 ∙ (ap₂ (λ (x y : List ℕ). x ++ y) first.1 rest.1 ∙ take-append-drop (taken p) bytes))
