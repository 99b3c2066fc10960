-- The text of an entry is that of the entry that is read from it, where the words that say nothing are zero.
use Rattle.std.proofs.Common.{Bool, ◌≡◌, ℕ, ◌+◌, ◌<◌, ◌≤◌, true, false, cond, ◌==◌, Some, None, List, [], ◌∷◌, ◌++◌, length, take, drop, slice_index, refl, sym, ap, subst, ◌∙◌, arith, eqb-true, append-nil}
use Rattle.std.proofs.lemmas.List.{get_or-drop, get_or-take, length-drop, length-take-le, drop_all, drop-drop, take-append-drop}
use Rattle.std.proofs.lemmas.List.Elements.{All-from_get_or}
use Rattle.byteorder.specs.Endian.{little_number, little_bytes}
use Rattle.byteorder.specs.Numbers.{little_from-take}
use Rattle.geos_model.specs.Words.{word, double_word, word_at, double_word_at}
use Rattle.geos_model.proofs.Numbers.{number_law}
use Rattle.file_format.specs.File.{type_text, number_or_zero, sum_text, entry_length, entry_text, entry_read}
use Rattle.file_format.specs.declared.file.Entry.{Entry}

-- bytes as they are read
abbrev pub AreBytes : List ℕ → Type 0
AreBytes bytes = (i : ℕ) → slice_index bytes i < 256

-- the number in so many bytes, written again before the bytes behind them
number_rejoin : (n : ℕ) (bytes : List ℕ) → AreBytes bytes → (i : ℕ) → i + n ≤ length bytes → little_bytes n (little_number n (drop i bytes)) ++ drop (i + n) bytes ≡ drop i bytes
number_rejoin n bytes are i l =
    let long = length-drop i bytes in
    let part : List ℕ = take n (drop i bytes) in
    let size : length part ≡ n = length-take-le n (drop i bytes) (omega (arith, long, l)) in
    let below : (k : ℕ) → k < length part → slice_index part k < 256 = λ k m. subst (λ x. x < 256) (sym (get_or-take n (drop i bytes) k 0 (omega (arith, m, size)) ∙ get_or-drop i bytes k 0)) (are (i + k)) in
    let back : little_bytes (length part) (little_number (length part) part) ≡ part = number_law.written_back part (All-from_get_or (λ b. b < 256) part 0 below) in
    let sized : little_bytes n (little_number n part) ≡ part = subst (λ m. little_bytes m (little_number m part) ≡ part) size back in
    let number : little_number n (drop i bytes) ≡ little_number n part = sym (little_from-take 0 n n (drop i bytes) (omega arith)) in
    ap (λ (x : ℕ). little_bytes n x ++ drop (i + n) bytes) number
    ∙ ap (λ (xs : List ℕ). xs ++ drop (i + n) bytes) sized
    ∙ ap (λ (xs : List ℕ). part ++ xs) (sym (drop-drop n i bytes))
    ∙ take-append-drop n (drop i bytes)

sum_written : (test : Bool) (bytes : List ℕ) → AreBytes bytes → length bytes ≡ cond test 20 16
    → cond test (double_word (number_or_zero (cond test (Some (double_word_at bytes 16)) None))) [] ≡ drop 16 bytes
sum_written true bytes are size =
    let none : drop 20 bytes ≡ [] = drop_all 20 bytes (omega (arith, size)) in
    let sum : List ℕ = double_word (double_word_at bytes 16) in
    sym (append-nil sum) ∙ ap (λ (xs : List ℕ). sum ++ xs) (sym none) ∙ number_rejoin 4 bytes are 16 (omega (arith, size))
sum_written false bytes are size = sym (drop_all 16 bytes (omega (arith, size)))

type_written : (test : Bool) (bytes : List ℕ) → AreBytes bytes → 14 ≤ length bytes → (test ≡ true → word_at bytes 12 ≡ 0)
    → cond test (0 ∷ 0 ∷ []) (word (cond test 0 (word_at bytes 12))) ++ drop 14 bytes ≡ drop 12 bytes
type_written true bytes are l zeros = ap (λ (n : ℕ). word n ++ drop 14 bytes) (sym (zeros refl)) ∙ number_rejoin 2 bytes are 12 l
type_written false bytes are l zeros = number_rejoin 2 bytes are 12 l

least_length : (test : Bool) → 16 ≤ cond test 20 16
least_length true = omega arith
least_length false = omega arith

pub entry-written_back : (version : ℕ) (bytes : List ℕ) → AreBytes bytes → length bytes ≡ entry_length version → (version ≡ 1 → word_at bytes 12 ≡ 0) → word_at bytes 14 ≡ 0
    → entry_text version (entry_read version bytes) ≡ bytes
entry-written_back version bytes are size untyped zeros =
    let long : 16 ≤ length bytes = (let least = least_length (version == 3) in omega (arith, least, size)) in
    let e : Entry = entry_read version bytes in
    let behind : List ℕ = 0 ∷ 0 ∷ sum_text version e.sum in
    let padded : behind ≡ drop 14 bytes = ap (λ (xs : List ℕ). 0 ∷ 0 ∷ xs) (sum_written (version == 3) bytes are size) ∙ ap (λ (n : ℕ). word n ++ drop 16 bytes) (sym zeros) ∙ number_rejoin 2 bytes are 14 (omega (arith, long)) in
    let kind : List ℕ = type_text version e.attributes.heap_type in
    let typed : kind ++ behind ≡ drop 12 bytes = ap (λ (xs : List ℕ). kind ++ xs) padded ∙ type_written (version == 1) bytes are (omega (arith, long)) (λ one. untyped (eqb-true version 1 one)) in
    let sized : double_word e.extent.length ++ kind ++ behind ≡ drop 8 bytes = ap (λ (xs : List ℕ). double_word e.extent.length ++ xs) typed ∙ number_rejoin 4 bytes are 8 (omega (arith, long)) in
    let placed : double_word e.extent.page ++ double_word e.extent.length ++ kind ++ behind ≡ drop 4 bytes = ap (λ (xs : List ℕ). double_word e.extent.page ++ xs) sized ∙ number_rejoin 4 bytes are 4 (omega (arith, long)) in
    let named : word e.attributes.user_id ++ double_word e.extent.page ++ double_word e.extent.length ++ kind ++ behind ≡ drop 2 bytes = ap (λ (xs : List ℕ). word e.attributes.user_id ++ xs) placed ∙ number_rejoin 2 bytes are 2 (omega (arith, long)) in
    ap (λ (xs : List ℕ). word e.handle.0 ++ xs) named ∙ number_rejoin 2 bytes are 0 (omega (arith, long))

zeros_behind : (test : Bool) (h u page n t : ℕ) (rest : List ℕ) → word_at (word h ++ word u ++ (double_word page ++ double_word n) ++ cond test (0 ∷ 0 ∷ []) (word t) ++ 0 ∷ 0 ∷ rest) 14 ≡ 0
zeros_behind true h u page n t rest = refl
zeros_behind false h u page n t rest = refl

-- the words that say nothing are zero in an entry's text
pub entry-padded : (version : ℕ) (e : Entry) → word_at (entry_text version e) 14 ≡ 0
entry-padded version e = zeros_behind (version == 1) e.handle.0 e.attributes.user_id e.extent.page e.extent.length e.attributes.heap_type (sum_text version e.sum)

pub entry-untyped : (version : ℕ) (e : Entry) → version ≡ 1 → word_at (entry_text version e) 12 ≡ 0
entry-untyped version e one = ap (λ (v : ℕ). word_at (entry_text v e) 12) one
