-- The name that a line begins with.
use Rattle.std.proofs.Common.{cond, nat_eq, ◌==◌, ◌&&◌, ◌≡◌, ◌∙◌, ap, sym, ◌+◌, ◌<◌, ◌≤◌, ℕ, suc, zero, true, false, List, [], ◌∷◌, length, slice_index, drop, refl, arith}
use Rattle.std.proofs.lemmas.Bool.Decides.{nat_tests}
use Rattle.std.proofs.lemmas.List.{drop_all, drop_more}
use Rattle.std.proofs.lemmas.Nat.{le_bytes_8}
use Rattle.std.specs.Int.{from_le_bytes, to_le_bytes, w64}
use native.Mathlib.Numerals.{unary_clauses}
use Rattle.std.specs.List.{starts_with}
use Rattle.geos_model.specs.Bytes.{same_bytes}
use Rattle.geos_model.specs.Script.{command_of_words}
use Rattle.geos_script.specs.Making.{named_from}

-- what stands for a first byte other than #
cond-other : {A : Type 0} (x : ℕ) (a b : A) → false ≡ (35 == x && true) → cond (x == 35) a b ≡ b
cond-other x a b h = grind (arith, nat_tests)

-- another line is what its first word names
pub command_of_words-named : (name : List ℕ) (operands : List (List ℕ)) → false ≡ starts_with nat_eq name (35 ∷ [])
    → command_of_words (name ∷ operands) ≡ named_from 0 name operands
unfolding named_from
command_of_words-named [] operands h = refl
command_of_words-named (x ∷ name) operands h = cond-other x _ _ h

-- two texts that have one more byte the same are the same where their rests are
pub same_rest : (xs ys : List ℕ) (i : ℕ) → i < length xs → i < length ys → slice_index xs i ≡ slice_index ys i
    → same_bytes (drop i xs) (drop i ys) ≡ same_bytes (drop (i + 1) xs) (drop (i + 1) ys)
same_rest xs ys i in_xs in_ys same = rw (drop_more xs i 0 in_xs, drop_more ys i 0 in_ys) (grind (arith, nat_tests, same))

-- and with no more bytes they are
pub same_at_end : (xs ys : List ℕ) (i : ℕ) → length xs ≤ i → length ys ≤ i → true ≡ same_bytes (drop i xs) (drop i ys)
same_at_end xs ys i end_xs end_ys = rw (drop_all i xs end_xs, drop_all i ys end_ys) refl

-- two texts whose first bytes are the same are the same where their rests are
pub same_behind : (xs ys : List ℕ) (n : ℕ) → n ≤ length xs → n ≤ length ys → ((k : ℕ) → k < n → slice_index xs k ≡ slice_index ys k)
    → same_bytes xs ys ≡ same_bytes (drop n xs) (drop n ys)
same_behind xs ys zero in_xs in_ys same = refl
same_behind xs ys (suc n) in_xs in_ys same =
    same_behind xs ys n (omega arith) (omega arith) (λ k lt. same k (omega arith)) ∙ (simp unary_clauses at same_rest xs ys n (omega arith) (omega arith) (same n (omega arith)))

-- the first eight bytes
abbrev pub front : List ℕ → List ℕ
front xs =
    slice_index xs 0 ∷ slice_index xs 1 ∷ slice_index xs 2 ∷ slice_index xs 3
    ∷ slice_index xs 4 ∷ slice_index xs 5 ∷ slice_index xs 6 ∷ slice_index xs 7 ∷ []

front_bytes : (xs : List ℕ) → ((i : ℕ) → slice_index xs i < 256) → (i : ℕ) → slice_index (front xs) i < 256
front_bytes xs bytes zero = bytes 0
front_bytes xs bytes (suc zero) = bytes 1
front_bytes xs bytes (suc (suc zero)) = bytes 2
front_bytes xs bytes (suc (suc (suc zero))) = bytes 3
front_bytes xs bytes (suc (suc (suc (suc zero)))) = bytes 4
front_bytes xs bytes (suc (suc (suc (suc (suc zero))))) = bytes 5
front_bytes xs bytes (suc (suc (suc (suc (suc (suc zero)))))) = bytes 6
front_bytes xs bytes (suc (suc (suc (suc (suc (suc (suc zero))))))) = bytes 7
front_bytes xs bytes (suc (suc (suc (suc (suc (suc (suc (suc n)))))))) = omega arith

front_at : (xs : List ℕ) (k : ℕ) → k < 8 → slice_index (front xs) k ≡ slice_index xs k
front_at xs zero lt = refl
front_at xs (suc zero) lt = refl
front_at xs (suc (suc zero)) lt = refl
front_at xs (suc (suc (suc zero))) lt = refl
front_at xs (suc (suc (suc (suc zero)))) lt = refl
front_at xs (suc (suc (suc (suc (suc zero))))) lt = refl
front_at xs (suc (suc (suc (suc (suc (suc zero)))))) lt = refl
front_at xs (suc (suc (suc (suc (suc (suc (suc zero))))))) lt = refl
front_at xs (suc (suc (suc (suc (suc (suc (suc (suc n)))))))) lt = absurd (omega arith)

-- two texts that begin with the same number begin with the same bytes
pub same_front : (xs ys : List ℕ) (m n : ℕ) → ((i : ℕ) → slice_index xs i < 256) → ((i : ℕ) → slice_index ys i < 256)
    → m ≡ from_le_bytes w64 (front xs) → n ≡ from_le_bytes w64 (front ys) → m ≡ n
    → (k : ℕ) → k < 8 → slice_index xs k ≡ slice_index ys k
same_front xs ys m n bytes_x bytes_y of_x of_y same k lt =
    let first : to_le_bytes w64 m ≡ front xs = le_bytes_8 (front xs) m refl (front_bytes xs bytes_x) of_x in
    let second : to_le_bytes w64 n ≡ front ys = le_bytes_8 (front ys) n refl (front_bytes ys bytes_y) of_y in
    let both : front xs ≡ front ys = sym first ∙ ap (to_le_bytes w64) same ∙ second in
    sym (front_at xs k lt) ∙ ap (λ (l : List ℕ). slice_index l k) both ∙ front_at ys k lt
