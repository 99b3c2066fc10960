-- Words that all move by the same number.
use Rattle.std.proofs.Common.{◌≡◌, ◌≤◌, ◌<◌, ◌+◌, ◌-◌, ◌*◌, ◌/◌, ◌%◌, ◌^◌, ◌++◌, ◌∷◌, ◌∙◌, ℕ, zero, suc, All, List, [], length, take, drop, get_or, sym, ap, ap₂, subst, append-nil, arith}
use Rattle.std.proofs.lemmas.List.{take_all, drop_all, drop-drop, length-drop, length-take-le, nil_from_length, get_or_default}
use Rattle.byteorder.specs.Endian.{little_number}
use Rattle.raw_region.proofs.Puts.{word_sum, word-take}
use Rattle.geos_model.specs.Words.{word, word_at}
use Rattle.chunk_edits.specs.Patching.{PatchPiece, Rebase, rebased}
use Rattle.chunk_edits.proofs.PatchingLemmas.{word-same, word-of_bytes, peak-cons, held-cons}
use Rattle.large_bodies.specs.Patches.{AddsPieces, AreShifted, IsFurther, IsShiftedFront, IsShiftedBack, word_from_end}

-- a word that lies behind others
word-drop : (n i k : ℕ) (xs : List ℕ) → k ≡ i + n → word_at (drop n xs) i ≡ word_at xs k
word-drop n i k xs is = ap (λ (l : List ℕ). little_number 2 l) (drop-drop i n xs ∙ ap (λ (j : ℕ). drop j xs) (let same : n + i ≡ k = omega arith in same))

rebased_further : (k by : ℕ) (xs ys : List ℕ) → length ys ≡ 2 * k → ((i : ℕ) → get_or ys i 0 < 256)
    → ((j : ℕ) → j < k → IsFurther by (word_at xs (2 * j)) (word_at ys (2 * j))) → rebased k 0 by xs ≡ ys
rebased_further zero by xs ys long are each = sym (nil_from_length ys long)
rebased_further (suc k) by xs [] long are each = absurd (omega arith)
rebased_further (suc k) by xs (a ∷ []) long are each = absurd (omega arith)
rebased_further (suc k) by xs (a ∷ b ∷ ys) long are each =
    let n : ℕ = word_at xs 0 + by + (2 ^ 16 - 0 % 2 ^ 16) in
    let low : a < 256 = are 0 in
    let high : b < 256 = are 1 in
    let here : a + 256 * b ≡ (word_at xs 0 + by) % 65536 = (let e = each 0 (omega arith) in omega (arith, e)) in
    let first : word n ≡ a ∷ b ∷ [] = word-same n (a + 256 * b) (omega (arith, here)) ∙ word-of_bytes a b low high in
    let behind : (j : ℕ) → j < k → IsFurther by (word_at (drop 2 xs) (2 * j)) (word_at ys (2 * j)) =
    λ j less.
    word-drop 2 (2 * j) (2 * suc j) (a ∷ b ∷ ys) (omega arith) ∙ each (suc j) (omega (arith, less))
    ∙ ap (λ (w : ℕ). (w + by) % 65536) (sym (word-drop 2 (2 * j) (2 * suc j) xs (omega arith))) in
    ap₂ (λ (l m : List ℕ). l ++ m) first (rebased_further k by (drop 2 xs) ys (omega arith) (λ i. are (suc (suc i))) behind)

word_at-small : (xs : List ℕ) (i : ℕ) → ((k : ℕ) → get_or xs k 0 < 256) → word_at xs i < 65536
word_at-small xs i are =
    let sum = word_sum xs i in let low = are i in let high = are (i + 1) in
    omega (arith, sum, low, high)

-- words that move by nothing are the same
pub not_shifted : (old new : List ℕ) (by : ℕ) → AreShifted old new by → by ≡ 0 → ((i : ℕ) → get_or old i 0 < 256) → ((i : ℕ) → get_or new i 0 < 256) → old ≡ new
not_shifted old new by moves none was are =
    let whole = moves.whole in let level = moves.level in
    let words : ℕ = length old / 2 in
    let long : length old ≡ 2 * words = omega arith in
    let stays : (j : ℕ) → j < words → IsFurther by (word_at old (2 * j)) (word_at old (2 * j)) =
    λ j less. (let small = word_at-small old (2 * j) was in omega (arith, small, none)) in
    sym (rebased_further words by old old long was stays) ∙ rebased_further words by old new (omega (arith, long, level)) are (λ j less. moves.each j (omega (arith, long, less)))

-- words that all move are a piece
pub adds-shifted : (a b : List PatchPiece) (old new : List ℕ) (by words : ℕ) → AreShifted old new by → words ≡ length old / 2
    → ((i : ℕ) → get_or old i 0 < 256) → ((i : ℕ) → get_or new i 0 < 256) → b ≡ a ++ Rebase words 0 by ∷ [] → AddsPieces a b old new 0
adds-shifted a b old new by words moves count was are joined =
    let whole = moves.whole in let level = moves.level in
    let long : length old ≡ 2 * words = omega arith in
    let all : take (2 * words) old ≡ old = take_all (2 * words) old (omega arith) in
    let none : drop (2 * words) old ≡ [] = drop_all (2 * words) old (omega arith) in
    record {
      more = Rebase words 0 by ∷ [];
      joined = joined;
      leads = record {
        stands = ((ap length all ∙ long, subst (All (λ b. b < 256)) (sym all) (λ i d l. subst (λ (b : ℕ). b < 256) (get_or_default old i 0 d l) (was i))), none);
        gives =
            ap₂ (λ (l m : List ℕ). rebased words 0 by l ++ m) all none ∙ append-nil (rebased words 0 by old)
            ∙ rebased_further words by old new (omega arith) are (λ j less. moves.each j (omega (arith, long, less)));
        peak = let one = peak-cons (Rebase words 0 by) [] in omega (arith, one, long, level);
      };
      holds = held-cons (Rebase words 0 by) [];
    }

-- the words in front, as bytes of their own
pub front_shifted : (old new x y : List ℕ) (by words : ℕ) → IsShiftedFront old new by words → x ≡ take (2 * words) old → y ≡ take (2 * words) new → AreShifted x y by
front_shifted old new x y by words moves x_is y_is =
    let in_old = moves.in_old in let in_new = moves.in_new in
    let long : length x ≡ 2 * words = ap length x_is ∙ length-take-le (2 * words) old in_old in
    let long_new : length y ≡ 2 * words = ap length y_is ∙ length-take-le (2 * words) new in_new in
    record {
      whole = omega (arith, long);
      level = long ∙ sym long_new;
      each = λ k less.
          let within : k < words = omega (arith, long, less) in
          let same : word_at x (2 * k) ≡ word_at old (2 * k) = ap (λ (l : List ℕ). word_at l (2 * k)) x_is ∙ word-take old (2 * k) (2 * words) (omega (arith, within)) in
          let same_new : word_at y (2 * k) ≡ word_at new (2 * k) = ap (λ (l : List ℕ). word_at l (2 * k)) y_is ∙ word-take new (2 * k) (2 * words) (omega (arith, within)) in
          same_new ∙ moves.each k within ∙ ap (λ (w : ℕ). (w + by) % 65536) (sym same);
    }

-- a word of the last ones, by how many are behind it
from_end : (xs : List ℕ) (words k : ℕ) → 2 * words ≤ length xs → k < words → word_at (drop (length xs - 2 * words) xs) (2 * k) ≡ word_from_end xs (words - 1 - k)
from_end xs words k within less = word-drop (length xs - 2 * words) (2 * k) (length xs - (2 * (words - 1 - k) + 2)) xs (omega (arith, within, less))

-- the words at the end
pub back_shifted : (old new x y : List ℕ) (by words : ℕ) → IsShiftedBack old new by words → x ≡ drop (length old - 2 * words) old → y ≡ drop (length new - 2 * words) new
    → AreShifted x y by
back_shifted old new x y by words moves x_is y_is =
    let in_old = moves.in_old in let in_new = moves.in_new in
    let long : length x ≡ 2 * words = omega (arith, ap length x_is, length-drop (length old - 2 * words) old) in
    let long_new : length y ≡ 2 * words = omega (arith, ap length y_is, length-drop (length new - 2 * words) new) in
    record {
      whole = omega (arith, long);
      level = long ∙ sym long_new;
      each = λ k less.
          let within : k < words = omega (arith, long, less) in
          let same : word_at x (2 * k) ≡ word_from_end old (words - 1 - k) = ap (λ (l : List ℕ). word_at l (2 * k)) x_is ∙ from_end old words k in_old within in
          let same_new : word_at y (2 * k) ≡ word_from_end new (words - 1 - k) = ap (λ (l : List ℕ). word_at l (2 * k)) y_is ∙ from_end new words k in_new within in
          same_new ∙ moves.each (words - 1 - k) (omega (arith, within)) ∙ ap (λ (w : ℕ). (w + by) % 65536) (sym same);
    }

-- ---- no more words move

-- what one number moves as a whole another one moves, if they move one word alike
alike : (by other u u′ w w′ : ℕ) → IsFurther by u u′ → IsFurther other u u′ → IsFurther other w w′ → IsFurther by w w′
alike by other u u′ w w′ first next is = omega (arith, first, next, is)

pub front_most : (old new : List ℕ) (by n other m : ℕ) → (2 ≤ length old → 2 ≤ length new → IsFurther by (word_at old 0) (word_at new 0))
    → (2 * n + 2 ≤ length old → 2 * n + 2 ≤ length new → IsFurther by (word_at old (2 * n)) (word_at new (2 * n)) → ⊥)
    → IsShiftedFront old new other m → n < m → ⊥
front_most old new by n other m first most moves less =
    let in_old = moves.in_old in let in_new = moves.in_new in
    most (omega arith) (omega arith)
    (alike by other (word_at old 0) (word_at new 0) (word_at old (2 * n)) (word_at new (2 * n)) (first (omega arith) (omega arith)) (moves.each 0 (omega arith)) (moves.each n less))

pub back_most : (old new : List ℕ) (by n other : ℕ) → (2 ≤ length old → 2 ≤ length new → IsFurther by (word_from_end old 0) (word_from_end new 0))
    → (2 * n + 2 ≤ length old → 2 * n + 2 ≤ length new → IsFurther by (word_from_end old n) (word_from_end new n) → ⊥)
    → IsFurther other (word_from_end old 0) (word_from_end new 0) → IsFurther other (word_from_end old n) (word_from_end new n)
    → 2 * n + 2 ≤ length old → 2 * n + 2 ≤ length new → ⊥
back_most old new by n other last most end here in_old in_new =
    most in_old in_new
    (alike by other (word_from_end old 0) (word_from_end new 0) (word_from_end old n) (word_from_end new n) (last (omega arith) (omega arith)) end here)

-- a word counted from the end, where others in front are left out
pub end_behind : (xs u : List ℕ) (f k : ℕ) → u ≡ drop f xs → f + 2 * k + 2 ≤ length xs → word_from_end u k ≡ word_from_end xs k
end_behind xs u f k is within =
    let long : length u ≡ length xs - f = ap length is ∙ length-drop f xs in
    ap (λ (l : List ℕ). word_at l (length u - (2 * k + 2))) is
    ∙ word-drop f (length u - (2 * k + 2)) (length xs - (2 * k + 2)) xs (omega (arith, long, within))
