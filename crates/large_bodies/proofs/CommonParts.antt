-- How many bytes two lists begin or end with together.
use Rattle.std.proofs.Common.{◌≡◌, ◌≤◌, ◌<◌, ◌+◌, ◌-◌, ◌++◌, ◌∷◌, ◌∙◌, ℕ, Bool, true, false, not, List, [], length, take, drop, get_or, refl, sym, ap, ap₂, arith}
use Rattle.std.proofs.Math.Seq.{take-add}
use Rattle.std.proofs.lemmas.List.{take-append-drop, drop-drop, drop_all, drop_more}
use Rattle.std.proofs.lemmas.Slice.Eq.{bytes_eq-Decides}
use Rattle.std.specs.Str.{bytes_eq}
use Rattle.large_bodies.specs.Differences.{IsCommonFront, IsCommonBack}

pub front_none : (old new : List ℕ) → IsCommonFront old new 0
front_none old new = record { in_old = omega arith; in_new = omega arith; same = refl }

pub front_more : (old new : List ℕ) (n k m : ℕ) → IsCommonFront old new n → take k (drop n old) ≡ take k (drop n new) → m ≡ n + k → m ≤ length old → m ≤ length new → IsCommonFront old new m
front_more old new n k m front same is in_old in_new = record {
  in_old = in_old;
  in_new = in_new;
  same =
      ap (λ (j : ℕ). take j old) is ∙ take-add n k old ∙ ap₂ (λ (x y : List ℕ). x ++ y) front.same same
      ∙ sym (take-add n k new) ∙ sym (ap (λ (j : ℕ). take j new) is);
}

-- the end of a list, by more of it
longer_end : (xs : List ℕ) (n k m : ℕ) → m ≡ n + k → m ≤ length xs → drop (length xs - m) xs ≡ take k (drop (length xs - m) xs) ++ drop (length xs - n) xs
longer_end xs n k m is within =
    let a : ℕ = length xs - m in
    let further : a + k ≡ length xs - n = omega arith in
    sym (take-append-drop k (drop a xs))
    ∙ ap (λ (ys : List ℕ). take k (drop a xs) ++ ys) (drop-drop k a xs ∙ ap (λ (j : ℕ). drop j xs) further)

pub back_none : (old new : List ℕ) → IsCommonBack old new 0
back_none old new = record {
  in_old = omega arith;
  in_new = omega arith;
  same = drop_all (length old - 0) old (omega arith) ∙ sym (drop_all (length new - 0) new (omega arith));
}

pub back_more : (old new : List ℕ) (n k m : ℕ) → IsCommonBack old new n → take k (drop (length old - m) old) ≡ take k (drop (length new - m) new) → m ≡ n + k → m ≤ length old → m ≤ length new → IsCommonBack old new m
back_more old new n k m back same is in_old in_new = record {
  in_old = in_old;
  in_new = in_new;
  same = longer_end old n k m is in_old ∙ ap₂ (λ (x y : List ℕ). x ++ y) same back.same ∙ sym (longer_end new n k m is in_new);
}

-- one byte, where it stands in both
pub one_here : (old new : List ℕ) (i j : ℕ) → i < length old → j < length new → get_or old i 0 ≡ get_or new j 0 → take 1 (drop i old) ≡ take 1 (drop j new)
one_here old new i j in_old in_new same =
    ap (take 1) (drop_more old i 0 in_old) ∙ ap (λ (x : ℕ). x ∷ []) same ∙ sym (ap (take 1) (drop_more new j 0 in_new))

was_not : (b : Bool) → false ≡ not b → b ≡ true
was_not true e = refl
was_not false e = e

-- bytes that a test finds not to differ are the same
pub same_by_test : (xs ys : List ℕ) (r : Bool) → r ≡ not (bytes_eq xs ys) → r ≡ false → xs ≡ ys
same_by_test xs ys r is stays = (bytes_eq-Decides xs ys).0 (was_not (bytes_eq xs ys) (sym stays ∙ is))
