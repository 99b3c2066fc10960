-- Rows of pages, and how many pages have each content.
use Rattle.std.proofs.Common.{◌≡◌, ℕ, zero, suc, ◌+◌, ◌<◌, ◌≤◌, ◌==◌, Bool, List, [], ◌∷◌, ◌++◌, length, map, flat_map, get_or, arith, sym, ap, ◌∙◌, inl, inr, append_assoc, append-nil, set, get_or-set_same, get_or-set_other, length-set}
use Rattle.std.specs.List.{range_with_len}
use Rattle.std.specs.Prelude.{cond, count_by}
use Rattle.std.proofs.lemmas.Bool.{cases_eq, ne_eqb, eq-eqb}
use Rattle.std.proofs.lemmas.List.Sums.{count_by-le-length, sum_by_push}
use Rattle.std.proofs.lemmas.List.FromFn.{length-range_with_len}
use Rattle.file_map.specs.Pages.{content_at, count, content_number}
use Rattle.file_map.specs.Tallies.{IsPageTally}
use Rattle.file_map.specs.declared.pages.Content.{Content}
use Rattle.file_map.specs.declared.pages.Content.TheVariants.{Nothing, Slots, Directory, Raw, Heap, Several}
use Rattle.file_map.specs.declared.part.Part.{Part}
use Rattle.file_map.specs.declared.part.Users.TheVariants.{Updated, Saved, Both}

-- one more number at the end of a range
pub flat_more : {X : Type 0} (f : ℕ → List X) (a n : ℕ) → flat_map f (range_with_len a (suc n)) ≡ flat_map f (range_with_len a n) ++ f (a + n)
flat_more {X} f a zero = let at : a ≡ a + 0 = omega arith in append-nil (f a) ∙ ap f at
flat_more {X} f a (suc n) =
    let at : a + 1 + n ≡ a + suc n = omega arith in
    ap (λ (r : List X). f a ++ r) (flat_more f (a + 1) n ∙ ap (λ (k : ℕ). flat_map f (range_with_len (a + 1) n) ++ f k) at)
    ∙ sym (append_assoc (f a) (flat_map f (range_with_len (a + 1) n)) (f (a + suc n)))

pub map_more : {X : Type 0} (f : ℕ → X) (a n : ℕ) → map f (range_with_len a (suc n)) ≡ map f (range_with_len a n) ++ f (a + n) ∷ []
map_more {X} f a zero = let at : a ≡ a + 0 = omega arith in ap (λ k. f k ∷ []) at
map_more {X} f a (suc n) =
    let at : a + 1 + n ≡ a + suc n = omega arith in
    ap (λ (r : List X). f a ∷ r) (map_more f (a + 1) n ∙ ap (λ (k : ℕ). map f (range_with_len (a + 1) n) ++ f k ∷ []) at)

range_more : (a n : ℕ) → range_with_len a (suc n) ≡ range_with_len a n ++ (a + n) ∷ []
range_more a zero = let at : a ≡ a + 0 = omega arith in ap (λ k. k ∷ []) at
range_more a (suc n) =
    let at : a + 1 + n ≡ a + suc n = omega arith in
    ap (λ (r : List ℕ). a ∷ r) (range_more (a + 1) n ∙ ap (λ (k : ℕ). range_with_len (a + 1) n ++ k ∷ []) at)

count_more : (p : ℕ → Bool) (a n : ℕ) → count_by p (range_with_len a (suc n)) ≡ count_by p (range_with_len a n) + cond (p (a + n)) 1 0
count_more p a n = ap (count_by p) (range_more a n) ∙ sum_by_push (λ x. cond (p x) 1 0) (range_with_len a n) (a + n)

pub tally_none : (ps : List Part) (counts : List ℕ) → length counts ≡ 12 → ((n : ℕ) → n < 12 → get_or counts n 0 ≡ 0) → IsPageTally ps 0 counts
tally_none ps counts size zeros = record { size = size; each = zeros }

abbrev once : Bool → ℕ
once b = cond b 1 0

count_next : (ps : List Part) (page n : ℕ) → count ps (page + 1) n ≡ count ps page n + once (content_number (content_at ps page) == n)
count_next ps page n =
    let p : ℕ → Bool = λ q. content_number (content_at ps q) == n in
    let next : page + 1 ≡ suc page = omega arith in
    let at : 0 + page ≡ page = omega arith in
    ap (λ k. count_by p (range_with_len 0 k)) next ∙ count_more p 0 page ∙ ap (λ k. count_by p (range_with_len 0 page) + cond (p k) 1 0) at

-- one more page
pub tally_more : (ps : List Part) (page : ℕ) (counts : List ℕ) (k : ℕ) → IsPageTally ps page counts → k ≡ content_number (content_at ps page) → k < 12
    → IsPageTally ps (page + 1) (set counts k (get_or counts k 0 + 1))
tally_more ps page counts k t is below = record {
  size = length-set counts k _ ∙ t.size;
  each = λ n within.
      let more = count_next ps page n in
      elim (cases_eq n k) [
        | inl same ↦
            let one : once (content_number (content_at ps page) == n) ≡ 1 = ap once (eq-eqb _ n (sym is ∙ sym same)) in
            let at : get_or (set counts k (get_or counts k 0 + 1)) n 0 ≡ get_or counts k 0 + 1 =
            ap (λ j. get_or (set counts k (get_or counts k 0 + 1)) j 0) same ∙ get_or-set_same counts k _ 0 (omega (arith, below, t.size)) in
            let was : get_or counts k 0 ≡ count ps page n = ap (λ j. get_or counts j 0) (sym same) ∙ t.each n within in
            omega (arith, more, one, at, was)
        | inr other ↦
            let zero_times : once (content_number (content_at ps page) == n) ≡ 0 = ap once (ne_eqb _ n (λ e. other (sym e ∙ sym is))) in
            let at : get_or (set counts k (get_or counts k 0 + 1)) n 0 ≡ get_or counts n 0 = get_or-set_other counts k n _ 0 other in
            let was = t.each n within in
            omega (arith, more, zero_times, at, was)
      ];
}

pub tally_most : (ps : List Part) (page : ℕ) (counts : List ℕ) (k : ℕ) → IsPageTally ps page counts → k < 12 → get_or counts k 0 ≤ page
tally_most ps page counts k t below =
    let is = t.each k below in
    let most = count_by-le-length (λ q. content_number (content_at ps q) == k) (range_with_len 0 page) in
    let size = length-range_with_len 0 page in
    omega (arith, is, most, size)

-- each content has a place in the legend
pub number_below : (c : Content) → content_number c < 12
number_below Nothing = omega arith
number_below Slots = omega arith
number_below Several = omega arith
number_below (Directory Updated) = omega arith
number_below (Directory Saved) = omega arith
number_below (Directory Both) = omega arith
number_below (Raw Updated) = omega arith
number_below (Raw Saved) = omega arith
number_below (Raw Both) = omega arith
number_below (Heap Updated) = omega arith
number_below (Heap Saved) = omega arith
number_below (Heap Both) = omega arith
