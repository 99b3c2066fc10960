-- The longest row, step by step, and that it is one.
use Rattle.std.proofs.Common.{All, ◌≡◌, ◌≢◌, ℕ, zero, suc, ◌+◌, ◌<◌, ◌≤◌, ◌↔◌, ◌⊎◌, max, ◌&&◌, List, [], ◌∷◌, nat_le, length, slice_index, cond, refl, sym, ap, subst, ◌∙◌, arith, inl, inr}
use Rattle.std.proofs.lemmas.Bool.{and_from, and_left, and_parts, and_right, cases_lt, cases_eq, cond-true, cond-false, cond_both, le-leb, leb-true, lt-leb}
use Rattle.std.proofs.lemmas.List.{get_or_default}
use Rattle.std.proofs.lemmas.List.Elements.{All-cons, All-nil, All-weaker}
use Rattle.std.specs.List.Sorted.{IsNonDecreasing}
use Rattle.file_salvage.specs.Rows.{AreRowEnds, IsRow, longer, row_to}

module _ (numbers : List ℕ) where
  pub row_none : (most : ℕ) → row_to numbers 0 most ≡ []
  unfolding row_to
  row_none most = refl

  row_suc : (i most : ℕ) → row_to numbers (suc i) most
      ≡ cond (nat_le 1 (slice_index numbers i) && nat_le (slice_index numbers i) most) (longer (i ∷ row_to numbers i (slice_index numbers i)) (row_to numbers i most)) (row_to numbers i most)
  unfolding row_to
  row_suc i most = refl

  row_step : (i most : ℕ) → row_to numbers (i + 1) most
      ≡ cond (nat_le 1 (slice_index numbers i) && nat_le (slice_index numbers i) most) (longer (i ∷ row_to numbers i (slice_index numbers i)) (row_to numbers i most)) (row_to numbers i most)
  row_step i most = let next : i + 1 ≡ suc i = omega arith in ap (λ (k : ℕ). row_to numbers k most) next ∙ row_suc i most

  -- a place that a row can't have

  pub row_low : (i most : ℕ) → slice_index numbers i ≡ 0 → row_to numbers (i + 1) most ≡ row_to numbers i most
  row_low i most low =
      row_step i most
      ∙ cond-false (nat_le 1 (slice_index numbers i) && nat_le (slice_index numbers i) most) _ _
      (and_left (nat_le 1 (slice_index numbers i)) (nat_le (slice_index numbers i) most) (lt-leb 1 (slice_index numbers i) (omega (arith, low))))

  pub row_high : (i most : ℕ) → most < slice_index numbers i → row_to numbers (i + 1) most ≡ row_to numbers i most
  row_high i most high =
      row_step i most
      ∙ cond-false (nat_le 1 (slice_index numbers i) && nat_le (slice_index numbers i) most) _ _
      (and_right (nat_le 1 (slice_index numbers i)) (nat_le (slice_index numbers i) most) (lt-leb (slice_index numbers i) most high))

  -- one that it can have

  row_choice : (i most : ℕ) → 1 ≤ slice_index numbers i → slice_index numbers i ≤ most
      → row_to numbers (i + 1) most ≡ longer (i ∷ row_to numbers i (slice_index numbers i)) (row_to numbers i most)
  row_choice i most some low =
      row_step i most
      ∙ cond-true (nat_le 1 (slice_index numbers i) && nat_le (slice_index numbers i) most) _ _
      (and_from (nat_le 1 (slice_index numbers i)) (nat_le (slice_index numbers i) most) (le-leb 1 (slice_index numbers i) some) (le-leb (slice_index numbers i) most low))

  pub row_taken : (i most : ℕ) → 1 ≤ slice_index numbers i → slice_index numbers i ≤ most → length (row_to numbers i most) ≤ 1 + length (row_to numbers i (slice_index numbers i))
      → row_to numbers (i + 1) most ≡ i ∷ row_to numbers i (slice_index numbers i)
  row_taken i most some low long =
      let one : List ℕ = i ∷ row_to numbers i (slice_index numbers i) in
      let other : List ℕ = row_to numbers i most in
      row_choice i most some low ∙ cond-true (nat_le (length other) (length one)) one other (le-leb (length other) (length one) (omega (arith, long)))

  pub row_left : (i most : ℕ) → 1 ≤ slice_index numbers i → slice_index numbers i ≤ most → 1 + length (row_to numbers i (slice_index numbers i)) < length (row_to numbers i most)
      → row_to numbers (i + 1) most ≡ row_to numbers i most
  row_left i most some low short =
      let one : List ℕ = i ∷ row_to numbers i (slice_index numbers i) in
      let other : List ℕ = row_to numbers i most in
      row_choice i most some low ∙ cond-false (nat_le (length other) (length one)) one other (lt-leb (length other) (length one) (omega (arith, short)))

  -- its length
  pub long_taken : (i most : ℕ) → 1 ≤ slice_index numbers i → slice_index numbers i ≤ most → 1 + length (row_to numbers i (slice_index numbers i)) ≤ length (row_to numbers (i + 1) most)
  long_taken i most some low = elim (cases_lt (1 + length (row_to numbers i (slice_index numbers i))) (length (row_to numbers i most))) as (λ _. 1 + length (row_to numbers i (slice_index numbers i)) ≤ length (row_to numbers (i + 1) most)) [
    | inl short ↦ (let is : length (row_to numbers (i + 1) most) ≡ length (row_to numbers i most) = ap length (row_left i most some low short) in omega (arith, is, short))
    | inr long ↦ (let is : length (row_to numbers (i + 1) most) ≡ length (i ∷ row_to numbers i (slice_index numbers i)) = ap length (row_taken i most some low long) in omega (arith, is))
  ]

  pub long_left : (i most : ℕ) → length (row_to numbers i most) ≤ length (row_to numbers (i + 1) most)
  long_left i most = elim (cases_lt most (slice_index numbers i)) as (λ _. length (row_to numbers i most) ≤ length (row_to numbers (i + 1) most)) [
    | inl high ↦ (let is : length (row_to numbers (i + 1) most) ≡ length (row_to numbers i most) = ap length (row_high i most high) in omega (arith, is))
    | inr low ↦ elim (cases_lt 0 (slice_index numbers i)) as (λ _. length (row_to numbers i most) ≤ length (row_to numbers (i + 1) most)) [
      | inl some ↦ elim (cases_lt (1 + length (row_to numbers i (slice_index numbers i))) (length (row_to numbers i most))) as (λ _. length (row_to numbers i most) ≤ length (row_to numbers (i + 1) most)) [
        | inl short ↦ (let is : length (row_to numbers (i + 1) most) ≡ length (row_to numbers i most) = ap length (row_left i most (omega (arith, some)) low short) in omega (arith, is))
        | inr long ↦ (let is : length (row_to numbers (i + 1) most) ≡ length (i ∷ row_to numbers i (slice_index numbers i)) = ap length (row_taken i most (omega (arith, some)) low long) in omega (arith, is, long))
      ]
      | inr none ↦ (let is : length (row_to numbers (i + 1) most) ≡ length (row_to numbers i most) = ap length (row_low i most (omega (arith, none))) in omega (arith, is))
    ]
  ]

  long_cases : (i most : ℕ) → 1 ≤ slice_index numbers i → slice_index numbers i ≤ most → (k : ℕ) → k < length (row_to numbers (i + 1) most)
      → (k ≤ length (row_to numbers i (slice_index numbers i))) ⊎ (k < length (row_to numbers i most))
  long_cases i most some low k below = elim (cases_lt (1 + length (row_to numbers i (slice_index numbers i))) (length (row_to numbers i most))) as (λ _. (k ≤ length (row_to numbers i (slice_index numbers i))) ⊎ (k < length (row_to numbers i most))) [
    | inl short ↦ inr (subst (λ (r : List ℕ). k < length r) (row_left i most some low short) below)
    | inr long ↦ (let is : k < length (i ∷ row_to numbers i (slice_index numbers i)) = subst (λ (r : List ℕ). k < length r) (row_taken i most some low long) below in inl (omega (arith, is)))
  ]

  -- A walk takes a place where the longest row that ends there is as long as the one that is left to walk.

  pub walk_taken : (i most left reach : ℕ) → 1 ≤ slice_index numbers i → slice_index numbers i ≤ most → left ≡ length (row_to numbers (i + 1) most)
      → reach ≡ 1 + length (row_to numbers i (slice_index numbers i)) → reach ≡ left → row_to numbers (i + 1) most ≡ i ∷ row_to numbers i (slice_index numbers i)
  walk_taken i most left reach some low left_is reach_is same = elim (cases_lt (1 + length (row_to numbers i (slice_index numbers i))) (length (row_to numbers i most))) as (λ _. row_to numbers (i + 1) most ≡ i ∷ row_to numbers i (slice_index numbers i)) [
    | inl short ↦ (let more = long_left i most in absurd (omega (arith, more, short, left_is, reach_is, same)))
    | inr long ↦ row_taken i most some low long
  ]

  pub walk_left : (i most left reach : ℕ) → 1 ≤ slice_index numbers i → slice_index numbers i ≤ most → left ≡ length (row_to numbers (i + 1) most)
      → reach ≡ 1 + length (row_to numbers i (slice_index numbers i)) → reach ≢ left → row_to numbers (i + 1) most ≡ row_to numbers i most
  walk_left i most left reach some low left_is reach_is apart = elim (cases_lt (1 + length (row_to numbers i (slice_index numbers i))) (length (row_to numbers i most))) as (λ _. row_to numbers (i + 1) most ≡ row_to numbers i most) [
    | inl short ↦ row_left i most some low short
    | inr long ↦ (let is : length (row_to numbers (i + 1) most) ≡ length (i ∷ row_to numbers i (slice_index numbers i)) = ap length (row_taken i most some low long) in absurd (omega (arith, is, left_is, reach_is, apart)))
  ]

  -- It is a row, and none is longer.

  row_wider : (i n most : ℕ) (row : List ℕ) → i ≤ n → IsRow numbers i most row → IsRow numbers n most row
  row_wider i n most [] within is = tt
  row_wider i n most (j ∷ row) within is = (omega (arith, within, is.0), is.1, is.2, is.3)

  pub is_row : (n most : ℕ) → IsRow numbers n most (row_to numbers n most)
  is_row zero most = subst (IsRow numbers 0 most) (sym (row_none most)) tt
  is_row (suc i) most =
      let x = slice_index numbers i in
      let one : List ℕ = i ∷ row_to numbers i x in
      let other : List ℕ = row_to numbers i most in
      let left : IsRow numbers (suc i) most other = row_wider i (suc i) most other (omega arith) (is_row i most) in
      subst (IsRow numbers (suc i) most) (sym (row_suc i most))
      (cond_both (nat_le 1 x && nat_le x most) (longer one other) other (IsRow numbers (suc i) most)
      (λ may. let parts = and_parts (nat_le 1 x) (nat_le x most) may in
      cond_both (nat_le (length other) (length one)) one other (IsRow numbers (suc i) most)
      (λ _. (omega arith, leb-true 1 x parts.0, leb-true x most parts.1, is_row i x)) (λ _. left))
      (λ _. left))

  pub is_longest : (n most : ℕ) (other : List ℕ) → IsRow numbers n most other → length other ≤ length (row_to numbers n most)
  is_longest n most [] is = omega arith
  is_longest zero most (j ∷ row) is = absurd (omega (arith, is.0))
  is_longest (suc i) most (j ∷ row) is =
      let next : i + 1 ≡ suc i = omega arith in
      subst (λ (n : ℕ). length (j ∷ row) ≤ length (row_to numbers n most)) next
      (elim (cases_lt j i) as (λ _. length (j ∷ row) ≤ length (row_to numbers (i + 1) most)) [
        | inl before ↦ (let rest = is_longest i most (j ∷ row) (before, is.1, is.2, is.3) in let more = long_left i most in omega (arith, rest, more))
        | inr behind ↦ (let same : j ≡ i = omega (arith, behind, is.0) in
            let here = subst (λ (k : ℕ). IsRow numbers (suc i) most (k ∷ row)) same is in
            let rest = is_longest i (slice_index numbers i) row here.3 in
            let more = long_taken i most here.1 here.2 in
            omega (arith, rest, more))
      ])

  -- The least numbers at which rows end.

  pub ends_same : (i : ℕ) (ends : List ℕ) → slice_index numbers i ≡ 0 → AreRowEnds numbers i ends → AreRowEnds numbers (i + 1) ends
  ends_same i ends low are = λ most k. subst (λ (r : List ℕ). (k < length r) ↔ ((k < length ends) × (slice_index ends k ≤ most))) (sym (row_low i most low)) (are most k)

  -- the place of a number among them
  pub place_is : (i x place : ℕ) (ends : List ℕ) → AreRowEnds numbers i ends → place ≤ length ends → ((k : ℕ) → k < place → slice_index ends k ≤ x)
      → ((k : ℕ) → place ≤ k → k < length ends → x < slice_index ends k) → place ≡ length (row_to numbers i x)
  place_is i x place ends are within below above = elim (cases_lt place (length (row_to numbers i x))) as (λ _. place ≡ length (row_to numbers i x)) [
    | inl short ↦ (let at = (are x place).0 short in let wrong = above place (omega arith) at.0 in absurd (omega (arith, at.1, wrong)))
    | inr long ↦ elim (cases_lt (length (row_to numbers i x)) place) as (λ _. place ≡ length (row_to numbers i x)) [
      | inl more ↦ (let wrong = (are x (length (row_to numbers i x))).1 (omega (arith, more, within), below (length (row_to numbers i x)) more) in absurd (omega (arith, wrong)))
      | inr less ↦ omega (arith, long, less)
    ]
  ]

  -- they don't fall
  ends_rise : (i a b : ℕ) (ends : List ℕ) → AreRowEnds numbers i ends → a ≤ b → b < length ends → slice_index ends a ≤ slice_index ends b
  ends_rise i a b ends are order within =
      let row = (are (slice_index ends b) b).1 (within, omega arith) in
      ((are (slice_index ends b) a).0 (omega (arith, row, order))).1

  pub ends_sorted : (i : ℕ) (ends : List ℕ) → AreRowEnds numbers i ends → IsNonDecreasing ends
  ends_sorted i ends are = λ a b d order within.
      let first = get_or_default ends a d 0 (omega (arith, order, within)) in
      let second = get_or_default ends b d 0 within in
      let rise = ends_rise i a b ends are order within in
      omega (arith, first, second, rise)

  pub ends_none : (ends : List ℕ) → ends ≡ [] → AreRowEnds numbers 0 ends
  ends_none ends none = λ most k. (
    (λ has. let is : length (row_to numbers 0 most) ≡ 0 = ap length (row_none most) in absurd (omega (arith, is, has))),
    (λ at. let is : length ends ≡ 0 = ap length none in absurd (omega (arith, is, at.0))),
  )

  -- a number put among them
  module _ (i place : ℕ) (old new : List ℕ) (are : AreRowEnds numbers i old) (some : 1 ≤ slice_index numbers i) (is : place ≡ length (row_to numbers i (slice_index numbers i)))
      (within : place ≤ length old) (below : (k : ℕ) → k < place → slice_index old k ≤ slice_index numbers i)
      (above : (k : ℕ) → place ≤ k → k < length old → slice_index numbers i < slice_index old k)
      (count : length new ≡ max (length old) (place + 1)) (put : slice_index new place ≡ slice_index numbers i)
      (others : (k : ℕ) → k ≢ place → k < length old → slice_index new k ≡ slice_index old k) where
    kept : (most k : ℕ) → k ≢ place → k < length old → slice_index old k ≤ most → (k < length new) × (slice_index new k ≤ most)
    kept most k apart short low = (omega (arith, count, short), subst (λ (x : ℕ). x ≤ most) (sym (others k apart short)) low)

    placed : (most k : ℕ) → k ≡ place → slice_index numbers i ≤ most → (k < length new) × (slice_index new k ≤ most)
    placed most k same low = (omega (arith, count, same), subst (λ (n : ℕ). slice_index new n ≤ most) (sym same) (subst (λ (x : ℕ). x ≤ most) (sym put) low))

    to_ends : (most k : ℕ) → k < length (row_to numbers (i + 1) most) → (k < length new) × (slice_index new k ≤ most)
    to_ends most k has = elim (cases_lt most (slice_index numbers i)) as (λ _. (k < length new) × (slice_index new k ≤ most)) [
      | inl high ↦ (let at = (are most k).0 (subst (λ (r : List ℕ). k < length r) (row_high i most high) has) in
          kept most k (λ same. let wrong = above k (omega (arith, same)) at.0 in absurd (omega (arith, wrong, at.1, high))) at.0 at.1)
      | inr low ↦ elim (cases_eq k place) as (λ _. (k < length new) × (slice_index new k ≤ most)) [
        | inl same ↦ placed most k same low
        | inr apart ↦ elim (long_cases i most some low k has) as (λ _. (k < length new) × (slice_index new k ≤ most)) [
          | inl few ↦ (let before : k < place = omega (arith, apart, few, is) in let less = below k before in kept most k apart (omega (arith, before, within)) (omega (arith, less, low)))
          | inr more ↦ (let at = (are most k).0 more in kept most k apart at.0 at.1)
        ]
      ]
    ]

    from_ends : (most k : ℕ) → (k < length new) × (slice_index new k ≤ most) → k < length (row_to numbers (i + 1) most)
    from_ends most k at = elim (cases_eq k place) as (λ _. k < length (row_to numbers (i + 1) most)) [
      | inl same ↦ (let low : slice_index numbers i ≤ most = subst (λ (x : ℕ). x ≤ most) put (subst (λ (n : ℕ). slice_index new n ≤ most) same at.1) in
          let more = long_taken i most some low in
          omega (arith, more, same, is))
      | inr apart ↦ (let short : k < length old = omega (arith, at.0, count, apart, within) in
          let row = (are most k).1 (short, subst (λ (x : ℕ). x ≤ most) (others k apart short) at.1) in
          let more = long_left i most in
          omega (arith, row, more))
    ]

    pub ends_put : AreRowEnds numbers (i + 1) new
    ends_put = λ most k. (to_ends most k, from_ends most k)

-- the places of a row are below its bound
pub row_below : (numbers : List ℕ) (n most : ℕ) (row : List ℕ) → IsRow numbers n most row → All (λ i. i < n) row
row_below numbers n most [] is = All-nil (λ i. i < n)
row_below numbers n most (i ∷ row) is =
    All-cons (λ j. j < n) i row is.0 (All-weaker (λ j. j < i) (λ j. j < n) (λ j less. omega (arith, less, is.0)) row (row_below numbers i (slice_index numbers i) row is.3))
