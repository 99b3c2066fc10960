-- What stands among the places of a row, and that the whole entries stay where others are taken beside them.
use Rattle.std.proofs.Common.{All, ◌≡◌, ℕ, suc, ◌+◌, ◌<◌, ◌≤◌, ◌⊎◌, Bool, true, false, cond, ◌==◌, List, [], ◌∷◌, Option, None, Some, nat_le, get_or, length, slice_index, slice_index_or, refl, sym, ap, subst, ◌∙◌, arith, inl, inr}
use Rattle.std.specs.Bool.{⊤}
use Rattle.std.proofs.lemmas.Bool.{and_cases, and_from, cases_Bool, cases_lt, cond-false, cond-true, eq-eqb, eqb-false, eqb-true, le-leb, leb-true, lt-leb, or_cases, or_left, or_parts, or_right}
use Rattle.std.proofs.lemmas.List.Elements.{All-cons, All-head, All-nil, All-tail, All-weaker}
use Rattle.std.proofs.lemmas.List.Folds.{list_all_at}
use Rattle.std.proofs.lemmas.List.FromFn.{get_or-map-range_with_len}
use Rattle.file_format.specs.declared.file.Entry.{Entry}
use Rattle.file_salvage.specs.Entries.{entry_at, fits_row, free_among, free_at, free_below, free_beside, free_numbers, free_unsummed, frees_beside, is_taken, taken_row, whole_row}
use Rattle.file_salvage.specs.Rows.{IsRow, longest_row}
use Rattle.file_salvage.specs.declared.flaw.Flaw.{Flaw}
use Rattle.file_salvage.proofs.EntryLemmas.{frees_beside_count, frees_count}
use Rattle.file_salvage.proofs.RowLemmas.{is_longest, is_row}

-- One more place in a row.

-- a place can be in a row with another one
abbrev pub Beside : List ℕ → ℕ → ℕ → Type 0
Beside numbers j i = ((i < j) × (slice_index numbers i ≤ slice_index numbers j)) ⊎ ((j < i) × (slice_index numbers j ≤ slice_index numbers i))

abbrev pub AreBeside : List ℕ → ℕ → List ℕ → Type 0
AreBeside numbers j [] = ⊤
AreBeside numbers j (i ∷ row) = Beside numbers j i × AreBeside numbers j row

inserted : (numbers : List ℕ) (n most j : ℕ) (row : List ℕ) → IsRow numbers n most row → j < n → 1 ≤ slice_index numbers j → slice_index numbers j ≤ most → AreBeside numbers j row
    → (more : List ℕ) × IsRow numbers n most more × (length more ≡ suc (length row))
inserted numbers n most j [] is within some low beside = (j ∷ [], (within, some, low, tt), refl)
inserted numbers n most j (i ∷ row) is within some low (inl left, rest) = (j ∷ i ∷ row, (within, some, low, (left.0, is.1, left.1, is.3)), refl)
inserted numbers n most j (i ∷ row) is within some low (inr right, rest) =
    let more = inserted numbers i (slice_index numbers i) j row is.3 right.0 some right.1 rest in
    (i ∷ more.0, (is.0, is.1, is.2, more.1), ap suc more.2)

all_beside : (numbers : List ℕ) (top n most j : ℕ) (row : List ℕ) → ((i : ℕ) → i < top → 1 ≤ slice_index numbers i → (i ≡ j → ⊥) → Beside numbers j i) → n ≤ top → IsRow numbers n most row
    → is_taken j row ≡ false → AreBeside numbers j row
all_beside numbers top n most j [] beside few is other = tt
all_beside numbers top n most j (i ∷ row) beside few is other =
    let parts = or_parts (i == j) (is_taken j row) other in (
      beside i (omega (arith, is.0, few)) is.1 (eqb-false i j parts.0),
      all_beside numbers top i (slice_index numbers i) j row beside (omega (arith, is.0, few)) is.3 parts.1,
    )

-- no place can stand beside all of a longest row, or one more would be longer
not_beside : (numbers : List ℕ) (j : ℕ) → j < length numbers → 1 ≤ slice_index numbers j → slice_index numbers j ≤ 65535 → AreBeside numbers j (longest_row numbers) → ⊥
not_beside numbers j within some low beside =
    let n : ℕ = length numbers in
    let row : List ℕ = longest_row numbers in
    let more = inserted numbers n 65535 j row (is_row numbers n 65535) within some low beside in
    let long : length more.0 ≤ length row = is_longest numbers n 65535 more.0 more.1 in
    absurd (omega (arith, long, more.2))

-- a place that can stand beside all others is in a longest row
must_have : (numbers : List ℕ) (j : ℕ) → j < length numbers → 1 ≤ slice_index numbers j → slice_index numbers j ≤ 65535
    → ((i : ℕ) → i < length numbers → 1 ≤ slice_index numbers i → (i ≡ j → ⊥) → Beside numbers j i) → is_taken j (longest_row numbers) ≡ true
must_have numbers j within some low beside = elim (cases_Bool (is_taken j (longest_row numbers))) [
  | inl holds ↦ holds
  | inr other ↦
      let n : ℕ = length numbers in
      let row : List ℕ = longest_row numbers in
      let is : IsRow numbers n 65535 row = is_row numbers n 65535 in
      absurd (not_beside numbers j within some low (all_beside numbers n n 65535 j row beside (omega arith) is other))
]

-- What holds of each place of a row.

-- it is one, and its number is one that a row can have
abbrev pub InRow : List ℕ → ℕ → ℕ → ℕ → Type 0
InRow numbers n most i = (i < n) × (1 ≤ slice_index numbers i) × (slice_index numbers i ≤ most)

pub in_row : (numbers : List ℕ) (n most : ℕ) (row : List ℕ) → IsRow numbers n most row → All (InRow numbers n most) row
in_row numbers n most [] is = All-nil (InRow numbers n most)
in_row numbers n most (i ∷ row) is =
    All-cons (InRow numbers n most) i row (is.0, is.1, is.2)
    (All-weaker (InRow numbers i (slice_index numbers i)) (InRow numbers n most) (λ j in_it. (omega (arith, in_it.0, is.0), in_it.1, omega (arith, in_it.2, is.2))) row
    (in_row numbers i (slice_index numbers i) row is.3))

-- whether the number m at a place i can stand with the one of a place j of the row
abbrev pub fits_with : List ℕ → ℕ → ℕ → ℕ → Bool
fits_with numbers i m j = cond (nat_le j i) (nat_le (slice_index numbers j) m) (nat_le m (slice_index numbers j))

below_fits : (numbers : List ℕ) (n most : ℕ) (row : List ℕ) (i m : ℕ) → IsRow numbers n most row → n ≤ i → most ≤ m → fits_row numbers row i m ≡ true
below_fits numbers n most [] i m is few low = refl
below_fits numbers n most (j ∷ row) i m is few low =
    and_from (fits_with numbers i m j) (fits_row numbers row i m)
    (cond-true (nat_le j i) (nat_le (slice_index numbers j) m) (nat_le m (slice_index numbers j)) (le-leb j i (omega (arith, is.0, few))) ∙ le-leb (slice_index numbers j) m (omega (arith, is.2, low)))
    (below_fits numbers j (slice_index numbers j) row i m is.3 (omega (arith, is.0, few)) (omega (arith, is.2, low)))

-- each place of a row can stand in it
own_fits : (numbers : List ℕ) (n most : ℕ) (row : List ℕ) → IsRow numbers n most row → All (λ j. fits_row numbers row j (slice_index numbers j) ≡ true) row
own_fits numbers n most [] is = All-nil (λ j. fits_row numbers [] j (slice_index numbers j) ≡ true)
own_fits numbers n most (i ∷ row) is =
    let x : ℕ = slice_index numbers i in
    All-cons (λ j. fits_row numbers (i ∷ row) j (slice_index numbers j) ≡ true) i row
    (and_from (fits_with numbers i x i) (fits_row numbers row i x) (cond-true (nat_le i i) (nat_le x x) (nat_le x x) (le-leb i i (omega arith)) ∙ le-leb x x (omega arith))
    (below_fits numbers i x row i x is.3 (omega arith) (omega arith)))
    (λ k d inside.
    let j : ℕ = get_or row k d in
    let y : ℕ = slice_index numbers j in
    let of : InRow numbers i x j = in_row numbers i x row is.3 k d inside in
    and_from (fits_with numbers j y i) (fits_row numbers row j y) (cond-false (nat_le i j) (nat_le x y) (nat_le y x) (lt-leb i j of.0) ∙ le-leb y x of.2)
    (own_fits numbers i x row is.3 k d inside))

fits_at : (numbers row : List ℕ) (i m : ℕ) → fits_row numbers row i m ≡ true → (k d : ℕ) → k < length row → fits_with numbers i m (get_or row k d) ≡ true
fits_at numbers row i m fit k d inside = elim (cases_Bool (fits_with numbers i m (get_or row k d))) [
  | inl holds ↦ holds
  | inr other ↦ (let none = list_all_at (fits_with numbers i m) row k d inside other in absurd (cc (sym fit ∙ none)))
]

-- what holds of all of a row holds of each that is taken
pub of_each : (P : ℕ → Type 0) (row : List ℕ) → All P row → (j : ℕ) → is_taken j row ≡ true → P j
of_each P [] all j holds = absurd (cc holds)
of_each P (i ∷ row) all j holds = elim (or_cases (i == j) (is_taken j row) holds) as (λ _. P j) [
  | inl same ↦ subst P (eqb-true i j same) (All-head P i row all)
  | inr rest ↦ of_each P row (All-tail P i row all) j rest
]

-- A place that isn't in a longest row can't stand beside one that is.

-- a place of the row is such a one
abbrev pub Apart : List ℕ → List ℕ → ℕ → ℕ → Type 0
Apart numbers row i m = (j : ℕ) × (is_taken j row ≡ true) × (fits_with numbers i m j ≡ false)

first_apart : (numbers row : List ℕ) (i m j : ℕ) → fits_with numbers i m j ≡ false → Apart numbers (j ∷ row) i m
first_apart numbers row i m j wrong = (j, or_left (j == j) (is_taken j row) (eq-eqb j j refl), wrong)

later_apart : (numbers row : List ℕ) (i m k : ℕ) → Apart numbers row i m → Apart numbers (k ∷ row) i m
later_apart numbers row i m k found = (found.0, or_right (k == found.0) (is_taken found.0 row) found.1, found.2)

pub unfit : (numbers row : List ℕ) (i m : ℕ) → fits_row numbers row i m ≡ false → Apart numbers row i m
unfit numbers [] i m wrong = absurd (cc wrong)
unfit numbers (j ∷ row) i m wrong = elim (and_cases (fits_with numbers i m j) (fits_row numbers row i m) wrong) as (λ _. Apart numbers (j ∷ row) i m) [
  | inl here ↦ first_apart numbers row i m j here
  | inr rest ↦ later_apart numbers row i m j (unfit numbers row i m rest)
]

beside_by : (numbers : List ℕ) (i j : ℕ) → (j ≡ i → ⊥) → fits_with numbers i (slice_index numbers i) j ≡ true → Beside numbers i j
beside_by numbers i j other fit =
    let x : ℕ = slice_index numbers i in
    let y : ℕ = slice_index numbers j in
    elim (cases_lt i j) as (λ _. Beside numbers i j) [
      | inl less ↦ inr (less, leb-true x y (sym (cond-false (nat_le j i) (nat_le y x) (nat_le x y) (lt-leb j i less)) ∙ fit))
      | inr most ↦ elim (cases_lt j i) as (λ _. Beside numbers i j) [
        | inl above ↦ inl (above, leb-true y x (sym (cond-true (nat_le j i) (nat_le y x) (nat_le x y) (le-leb j i most)) ∙ fit))
        | inr least ↦ (let same : j ≡ i = omega (arith, most, least) in absurd (other same))
      ]
    ]

beside_or_apart : (numbers row : List ℕ) (i : ℕ) → is_taken i row ≡ false → AreBeside numbers i row ⊎ Apart numbers row i (slice_index numbers i)
beside_or_apart numbers [] i other = inl tt
beside_or_apart numbers (j ∷ row) i other =
    let x : ℕ = slice_index numbers i in
    let parts = or_parts (j == i) (is_taken i row) other in
    elim (cases_Bool (fits_with numbers i x j)) as (λ _. AreBeside numbers i (j ∷ row) ⊎ Apart numbers (j ∷ row) i x) [
      | inl fit ↦ elim (beside_or_apart numbers row i parts.1) as (λ _. AreBeside numbers i (j ∷ row) ⊎ Apart numbers (j ∷ row) i x) [
        | inl rest ↦ inl (beside_by numbers i j (eqb-false j i parts.0) fit, rest)
        | inr found ↦ inr (later_apart numbers row i x j found)
      ]
      | inr wrong ↦ inr (first_apart numbers row i x j wrong)
    ]

pub taken_or_apart : (numbers : List ℕ) (i : ℕ) → i < length numbers → 1 ≤ slice_index numbers i → slice_index numbers i ≤ 65535
    → (is_taken i (longest_row numbers) ≡ true) ⊎ Apart numbers (longest_row numbers) i (slice_index numbers i)
taken_or_apart numbers i within some low =
    let row : List ℕ = longest_row numbers in
    let x : ℕ = slice_index numbers i in
    elim (cases_Bool (is_taken i row)) as (λ _. (is_taken i row ≡ true) ⊎ Apart numbers row i x) [
      | inl holds ↦ inl holds
      | inr other ↦ elim (beside_or_apart numbers row i other) as (λ _. (is_taken i row ≡ true) ⊎ Apart numbers row i x) [
        | inl beside ↦ absurd (not_beside numbers i within some low beside)
        | inr found ↦ inr found
      ]
    ]

pub among : (fit : Bool) (n : ℕ) → 1 ≤ cond fit n 0 → (fit ≡ true) × (cond fit n 0 ≡ n)
among true n some = (refl, refl)
among false n some = absurd (omega (arith, some))

same_free : (i : ℕ) (e : Entry) (damage : Option Flaw) → 1 ≤ free_below i e damage → free_unsummed i e damage ≡ free_below i e damage
same_free i e None some = refl
same_free i e (Some flaw) some = absurd (omega (arith, some))

module _ (bytes : List ℕ) (damages : List (Option Flaw)) where
  abbrev numbers : List ℕ
  numbers = free_numbers bytes damages

  abbrev row : List ℕ
  row = whole_row bytes damages

  abbrev more : List ℕ
  more = frees_beside bytes damages numbers row

  abbrev unsummed_at : ℕ → ℕ
  unsummed_at i = free_unsummed i (entry_at bytes i) (slice_index_or damages i None)

  pub number_at : (i : ℕ) → i < length damages → slice_index numbers i ≡ free_at bytes damages i
  number_at i below = let at : 0 + i ≡ i = omega arith in get_or-map-range_with_len (free_at bytes damages) 0 (length damages) i i 0 below at

  pub more_at : (i : ℕ) → i < length damages → slice_index more i ≡ free_among numbers row i (unsummed_at i)
  more_at i below = let at : 0 + i ≡ i = omega arith in get_or-map-range_with_len (free_beside bytes damages numbers row) 0 (length damages) i i 0 below at

  -- a place of the row has its number still
  kept_at : (j : ℕ) → j < length damages → 1 ≤ slice_index numbers j → fits_row numbers row j (slice_index numbers j) ≡ true → slice_index more j ≡ slice_index numbers j
  kept_at j below some fit =
      let x : ℕ = slice_index numbers j in
      let is : x ≡ free_at bytes damages j = number_at j below in
      let free : unsummed_at j ≡ x = same_free j (entry_at bytes j) (slice_index_or damages j None) (subst (λ (n : ℕ). 1 ≤ n) is some) ∙ sym is in
      more_at j below ∙ ap (λ (n : ℕ). free_among numbers row j n) free ∙ cond-true (fits_row numbers row j x) x 0 fit

  -- and can stand beside each other place that has one
  beside_at : (k d : ℕ) → k < length row → slice_index more (get_or row k d) ≡ slice_index numbers (get_or row k d) → (i : ℕ) → i < length damages → 1 ≤ slice_index more i
      → (i ≡ get_or row k d → ⊥) → Beside more (get_or row k d) i
  beside_at k d inside kept i below some other =
      let j : ℕ = get_or row k d in
      let x : ℕ = slice_index numbers j in
      let m : ℕ = unsummed_at i in
      let is : slice_index more i ≡ free_among numbers row i m = more_at i below in
      let fit = among (fits_row numbers row i m) m (subst (λ (n : ℕ). 1 ≤ n) is some) in
      let now : slice_index more i ≡ m = is ∙ fit.1 in
      let stands : fits_with numbers i m j ≡ true = fits_at numbers row i m fit.0 k d inside in
      elim (cases_lt i j) as (λ _. Beside more j i) [
        | inl less ↦
            let low : m ≤ x = leb-true m x (sym (cond-false (nat_le j i) (nat_le x m) (nat_le m x) (lt-leb j i less)) ∙ stands) in
            inl (less, omega (arith, low, now, kept))
        | inr most ↦
            let high : x ≤ m = leb-true x m (sym (cond-true (nat_le j i) (nat_le x m) (nat_le m x) (le-leb j i most)) ∙ stands) in
            elim (cases_lt j i) as (λ _. Beside more j i) [
              | inl above ↦ inr (above, omega (arith, high, now, kept))
              | inr least ↦ (let same : i ≡ j = omega (arith, most, least) in absurd (other same))
            ]
      ]

  pub whole_kept : All (λ i. is_taken i (taken_row true bytes damages) ≡ true) (taken_row false bytes damages)
  whole_kept = λ k d inside.
      let n : ℕ = length numbers in
      let j : ℕ = get_or row k d in
      let is : IsRow numbers n 65535 row = is_row numbers n 65535 in
      let of : InRow numbers n 65535 j = in_row numbers n 65535 row is k d inside in
      let count = frees_count bytes damages in
      let all = frees_beside_count bytes damages numbers row in
      let kept : slice_index more j ≡ slice_index numbers j = kept_at j (omega (arith, of.0, count)) of.1 (own_fits numbers n 65535 row is k d inside) in
      must_have more j (omega (arith, of.0, count, all)) (omega (arith, of.1, kept)) (omega (arith, of.2, kept)) (λ i below some other. beside_at k d inside kept i (omega (arith, below, all)) some other)
