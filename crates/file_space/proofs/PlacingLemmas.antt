-- However many extents are taken, the first fit lies not far behind the slots.
use Rattle.std.proofs.Common.{◌≡◌, ℕ, ◌+◌, ◌*◌, ◌<◌, ◌≤◌, List, length, get_or, refl, ap, subst, arith, inl, inr, zero, suc, ◌-◌, ◌/◌, ◌⊎◌, Bool, true, false, cond, [], ◌∷◌, count_by, eqb, ltb}
use Rattle.std.specs.List.{filter}
use Rattle.std.proofs.lemmas.Bool.{cases_lt, cases_eq, cases_Bool, eq-eqb, ne_eqb, lt-ltb, le-ltb, ltb-false, eqb-false}
use Rattle.std.proofs.lemmas.List.Sums.{count_by-le-length, length-filter, sum_by-cons}
use Rattle.file_format.specs.File.{pages_of, end_page}
use Rattle.file_format.specs.declared.file.Extent.{Extent}
use Rattle.file_space.specs.Placing.{IsApart, IsFree, IsLength, AreExtents, is_long}

-- so many bytes take 1 to 321 pages
pub pages_some : (n : ℕ) → IsLength n → 1 ≤ pages_of n
pages_some n l = omega (arith, l)

pub pages_few : (n : ℕ) → IsLength n → pages_of n ≤ 321
pages_few n l = omega (arith, l)

-- and up to 128 where they aren't long
pub pages_short : (e : Extent) → is_long e ≡ false → pages_of e.length ≤ 128
pages_short e short = ltb-false 128 (pages_of e.length) short

-- ---- however many extents are taken and wherever they lie, so many pages are free not far behind the slots

-- a test as a number
abbrev pub as_one : Bool → ℕ
as_one b = cond b 1 0

pub count_cons : {X : Type 0} (p : X → Bool) (x : X) (xs : List X) → count_by p (x ∷ xs) ≡ as_one (p x) + count_by p xs
count_cons p x xs = sum_by-cons (λ y. cond (p y) 1 0) x xs

-- a count of none, and back
pub none_pass : {X : Type 0} (p : X → Bool) (xs : List X) → count_by p xs ≡ 0 → (k : ℕ) (d : X) → k < length xs → p (get_or xs k d) ≡ false
none_pass p [] none k d l = absurd (omega (arith, l))
none_pass p (x ∷ xs) none zero d l = let whole = count_cons p x xs in elim (cases_Bool (p x)) [
  | inl passes ↦ (let one : as_one (p x) ≡ 1 = ap as_one passes in absurd (omega (arith, one, none, whole)))
  | inr not ↦ not
]
none_pass p (x ∷ xs) none (suc k) d l = (let whole = count_cons p x xs in none_pass p xs (omega (arith, none, whole)) k d (omega (arith, l)))

pub count_none : {X : Type 0} (p : X → Bool) (xs : List X) → ((k : ℕ) (d : X) → k < length xs → p (get_or xs k d) ≡ false) → count_by p xs ≡ 0
count_none p [] none = refl
count_none p (x ∷ xs) none =
    let here : as_one (p x) ≡ 0 = ap as_one (none 0 x (omega arith)) in
    let rest : count_by p xs ≡ 0 = count_none p xs (λ k d l. none (suc k) d (omega (arith, l))) in
    let whole = count_cons p x xs in
    omega (arith, here, rest, whole)

-- Of n numbers and one more, one isn't among n.
module _ {X : Type 0} (f : X → ℕ) where
  count_step : (k : ℕ) (xs : List X) → count_by (λ x. ltb (f x) (suc k)) xs ≡ count_by (λ x. ltb (f x) k) xs + count_by (λ x. eqb (f x) k) xs
  count_step k [] = refl
  count_step k (x ∷ xs) =
      let rest = count_step k xs in
      let up = count_cons (λ y. ltb (f y) (suc k)) x xs in
      let low = count_cons (λ y. ltb (f y) k) x xs in
      let at_k = count_cons (λ y. eqb (f y) k) x xs in
      elim (cases_lt (f x) k) [
        | inl below ↦
            let a : as_one (ltb (f x) (suc k)) ≡ 1 = ap as_one (lt-ltb (f x) (suc k) (omega (arith, below))) in
            let b : as_one (ltb (f x) k) ≡ 1 = ap as_one (lt-ltb (f x) k below) in
            let c : as_one (eqb (f x) k) ≡ 0 = ap as_one (ne_eqb (f x) k (λ e. absurd (omega (arith, below, e)))) in
            omega (arith, a, b, c, rest, up, low, at_k)
        | inr past ↦ elim (cases_eq (f x) k) [
          | inl at ↦
              let a : as_one (ltb (f x) (suc k)) ≡ 1 = ap as_one (lt-ltb (f x) (suc k) (omega (arith, at))) in
              let b : as_one (ltb (f x) k) ≡ 0 = ap as_one (le-ltb (f x) k past) in
              let c : as_one (eqb (f x) k) ≡ 1 = ap as_one (eq-eqb (f x) k at) in
              omega (arith, a, b, c, rest, up, low, at_k)
          | inr other ↦
              let further : suc k ≤ f x = omega (arith, past, other) in
              let a : as_one (ltb (f x) (suc k)) ≡ 0 = ap as_one (le-ltb (f x) (suc k) further) in
              let b : as_one (ltb (f x) k) ≡ 0 = ap as_one (le-ltb (f x) k past) in
              let c : as_one (eqb (f x) k) ≡ 0 = ap as_one (ne_eqb (f x) k other) in
              omega (arith, a, b, c, rest, up, low, at_k)
        ]
      ]

-- Of so many numbers as two lists give and one more, one isn't among them.
module _ {X : Type 0} (f g : X → ℕ) (xs ys : List X) where
  -- neither list gives the number
  abbrev Misses : ℕ → Type 0
  Misses i = (count_by (λ x. eqb (f x) i) xs ≡ 0) × (count_by (λ y. eqb (g y) i) ys ≡ 0)

  missing_or_many : (k : ℕ) → ((i : ℕ) × (i < k) × Misses i) ⊎ (k ≤ count_by (λ x. ltb (f x) k) xs + count_by (λ y. ltb (g y) k) ys)
  missing_or_many zero = inr (omega arith)
  missing_or_many (suc k) = elim (missing_or_many k) [
    | inl found ↦ inl (found.0, (let below = found.1 in omega (arith, below)), found.2)
    | inr many ↦ (let step = count_step f k xs in let other = count_step g k ys in elim (cases_lt 0 (count_by (λ x. eqb (f x) k) xs + count_by (λ y. eqb (g y) k) ys)) [
      | inl some ↦ inr (omega (arith, step, other, many, some))
      | inr none ↦ inl (k, omega arith, (omega (arith, none), omega (arith, none)))
    ])
  ]

  pub missing : (i : ℕ) × (i ≤ length xs + length ys) × Misses i
  missing = elim (missing_or_many (suc (length xs + length ys))) [
    | inl found ↦ (found.0, (let below = found.1 in omega (arith, below)), found.2)
    | inr many ↦
        let most = count_by-le-length (λ x. ltb (f x) (suc (length xs + length ys))) xs in
        let others = count_by-le-length (λ y. ltb (g y) (suc (length xs + length ys))) ys in
        absurd (omega (arith, many, most, others))
  ]

-- where no element that passes one test passes another, a long one doesn't
pub none_filtered : {X : Type 0} (long p : X → Bool) (xs : List X) → count_by p (filter long xs) ≡ 0 → (k : ℕ) (d : X) → k < length xs → long (get_or xs k d) ≡ true → p (get_or xs k d) ≡ false
none_filtered long p [] none k d l is = absurd (omega (arith, l))
none_filtered long p (x ∷ xs) none zero d l is = (let whole : count_by p (x ∷ filter long xs) ≡ 0 = subst (λ b. count_by p (cond b (x ∷ filter long xs) (filter long xs)) ≡ 0) is none in none_pass p (x ∷ filter long xs) whole 0 d (omega arith))
none_filtered long p (x ∷ xs) none (suc k) d l is = elim (cases_Bool (long x)) [
  | inl passes ↦
      let whole : count_by p (x ∷ filter long xs) ≡ 0 = subst (λ b. count_by p (cond b (x ∷ filter long xs) (filter long xs)) ≡ 0) passes none in
      let parts = count_cons p x (filter long xs) in
      none_filtered long p xs (omega (arith, whole, parts)) k d (omega (arith, l)) is
  | inr not ↦ none_filtered long p xs (subst (λ b. count_by p (cond b (x ∷ filter long xs) (filter long xs)) ≡ 0) not none) k d (omega (arith, l)) is
]

-- Windows of 321 pages whose starts are 449 pages apart: an extent of at most 128 pages lies on no two of them, and one
-- of at most 321 pages on no three. The last one that begins before it ends, and the one before:
abbrev pub window_of : Extent → ℕ
window_of e = (end_page e - 3) / 449

abbrev pub window_before : Extent → ℕ
window_before e = window_of e - 1

in_window : (start length_in end i : ℕ) → 1 ≤ length_in → length_in ≤ 128 → end ≡ start + length_in → start < 2 + 449 * i + 321 → 2 + 449 * i < end → (end - 3) / 449 ≡ i
in_window start n end i some few is low high = omega (arith, some, few, is, low, high)

in_windows : (start length_in end i : ℕ) → 1 ≤ length_in → length_in ≤ 321 → end ≡ start + length_in → start < 2 + 449 * i + 321 → 2 + 449 * i < end → ((end - 3) / 449 ≡ i → ⊥) → (end - 3) / 449 - 1 ≡ i
in_windows start n end i some few is low high other = omega (arith, some, few, is, low, high, other)

-- an extent that isn't among those of a window lies apart
apart_from : (e : Extent) (n i : ℕ) → IsLength e.length → IsLength n → (window_of e ≡ i → ⊥) → (is_long e ≡ true → window_before e ≡ i → ⊥) → IsApart (record { page = 2 + 449 * i; length = n }) e
apart_from e n i is_length wanted_length other before =
    let wanted = pages_few n wanted_length in
    let some = pages_some e.length is_length in
    let few = pages_few e.length is_length in
    elim (cases_lt (2 + 449 * i) (end_page e)) [
      | inr ends ↦ inr ends
      | inl high ↦ elim (cases_lt e.page (2 + 449 * i + 321)) [
        | inr behind ↦ inl (omega (arith, behind, wanted))
        | inl low ↦ elim (cases_Bool (is_long e)) [
          | inl long ↦ absurd (before long (in_windows e.page (pages_of e.length) (end_page e) i some few refl low high other))
          | inr short ↦ absurd (other (in_window e.page (pages_of e.length) (end_page e) i some (pages_short e short) refl low high))
        ]
      ]
    ]

pub free_window : (taken : List Extent) (n : ℕ) → AreExtents taken → IsLength n → (i : ℕ) × (i ≤ length taken + count_by is_long taken) × IsFree taken (2 + 449 * i) n
free_window taken n extents is_length =
    let found = missing window_of window_before taken (filter is_long taken) in
    let longs = length-filter is_long taken in
    let near = found.1 in (
      found.0,
      omega (arith, near, longs),
      λ k d l.
          let e : Extent = get_or taken k d in
          apart_from e n found.0 (extents k d l).1 is_length
          (eqb-false (window_of e) found.0 (none_pass (λ x. eqb (window_of x) found.0) taken found.2.0 k d l))
          (λ long. eqb-false (window_before e) found.0 (none_filtered is_long (λ x. eqb (window_before x) found.0) taken found.2.1 k d l long)),
    )
