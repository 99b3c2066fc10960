-- Links of a spot, one by one, and bodies of their blocks.
use Rattle.std.proofs.Common.{◌≡◌, ℕ, zero, suc, ◌+◌, ◌-◌, ◌<◌, ◌≤◌, Bool, true, false, List, [], ◌∷◌, ◌++◌, Vec, Global, length, map, take, drop, get_or, refl, sym, ap, ap₂, ◌∙◌, inl, inr, arith, length-drop}
use Rattle.std.proofs.lemmas.Bool.{cases_Bool, and_parts, and_from, true≢false}
use Rattle.std.proofs.lemmas.List.{length-map, length-take-le, take-map, drop-map, take-append-drop, get_or-map, get_or-take, get_or-drop, ext_get_or, map-append}
use Rattle.std.proofs.lemmas.List.FromFn.{length-range_with_len, length-map-range_with_len, get_or-range_with_len, get_or-map-range_with_len}
use Rattle.std.proofs.lemmas.List.Folds.{list_all_at, list_all-append}
use Rattle.std.specs.List.{AllZip, list_all, range_with_len}
use Rattle.geos_model.specs.ElementArray.{all_distinct}
use Rattle.geos_model.specs.Document.{Document, is_raw, raw_bytes_of}
use Rattle.geos_model.proofs.BlockLists.{distinct-first, distinct-rest}
use Rattle.large_arrays.specs.Bodies.{AreBodies, are_raw, bytes_of_bodies}
use Rattle.large_arrays.specs.Gathering.{HasOldBody}
use Rattle.large_arrays.specs.HandleLists.{old_handles}
use Rattle.large_arrays.specs.LookedBranches.{links_between, handle_at}
use Rattle.large_arrays.specs.Spots.{link_handles}
use Rattle.large_arrays.specs.declared.handles.OldBranch.{OldBranch}
use Rattle.large_arrays.specs.declared.spot.BranchLink.{BranchLink}
use Rattle.large_arrays.specs.declared.spot.Spot.{Spot}
use Rattle.geos_model.proofs.DistinctHandles.{distinct-cons, distinct-parts, there_before, there_behind}

-- Numbers from one up to another.

pub range-same : {X : Type 0} (f g : ℕ → X) (a n : ℕ) → ((k : ℕ) → a ≤ k → k < a + n → f k ≡ g k) → map f (range_with_len a n) ≡ map g (range_with_len a n)
range-same f g a zero same = refl
range-same {X} f g a (suc n) same =
    ap₂ (λ (x : X) (xs : List X). x ∷ xs) (same a (omega arith) (omega arith)) (range-same f g (a + 1) n (λ k low high. same k (omega arith) (omega arith)))

pub range-append : {X : Type 0} (f : ℕ → X) (a n m : ℕ) → map f (range_with_len a n) ++ map f (range_with_len (a + n) m) ≡ map f (range_with_len a (n + m))
range-append f a zero m =
    let here : a + 0 ≡ a = omega arith in
    let all : m ≡ 0 + m = omega arith in
    ap (λ (k : ℕ). map f (range_with_len k m)) here ∙ ap (λ (k : ℕ). map f (range_with_len a k)) all
range-append {X} f a (suc n) m =
    let next : a + suc n ≡ (a + 1) + n = omega arith in
    let more : suc (n + m) ≡ suc n + m = omega arith in
    ap (λ (k : ℕ). f a ∷ (map f (range_with_len (a + 1) n) ++ map f (range_with_len k m))) next
    ∙ ap (λ (xs : List X). f a ∷ xs) (range-append f (a + 1) n m)
    ∙ ap (λ (k : ℕ). map f (range_with_len a k)) more

pub range-all : (p : ℕ → Bool) (a n : ℕ) → ((k : ℕ) → a ≤ k → k < a + n → p k ≡ true) → list_all p (range_with_len a n) ≡ true
range-all p a zero each = refl
range-all p a (suc n) each =
    and_from (p a) (list_all p (range_with_len (a + 1) n)) (each a (omega arith) (omega arith)) (range-all p (a + 1) n (λ k low high. each k (omega arith) (omega arith)))

pub range-each : (p : ℕ → Bool) (a n k : ℕ) → list_all p (range_with_len a n) ≡ true → a ≤ k → k < a + n → p k ≡ true
range-each p a n k all low high = elim (cases_Bool (p k)) [
  | inl is ↦ is
  | inr other ↦
      (let place : a + (k - a) ≡ k = omega arith in
      let within : k - a < n = omega arith in
      let long = length-range_with_len a n in
      let at : get_or (range_with_len a n) (k - a) 0 ≡ k = get_or-range_with_len a n (k - a) 0 within ∙ place in
      absurd (true≢false (sym all ∙ list_all_at p (range_with_len a n) (k - a) 0 (omega arith) (ap p at ∙ other))))
]

pub range-not : (p : ℕ → Bool) (a n k : ℕ) → a ≤ k → k < a + n → p k ≡ false → list_all p (range_with_len a n) ≡ false
range-not p a n k low high none = elim (cases_Bool (list_all p (range_with_len a n))) [
  | inl all ↦ absurd (true≢false (sym (range-each p a n k all low high) ∙ none))
  | inr other ↦ other
]

-- Links from one place up to another.

-- an element of a part, by its place in the whole
pub part-at : (xs : List ℕ) (first n k : ℕ) → first ≤ k → k < first + n → get_or (take n (drop first xs)) (k - first) 0 ≡ get_or xs k 0
part-at xs first n k low high =
    let place : first + (k - first) ≡ k = omega arith in
    get_or-take n (drop first xs) (k - first) 0 (omega arith) ∙ get_or-drop first xs (k - first) 0 ∙ ap (λ (m : ℕ). get_or xs m 0) place

module _ (s : Spot) (from to : ℕ) (first : s.first ≤ from) (order : from ≤ to) (within : to ≤ s.first + length s.links.items) where
  pub links-long : length (links_between s from to) ≡ to - from
  links-long = (let long = length-drop (from - s.first) s.links.items in length-take-le (to - from) (drop (from - s.first) s.links.items) (omega arith))

  pub handles-are : link_handles (links_between s from to) ≡ map (λ k. handle_at s k) (range_with_len from (to - from))
  handles-are =
      let hs : List ℕ = link_handles s.links.items in
      let n : ℕ = to - from in
      let long = length-map (links_between s from to) (λ (l : BranchLink). l.handle.0) in
      let count = links-long in
      let many = length-map-range_with_len (λ (k : ℕ). handle_at s k) from n in
      let part : link_handles (links_between s from to) ≡ take n (drop (from - s.first) hs) =
      sym (take-map (λ (l : BranchLink). l.handle.0) n (drop (from - s.first) s.links.items)) ∙ ap (take n) (sym (drop-map (λ (l : BranchLink). l.handle.0) (from - s.first) s.links.items)) in
      ext_get_or 0 (link_handles (links_between s from to)) (map (λ k. handle_at s k) (range_with_len from n)) (omega arith) (λ k low.
      let here : k < n = omega arith in
      let place : (from - s.first) + k ≡ (from + k) - s.first = omega arith in
      ap (λ (xs : List ℕ). get_or xs k 0) part ∙ get_or-take n (drop (from - s.first) hs) k 0 here ∙ get_or-drop (from - s.first) hs k 0
      ∙ ap (λ (m : ℕ). get_or hs m 0) place ∙ sym (get_or-map-range_with_len (λ (m : ℕ). handle_at s m) from n k (from + k) 0 here refl))

-- Distinct handles of which some are taken.

pub once-part : (b : ℕ) (hs : List ℕ) (a n : ℕ) → all_distinct (b ∷ hs) ≡ true → all_distinct (b ∷ take n (drop a hs)) ≡ true
once-part b hs a n once =
    let rest : List ℕ = drop a hs in
    let halves = distinct-parts (take a hs) rest (ap all_distinct (take-append-drop a hs) ∙ distinct-rest b hs once) in
    let thirds = distinct-parts (take n rest) (drop n rest) (ap all_distinct (take-append-drop n rest) ∙ halves.1) in
    distinct-cons b (take n rest) (λ there. distinct-first b hs once (there_behind a hs b (there_before n rest b there))) thirds.0

pub once-range : (b : ℕ) (f : ℕ → ℕ) (a n from m : ℕ) → a ≤ from → from + m ≤ a + n → all_distinct (b ∷ map f (range_with_len a n)) ≡ true
    → all_distinct (b ∷ map f (range_with_len from m)) ≡ true
once-range b f a n from m low high once =
    let all : List ℕ = map f (range_with_len a n) in
    let long = length-map-range_with_len f a n in
    let many = length-map-range_with_len f from m in
    let rest = length-drop (from - a) all in
    let part = length-take-le m (drop (from - a) all) (omega arith) in
    ap (λ (hs : List ℕ). all_distinct (b ∷ hs)) (sym (ext_get_or 0 (take m (drop (from - a) all)) (map f (range_with_len from m)) (omega arith) (λ k here.
    let below : k < m = omega arith in
    let within : (from - a) + k < n = omega arith in
    let place : a + ((from - a) + k) ≡ from + k = omega arith in
    get_or-take m (drop (from - a) all) k 0 below ∙ get_or-drop (from - a) all k 0 ∙ get_or-map-range_with_len f a n ((from - a) + k) (from + k) 0 within place
    ∙ sym (get_or-map-range_with_len f from m k (from + k) 0 below refl))))
    ∙ once-part b all (from - a) m once

-- Bodies of blocks.

module _ (d : Document) where
  pub raw-each : (hs : List ℕ) (k : ℕ) → k < length hs → are_raw d hs ≡ true → is_raw d (get_or hs k 0) ≡ true
  raw-each hs k low all = elim (cases_Bool (is_raw d (get_or hs k 0))) [
    | inl is ↦ is
    | inr other ↦ absurd (true≢false (sym all ∙ list_all_at (λ h. is_raw d h) hs k 0 low other))
  ]

  pub raw-range : (f : ℕ → ℕ) (a n k : ℕ) → are_raw d (map f (range_with_len a n)) ≡ true → a ≤ k → k < a + n → is_raw d (f k) ≡ true
  raw-range f a n k all low high =
      let place : a + (k - a) ≡ k = omega arith in
      let within : k - a < n = omega arith in
      let long = length-map-range_with_len f a n in
      ap (is_raw d) (sym (get_or-map-range_with_len f a n (k - a) k 0 within place)) ∙ raw-each (map f (range_with_len a n)) (k - a) (omega arith) all

  pub bodies-append : (hs gs : List ℕ) (xs ys : List (List ℕ)) → AreBodies d hs xs → AreBodies d gs ys → AreBodies d (hs ++ gs) (xs ++ ys)
  bodies-append hs gs xs ys left right = record {
    raw = list_all-append (λ h. is_raw d h) hs gs ∙ and_from (are_raw d hs) (are_raw d gs) left.raw right.raw;
    bytes = ap₂ (λ (us vs : List (List ℕ)). us ++ vs) left.bytes right.bytes ∙ sym (map-append (λ (h : ℕ). raw_bytes_of d h) hs gs);
  }

  pub body-at : (hs : List ℕ) (xs : List (List ℕ)) (k : ℕ) → k < length hs → AreBodies d hs xs → get_or xs k [] ≡ raw_bytes_of d (get_or hs k 0)
  body-at hs xs k low are = ap (λ (us : List (List ℕ)). get_or us k []) are.bytes ∙ get_or-map (λ (h : ℕ). raw_bytes_of d h) hs k 0 [] low

  -- each with its branch
  pub bodies-zip : (olds : List OldBranch) (bodies : List (Vec ℕ Global)) → AreBodies d (old_handles olds) (bytes_of_bodies bodies)
      → AllZip (λ old body. HasOldBody d old.handle.0 body.items) olds bodies
  bodies-zip [] [] are = tt
  bodies-zip [] (body ∷ bodies) are = (let never : bytes_of_bodies (body ∷ bodies) ≡ [] = are.bytes in absurd (cc never))
  bodies-zip (old ∷ olds) [] are = (let never : [] ≡ map (λ h. raw_bytes_of d h) (old_handles (old ∷ olds)) = are.bytes in absurd (cc never))
  bodies-zip (old ∷ olds) (body ∷ bodies) are =
      let raw = and_parts (is_raw d old.handle.0) (are_raw d (old_handles olds)) are.raw in
      let bytes : (body.items ∷ bytes_of_bodies bodies) ≡ (raw_bytes_of d old.handle.0 ∷ map (λ h. raw_bytes_of d h) (old_handles olds)) = are.bytes in
      let here : raw_bytes_of d old.handle.0 ≡ body.items = cc bytes in
      let rest : bytes_of_bodies bodies ≡ map (λ h. raw_bytes_of d h) (old_handles olds) = cc bytes in
      ((raw.0, here), bodies-zip olds bodies (record { raw = raw.1; bytes = rest }))
