-- Which blocks of a window stay and which go, by their places.
use Rattle.std.proofs.Common.{◌≡◌, ℕ, zero, suc, ◌+◌, ◌-◌, ◌<◌, ◌≤◌, Bool, true, false, not, ◌||◌, ◌==◌, nat_lt, cond, List, [], ◌∷◌, ◌++◌, length, take, drop, filter, get_or, refl, sym, ap, ap₂, subst, ◌∙◌, ◌⊎◌, inl, inr, arith, append-nil, min, nat_le, lt-ltb, ltb-true, leb-true, leb-false, length-drop, drop-drop}
use Rattle.std.proofs.Math.ListN.{get_or-map}
use Rattle.std.proofs.lemmas.Bool.{cases_Bool, cond-true, cond-false, eq-eqb}
use Rattle.std.proofs.lemmas.List.{length-map, length-take, take_all, take-append-drop, drop_more, drop_all, nil_from_length, take-map, drop-map, map-append, take-take}
use Rattle.std.proofs.lemmas.List.Elements.{filter-append, Contains-append_left, Contains-append_right, Contains-append_cases}
use Rattle.std.proofs.lemmas.List.Folds.{list_any-append}
use Rattle.std.proofs.lemmas.Simd.{map-map}
use Rattle.std.specs.List.{Contains, list_any}
use Rattle.geos_model.specs.ElementArray.{all_distinct}
use Rattle.geos_model.specs.declared.handle.VmHandle.{VmHandle}
use Rattle.geos_model.proofs.Chains.{contains_first, contains_later}
use Rattle.geos_model.proofs.BlockLists.{none_passes}
use Rattle.geos_model.specs.LargeWindow.{greatest, window_handles}
use Rattle.vm_chains.specs.Numbers.{numbers}
use Rattle.large_arrays.specs.HandleLists.{old_handles, old_pairs, handles_outside, AreFreed, AreKeptPlaces}
use Rattle.large_arrays.specs.declared.handles.OldBranch.{OldBranch}
use Rattle.large_arrays.specs.declared.handles.KeptPlaces.{KeptPlaces}
use Rattle.geos_model.proofs.DistinctHandles.{distinct-parts}
use Rattle.geos_model.proofs.WindowHandles.{handles}
use Rattle.geos_model.proofs.PieceLists.{absent_any}

-- Branches that are replaced, as pairs.

abbrev no_branch : OldBranch
no_branch = record { handle = record { 0 = 0 }; staying = 0 }

pub pair_at : (olds : List OldBranch) (k : ℕ) → get_or (old_pairs olds) k (0, 0) ≡ ((get_or olds k no_branch).handle.0, (get_or olds k no_branch).staying)
pair_at olds k = get_or-map (λ (o : OldBranch). (o.handle.0, o.staying)) olds k no_branch

pub pairs_handles : (olds : List OldBranch) → handles (old_pairs olds) ≡ old_handles olds
pairs_handles olds = map-map (λ (p : ℕ × ℕ). p.0) (λ (o : OldBranch). (o.handle.0, o.staying)) olds

pub pairs_many : (olds : List OldBranch) → length (old_pairs olds) ≡ length olds
pairs_many olds = length-map olds (λ (o : OldBranch). (o.handle.0, o.staying))

-- the handles of some of them
run_handles : (olds : List OldBranch) (a n : ℕ) → old_handles (take n (drop a olds)) ≡ handles (take n (drop a (old_pairs olds)))
run_handles olds a n =
    let pair : OldBranch → ℕ × ℕ = λ o. (o.handle.0, o.staying) in
    sym (pairs_handles (take n (drop a olds)))
    ∙ ap handles (sym (take-map pair n (drop a olds)) ∙ ap (take n) (sym (drop-map pair a olds)))

rest_handles : (olds : List OldBranch) (a : ℕ) → old_handles (take (length olds - a) (drop a olds)) ≡ handles (drop a (old_pairs olds))
rest_handles olds a =
    let long = length-drop a olds in
    ap old_handles (take_all (length olds - a) (drop a olds) (omega arith))
    ∙ sym (pairs_handles (drop a olds)) ∙ ap handles (sym (drop-map (λ (o : OldBranch). (o.handle.0, o.staying)) a olds))

-- The block in which most stays.

pub greatest_more : (best : ℕ × ℕ) (olds : List (ℕ × ℕ)) (i : ℕ) → i < length olds → best.1 < (get_or olds i (0, 0)).1
    → greatest best (drop i olds) ≡ greatest (get_or olds i (0, 0)) (drop (i + 1) olds)
greatest_more best olds i low more =
    let x : ℕ × ℕ = get_or olds i (0, 0) in
    ap (greatest best) (drop_more olds i (0, 0) low)
    ∙ cond-true (nat_lt best.1 x.1) (greatest x (drop (i + 1) olds)) (greatest best (drop (i + 1) olds)) (lt-ltb best.1 x.1 more)

pub greatest_less : (best : ℕ × ℕ) (olds : List (ℕ × ℕ)) (i : ℕ) → i < length olds → (get_or olds i (0, 0)).1 ≤ best.1
    → greatest best (drop i olds) ≡ greatest best (drop (i + 1) olds)
greatest_less best olds i low less =
    let x : ℕ × ℕ = get_or olds i (0, 0) in
    ap (greatest best) (drop_more olds i (0, 0) low)
    ∙ elim (cases_Bool (nat_lt best.1 x.1)) [
      | inl more ↦ absurd (let above = ltb-true best.1 x.1 more in omega arith)
      | inr other ↦ cond-false (nat_lt best.1 x.1) (greatest x (drop (i + 1) olds)) (greatest best (drop (i + 1) olds)) other
    ]

pub greatest_end : (best : ℕ × ℕ) (olds : List (ℕ × ℕ)) (i : ℕ) → length olds ≤ i → greatest best (drop i olds) ≡ best.0
greatest_end best olds i past = ap (greatest best) (drop_all i olds past)

-- Which blocks stay, case by case.

none_new : (new : List ℕ) → length new ≤ 0 → new ≡ []
none_new new none = nil_from_length new (omega arith)

-- where there were several, and there are several
kept_several : (olds : List (ℕ × ℕ)) (head : Bool) (pieces end : ℕ) → 1 < length olds → 1 < pieces → end ≤ length olds - 1 → end ≤ pieces - 1
    → (end ≡ length olds - 1) ⊎ (end ≡ pieces - 1)
    → AreKeptPlaces olds head pieces (record { start = 0; end = end; last = length olds - 1 })
kept_several olds head pieces end many several low few is =
    record { first = omega arith; second = omega arith; third = omega arith; is = λ new _. by_case olds pieces end many several low few is new }
  where
    -- the lesser of two numbers, taken
    lesser : (hs : List ℕ) (n m k : ℕ) → k ≤ n → k ≤ m → (k ≡ m) ⊎ (k ≡ n) → take n (take m hs) ≡ take k hs
    lesser hs n m k low few (inl is) =
        (let long = length-take m hs in take_all n (take m hs) (omega arith)) ∙ ap (λ (i : ℕ). take i hs) (sym is)
    lesser hs n m k low few (inr is) = take-take n m hs (omega arith) ∙ ap (λ (i : ℕ). take i hs) (sym is)

    by_case : (olds : List (ℕ × ℕ)) (pieces end : ℕ) → 1 < length olds → 1 < pieces → end ≤ length olds - 1 → end ≤ pieces - 1
        → (end ≡ length olds - 1) ⊎ (end ≡ pieces - 1) → (new : List ℕ)
        → window_handles olds head pieces new ≡ (handles (take (end - 0) (drop 0 olds)) ++ new) ++ handles (drop (length olds - 1) olds)
    by_case [] pieces end many several low few is new = absurd (omega arith)
    by_case (x ∷ []) pieces end many several low few is new = absurd (omega arith)
    by_case (x ∷ y ∷ xs) zero end many several low few is new = absurd (omega arith)
    by_case (x ∷ y ∷ xs) (suc zero) end many several low few is new = absurd (omega arith)
    by_case (x ∷ y ∷ xs) (suc (suc n)) zero many several low few (inl is) new = absurd (omega arith)
    by_case (x ∷ y ∷ xs) (suc (suc n)) zero many several low few (inr is) new = absurd (omega arith)
    by_case (x ∷ y ∷ xs) (suc (suc n)) (suc k) many several low few is new =
        let rest : List ℕ = handles (y ∷ xs) in
        let m : ℕ = length xs in
        let last : length (x ∷ y ∷ xs) - 1 ≡ suc m = omega arith in
        let all : suc k - 0 ≡ suc k = omega arith in
        let taken : take n (take m rest) ≡ take k rest = lesser rest n m k (omega arith) (omega arith) (elim is [
          | inl one ↦ inl (omega arith)
          | inr other ↦ inr (omega arith)
        ]) in
        ap₂ (λ (ys zs : List ℕ). x.0 ∷ ((ys ++ new) ++ zs))
        (taken ∙ take-map (λ (p : ℕ × ℕ). p.0) k (y ∷ xs)) (drop-map (λ (p : ℕ × ℕ). p.0) m (y ∷ xs))
        ∙ ap₂ (λ (i j : ℕ). (handles (take i (x ∷ y ∷ xs)) ++ new) ++ handles (drop j (x ∷ y ∷ xs))) (sym all) (sym last)

-- Which blocks go.

-- what is among the handles of a window of those that were there
same_there : (olds : List (ℕ × ℕ)) (head : Bool) (pieces : ℕ) (new : List ℕ) (h : ℕ) → Contains (handles olds) h → list_any (λ x. x == h) new ≡ false
    → list_any (λ x. x == h) (window_handles olds head pieces new) ≡ list_any (λ x. x == h) (window_handles olds true pieces [])
same_there olds head zero new h there absent = refl
same_there [] head (suc n) new h there absent = absurd (let low = there.1 in omega arith)
same_there (x ∷ xs) head (suc zero) new h there absent = refl
same_there (x ∷ []) true (suc (suc n)) new h there absent = ap (λ (b : Bool). (x.0 == h) || b) absent
same_there (x ∷ []) false (suc (suc n)) new h there absent =
    list_any-append (λ y. y == h) new (x.0 ∷ []) ∙ ap (λ (b : Bool). b || list_any (λ y. y == h) (x.0 ∷ [])) absent
same_there (x ∷ y ∷ xs) head (suc (suc n)) new h there absent =
    let rest : List ℕ = handles (y ∷ xs) in
    let front : List ℕ = take n (take (length xs) rest) in
    let back : List ℕ = drop (length xs) rest in
    let is : ℕ → Bool = λ z. z == h in
    ap (λ (b : Bool). (x.0 == h) || b)
    (list_any-append is (front ++ new) back
    ∙ ap (λ (b : Bool). b || list_any is back)
    (list_any-append is front new ∙ ap (λ (b : Bool). list_any is front || b) absent ∙ sym (list_any-append is front []))
    ∙ sym (list_any-append is (front ++ []) back))

pub filter_same : (p q : ℕ → Bool) (hs : List ℕ) → ((h : ℕ) → Contains hs h → p h ≡ q h) → filter p hs ≡ filter q hs
filter_same p q [] same = refl
filter_same p q (h ∷ hs) same =
    ap₂ (λ (b : Bool) (xs : List ℕ). cond b (h ∷ xs) xs) (same h (contains_first h hs)) (filter_same p q hs (λ x there. same x (contains_later h hs x there)))

filter_all : (p : ℕ → Bool) (hs : List ℕ) → ((h : ℕ) → Contains hs h → p h ≡ true) → filter p hs ≡ hs
filter_all p [] good = refl
filter_all p (h ∷ hs) good =
    ap₂ (λ (b : Bool) (xs : List ℕ). cond b (h ∷ xs) xs) (good h (contains_first h hs)) (filter_all p hs (λ x there. good x (contains_later h hs x there)))

filter_none : (p : ℕ → Bool) (hs : List ℕ) → ((h : ℕ) → Contains hs h → p h ≡ false) → filter p hs ≡ []
filter_none p [] bad = refl
filter_none p (h ∷ hs) bad =
    ap₂ (λ (b : Bool) (xs : List ℕ). cond b (h ∷ xs) xs) (bad h (contains_first h hs)) (filter_none p hs (λ x there. bad x (contains_later h hs x there)))

-- what is there is found
there_any : (hs : List ℕ) (h : ℕ) → Contains hs h → list_any (λ x. x == h) hs ≡ true
there_any hs h there = elim (cases_Bool (list_any (λ x. x == h) hs)) [
  | inl found ↦ found
  | inr none ↦ absurd (none_passes (λ x. x == h) hs h none (eq-eqb h h refl) there)
]

-- of four runs of handles the first and the third are outside the others
outside_parts : (p a q c : List ℕ) → all_distinct (p ++ (a ++ (q ++ c))) ≡ true → handles_outside (a ++ c) (p ++ (a ++ (q ++ c))) ≡ p ++ q
outside_parts p a q c once =
    let test : ℕ → Bool = λ h. not (list_any (λ x. x == h) (a ++ c)) in
    let one = distinct-parts p (a ++ (q ++ c)) once in
    let two = distinct-parts a (q ++ c) one.1 in
    let three = distinct-parts q c two.1 in
    let absent : (h : ℕ) → (Contains a h → ⊥) → (Contains c h → ⊥) → test h ≡ true =
    λ h not_a not_c. ap not (absent_any (a ++ c) h (λ there. elim (Contains-append_cases a c h there) [
      | inl first ↦ not_a first
      | inr last ↦ not_c last
    ])) in
    let first : filter test p ≡ p = filter_all test p (λ h there.
    absent h (λ in_a. one.2 h there (Contains-append_left a (q ++ c) h in_a))
    (λ in_c. one.2 h there (Contains-append_right a (q ++ c) h (Contains-append_right q c h in_c)))) in
    let second : filter test a ≡ [] = filter_none test a (λ h there. ap not (there_any (a ++ c) h (Contains-append_left a c h there))) in
    let third : filter test q ≡ q = filter_all test q (λ h there. absent h (λ in_a. two.2 h in_a (Contains-append_left q c h there)) (λ in_c. three.2 h there in_c)) in
    let fourth : filter test c ≡ [] = filter_none test c (λ h there. ap not (there_any (a ++ c) h (Contains-append_right a c h there))) in
    filter-append test p (a ++ (q ++ c))
    ∙ ap₂ (λ (xs ys : List ℕ). xs ++ ys) first
    (filter-append test a (q ++ c)
    ∙ ap₂ (λ (xs ys : List ℕ). xs ++ ys) second
    (filter-append test q c ∙ ap₂ (λ (xs ys : List ℕ). xs ++ ys) third fourth ∙ append-nil q))

-- a list by three places
in_parts : (xs : List (ℕ × ℕ)) (s e l : ℕ) → s ≤ e → e ≤ l → take s xs ++ (take (e - s) (drop s xs) ++ (take (l - e) (drop e xs) ++ drop l xs)) ≡ xs
in_parts xs s e l first second =
    let upto : s + (e - s) ≡ e = omega arith in
    let on : e + (l - e) ≡ l = omega arith in
    let last : take (l - e) (drop e xs) ++ drop l xs ≡ drop e xs =
    ap (λ (n : ℕ). take (l - e) (drop e xs) ++ drop n xs) (sym on)
    ∙ ap (λ (ys : List (ℕ × ℕ)). take (l - e) (drop e xs) ++ ys) (sym (drop-drop (l - e) e xs)) ∙ take-append-drop (l - e) (drop e xs) in
    let middle : take (e - s) (drop s xs) ++ drop e xs ≡ drop s xs =
    ap (λ (n : ℕ). take (e - s) (drop s xs) ++ drop n xs) (sym upto)
    ∙ ap (λ (ys : List (ℕ × ℕ)). take (e - s) (drop s xs) ++ ys) (sym (drop-drop (e - s) s xs)) ∙ take-append-drop (e - s) (drop s xs) in
    ap (λ (ys : List (ℕ × ℕ)). take s xs ++ (take (e - s) (drop s xs) ++ ys)) last ∙ ap (λ (ys : List (ℕ × ℕ)). take s xs ++ ys) middle ∙ take-append-drop s xs

freed_are : (olds : List (ℕ × ℕ)) (pieces : ℕ) (places : KeptPlaces) → AreKeptPlaces olds true pieces places → all_distinct (handles olds) ≡ true
    → AreFreed olds pieces (handles (take places.start olds) ++ handles (take (places.last - places.end) (drop places.end olds)))
freed_are olds pieces places kept once head new apart =
    let s = places.start in
    let e = places.end in
    let l = places.last in
    let p : List ℕ = handles (take s olds) in
    let a : List ℕ = handles (take (e - s) (drop s olds)) in
    let q : List ℕ = handles (take (l - e) (drop e olds)) in
    let c : List ℕ = handles (drop l olds) in
    let num : ℕ × ℕ → ℕ = λ x. x.0 in
    let all : handles olds ≡ p ++ (a ++ (q ++ c)) =
    ap handles (sym (in_parts olds s e l kept.first kept.second))
    ∙ map-append num (take s olds) (take (e - s) (drop s olds) ++ (take (l - e) (drop e olds) ++ drop l olds))
    ∙ ap (λ (xs : List ℕ). p ++ xs) (map-append num (take (e - s) (drop s olds)) (take (l - e) (drop e olds) ++ drop l olds)
    ∙ ap (λ (xs : List ℕ). a ++ xs) (map-append num (take (l - e) (drop e olds)) (drop l olds))) in
    let stay : window_handles olds true pieces [] ≡ a ++ c = kept.is [] (omega arith) ∙ ap (λ (xs : List ℕ). xs ++ c) (append-nil a) in
    filter_same (λ h. not (list_any (λ x. x == h) (window_handles olds head pieces new))) (λ h. not (list_any (λ x. x == h) (a ++ c))) (handles olds)
    (λ h there. ap not (same_there olds head pieces new h there (absent_any new h (apart h there)) ∙ ap (list_any (λ x. x == h)) stay))
    ∙ ap (handles_outside (a ++ c)) all
    ∙ outside_parts p a q c (ap all_distinct (sym all) ∙ once)

-- The branches as the code has them.

pub several_kept : (olds : List OldBranch) (head : Bool) (pieces least : ℕ) → 1 < length olds → 1 < pieces → least ≡ min (length olds) pieces
    → AreKeptPlaces (old_pairs olds) head pieces (record { start = 0; end = least - 1; last = length olds - 1 })
several_kept olds head pieces least more several is =
    let many = pairs_many olds in
    subst (λ (n : ℕ). AreKeptPlaces (old_pairs olds) head pieces (record { start = 0; end = least - 1; last = n - 1 })) many
    (kept_several (old_pairs olds) head pieces (least - 1) (omega arith) several (omega arith) (omega arith) (elim (cases_Bool (nat_le (length olds) pieces)) [
      | inl few ↦ (let low = leb-true (length olds) pieces few in inl (omega arith))
      | inr lots ↦ (let high = leb-false (length olds) pieces lots in inr (omega arith))
    ]))

-- what is added handle by handle
pub freed_pushed : (olds : List OldBranch) (pieces : ℕ) (places : KeptPlaces) (freed : List ℕ) → AreKeptPlaces (old_pairs olds) true pieces places
    → all_distinct (old_handles olds) ≡ true
    → freed ≡ old_handles (take places.start olds) ++ old_handles (take (places.last - places.end) (drop places.end olds))
    → AreFreed (old_pairs olds) pieces freed
freed_pushed olds pieces places freed kept once is head new apart =
    freed_are (old_pairs olds) pieces places kept (ap all_distinct (pairs_handles olds) ∙ once) head new apart
    ∙ ap₂ (λ (xs ys : List ℕ). xs ++ ys) (sym (run_handles olds 0 places.start)) (sym (run_handles olds places.end (places.last - places.end)))
    ∙ sym is

pub window_pushed : (olds : List OldBranch) (head : Bool) (pieces : ℕ) (new : List VmHandle) (places : KeptPlaces) (found : List ℕ)
    → AreKeptPlaces (old_pairs olds) head pieces places → length new ≤ pieces - length olds
    → found ≡ (old_handles (take (places.end - places.start) (drop places.start olds)) ++ numbers new)
    ++ old_handles (take (length olds - places.last) (drop places.last olds))
    → found ≡ window_handles (old_pairs olds) head pieces (numbers new)
window_pushed olds head pieces new places found kept few is =
    let many = pairs_many olds in
    let count = length-map new (λ (h : VmHandle). h.0) in
    is
    ∙ ap₂ (λ (xs ys : List ℕ). (xs ++ numbers new) ++ ys) (run_handles olds places.start (places.end - places.start)) (rest_handles olds places.last)
    ∙ sym (kept.is (numbers new) (omega arith))
