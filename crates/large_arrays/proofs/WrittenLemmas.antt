-- Elements that are written over, piece by piece.
use Rattle.std.proofs.Common.{◌≡◌, ℕ, zero, suc, ◌+◌, ◌-◌, ◌<◌, ◌≤◌, nat_le, List, [], ◌∷◌, ◌++◌, length, take, drop, map, get_or, refl, sym, ap, ap₂, ◌∙◌, inl, inr, arith, append_assoc, append-nil, length-append, length-drop, leb-true, leb-false, take_at, drop-drop}
use Rattle.std.proofs.Math.Seq.{take-append-add}
use Rattle.std.proofs.lemmas.Bool.{cases_Bool}
use Rattle.std.proofs.lemmas.List.{length-take-le, take_all, take-append-le, drop-append-le, drop_all, drop_more, drop-take}
use Rattle.std.specs.List.{splice, range_with_len}
use Rattle.geos_model.specs.Pieces.{BranchPiece, elements_in_pieces}
use Rattle.geos_model.specs.Spread.{cut_by, overwritten}
use Rattle.large_arrays.specs.WrittenPieces.{written_piece}
use Rattle.geos_model.proofs.OverwrittenPieces.{sum, sum-cons, cut_by-same, splice-behind, splice-before, splice-after}

-- The first piece.
module _ (p rest : BranchPiece) (i : ℕ) (new : BranchPiece) (within : i + length new ≤ length (p ++ rest)) where
  abbrev n : ℕ
  n = length p

  abbrev j : ℕ
  j = i + length new

  abbrev all : BranchPiece
  all = splice (p ++ rest) i j new

  -- what becomes of it, with no pieces before
  abbrev first : BranchPiece
  first = (take i p ++ take (n - i) new) ++ drop j p

  first_is : written_piece 0 p i new ≡ first
  first_is =
      let none : i - 0 ≡ i = omega arith in
      let start : 0 - i ≡ 0 = omega arith in
      let end : j - 0 ≡ j = omega arith in
      ap₂ (λ (a e : ℕ). (take a p ++ take (n - a) (drop (0 - i) new)) ++ drop e p) none end
      ∙ ap (λ (s : ℕ). (take i p ++ take (n - i) (drop s new)) ++ drop j p) start

  run_behind : n ≤ i → take n all ≡ first
  run_behind low =
      let none : 0 ≡ n - i = omega arith in
      splice-before p rest i j new refl within low
      ∙ sym (append-nil p) ∙ sym (append-nil (p ++ []))
      ∙ ap₂ (λ (xs ys : BranchPiece). (xs ++ []) ++ ys) (sym (take_all i p low)) (sym (drop_all j p (omega arith)))
      ∙ ap (λ (m : ℕ). (take i p ++ take m new) ++ drop j p) none

  -- where the run begins in it
  cut_run : i < n → take n all ≡ take i p ++ take (n - i) (new ++ drop j (p ++ rest))
  cut_run low =
      let front : List (List ℕ) = take i p in
      let long = length-take-le i p (omega arith) in
      let whole : n ≡ length front + (n - i) = omega arith in
      ap (λ (xs : BranchPiece). take n (xs ++ (new ++ drop j (p ++ rest)))) (take-append-le i p rest (omega arith))
      ∙ ap (λ (m : ℕ). take m (front ++ (new ++ drop j (p ++ rest)))) whole
      ∙ take-append-add front (new ++ drop j (p ++ rest)) (n - i)

  run_within : i < n → j ≤ n → take n all ≡ first
  run_within low most =
      let tail : BranchPiece = drop j p in
      let long = length-drop j p in
      let sum_is : n - i ≡ length new + (n - j) = omega arith in
      cut_run low
      ∙ ap (λ (m : ℕ). take i p ++ take m (new ++ drop j (p ++ rest))) sum_is
      ∙ ap (λ (xs : BranchPiece). take i p ++ xs) (take-append-add new (drop j (p ++ rest)) (n - j)
      ∙ ap (λ (xs : BranchPiece). new ++ take (n - j) xs) (drop-append-le j p rest most)
      ∙ ap (λ (xs : BranchPiece). new ++ xs) (take_at tail rest (n - j) (omega arith)))
      ∙ sym (append_assoc (take i p) new tail)
      ∙ ap (λ (xs : BranchPiece). (take i p ++ xs) ++ tail) (sym (take_all (n - i) new (omega arith)))

  run_beyond : i < n → n < j → take n all ≡ first
  run_beyond low more =
      cut_run low
      ∙ ap (λ (xs : BranchPiece). take i p ++ xs) (take-append-le (n - i) new (drop j (p ++ rest)) (omega arith))
      ∙ sym (append-nil (take i p ++ take (n - i) new))
      ∙ ap (λ (xs : BranchPiece). (take i p ++ take (n - i) new) ++ xs) (sym (drop_all j p (omega arith)))

  first_written : take n all ≡ written_piece 0 p i new
  first_written = elim (cases_Bool (nat_le n i)) [
    | inl behind ↦ run_behind (leb-true n i behind) ∙ sym first_is
    | inr here ↦
        (let low = leb-false n i here in
        elim (cases_Bool (nat_le j n)) [
          | inl most ↦ run_within low (leb-true j n most) ∙ sym first_is
          | inr more ↦ run_beyond low (leb-false j n more) ∙ sym first_is
        ])
  ]

-- A later piece, by what is left of the run behind the first one.
written_later : (n s : ℕ) (q : BranchPiece) (i : ℕ) (new : BranchPiece) → n ≤ i + length new
    → written_piece s q (i - n) (drop (n - i) new) ≡ written_piece (n + s) q i new
written_later n s q i new low =
    let left = length-drop (n - i) new in
    let a : i - n - s ≡ i - (n + s) = omega arith in
    let b : n - i + (s - (i - n)) ≡ n + s - i = omega arith in
    let c : i - n + length (drop (n - i) new) - s ≡ i + length new - (n + s) = omega arith in
    ap₂ (λ (x y : ℕ). (take x q ++ take (length q - x) (drop (s - (i - n)) (drop (n - i) new))) ++ drop y q) a c
    ∙ ap (λ (xs : BranchPiece). (take (i - (n + s)) q ++ take (length q - (i - (n + s))) xs) ++ drop (i + length new - (n + s)) q)
    (drop-drop (s - (i - n)) (n - i) new ∙ ap (λ (m : ℕ). drop m new) b)

taken_none : (m : ℕ) → take {A = List ℕ} m [] ≡ []
taken_none zero = refl
taken_none (suc m) = refl

-- one behind the run stays
written_behind : (s : ℕ) (q : BranchPiece) (i : ℕ) (new : BranchPiece) → i + length new ≤ s → written_piece s q i new ≡ q
written_behind s q i new past =
    let a : i - s ≡ 0 = omega arith in
    let c : i + length new - s ≡ 0 = omega arith in
    ap₂ (λ (x y : ℕ). (take x q ++ take (length q - x) (drop (s - i) new)) ++ drop y q) a c
    ∙ ap (λ (xs : BranchPiece). take (length q - 0) xs ++ q) (drop_all (s - i) new (omega arith))
    ∙ ap (λ (xs : BranchPiece). xs ++ q) (taken_none (length q - 0))

-- Each piece, by the piece that was there and how many elements are before it.
pub written-at : (ps : List BranchPiece) (i : ℕ) (new : BranchPiece) (k : ℕ) → k < length ps → i + length new ≤ length (elements_in_pieces ps)
    → get_or (cut_by (map length ps) (splice (elements_in_pieces ps) i (i + length new) new)) k [] ≡ written_piece (sum (take k (map length ps))) (get_or ps k []) i new
written-at [] i new k low within = absurd (omega arith)
written-at (p ∷ ps) i new zero low within = first_written p (elements_in_pieces ps) i new within
written-at (p ∷ ps) i new (suc k) low within =
    let rest : BranchPiece = elements_in_pieces ps in
    let cs : List ℕ = map length ps in
    let m : ℕ = length p in
    let q : BranchPiece = get_or ps k [] in
    let s : ℕ = sum (take k cs) in
    let whole = length-append p rest in
    let before : m + s ≡ sum (m ∷ take k cs) = sym (sum-cons m (take k cs)) in
    elim (cases_Bool (nat_le m (i + length new))) [
      | inl reaches ↦
          (let upto = leb-true m (i + length new) reaches in
          let left = length-drop (m - i) new in
          let end : i + length new - m ≡ i - m + length (drop (m - i) new) = omega arith in
          ap (λ (xs : BranchPiece). get_or (cut_by cs xs) k []) (splice-behind p rest i (i + length new) new refl within upto)
          ∙ ap (λ (e : ℕ). get_or (cut_by cs (splice rest (i - m) e (drop (m - i) new))) k []) end
          ∙ written-at ps (i - m) (drop (m - i) new) k (omega arith) (omega arith)
          ∙ written_later m s q i new upto
          ∙ ap (λ (b : ℕ). written_piece b q i new) before)
      | inr ends ↦
          (let more = leb-false m (i + length new) ends in
          ap (λ (xs : BranchPiece). get_or (cut_by cs xs) k []) (splice-after p rest i (i + length new) new refl within (omega arith))
          ∙ ap (λ (qs : List BranchPiece). get_or qs k []) (cut_by-same ps)
          ∙ sym (written_behind (m + s) q i new (omega arith))
          ∙ ap (λ (b : ℕ). written_piece b q i new) before)
    ]

pub written-piece : (ps : List BranchPiece) (i : ℕ) (new : BranchPiece) (k : ℕ) → k < length ps → i + length new ≤ length (elements_in_pieces ps)
    → get_or (overwritten ps i new) k [] ≡ written_piece (sum (take k (map length ps))) (get_or ps k []) i new
unfolding overwritten
written-piece ps i new k low within = written-at ps i new k low within

-- as many pieces as before
length-cut_by : (cs : List ℕ) (xs : BranchPiece) → length (cut_by cs xs) ≡ length cs
length-cut_by [] xs = refl
length-cut_by (c ∷ cs) xs = ap suc (length-cut_by cs (drop c xs))

pub length-overwritten : (ps : List BranchPiece) (i : ℕ) (new : BranchPiece) → length (overwritten ps i new) ≡ length (map length ps)
unfolding overwritten
length-overwritten ps i new = length-cut_by (map length ps) (splice (elements_in_pieces ps) i (i + length new) new)

-- Pieces from a place up to another, one by one.
run_places : (ps : List BranchPiece) (a n : ℕ) → a + n ≤ length ps → map (λ k. get_or ps k []) (range_with_len a n) ≡ take n (drop a ps)
run_places ps a zero within = refl
run_places ps a (suc n) within =
    ap (λ (qs : List BranchPiece). get_or ps a [] ∷ qs) (run_places ps (a + 1) n (omega arith))
    ∙ ap (take (suc n)) (sym (drop_more ps a [] (omega arith)))

pub run-pieces : (ps : List BranchPiece) (a b : ℕ) → a ≤ b → b ≤ length ps → drop a (take b ps) ≡ map (λ k. get_or ps k []) (range_with_len a (b - a))
run-pieces ps a b order within =
    let sum_is : b ≡ a + (b - a) = omega arith in
    ap (λ (k : ℕ). drop a (take k ps)) sum_is ∙ drop-take a (b - a) ps ∙ sym (run_places ps a (b - a) (omega arith))
