-- Pieces of which some elements are written over: as many in each as before, and others only where the run lies.
use Rattle.std.proofs.Common.{◌≡◌, ℕ, suc, ◌+◌, ◌-◌, ◌≤◌, nat_le, nat_lt, List, [], ◌∷◌, ◌++◌, length, take, drop, map, sum_by, refl, sym, ap, ap₂, subst, ◌∙◌, inl, inr, arith, append_assoc, length-append, length-drop, leb-true, leb-false, ltb-false, take_at, drop_at}
use Rattle.std.proofs.lemmas.Bool.{cases_Bool, cond-true, cond-false}
use Rattle.std.proofs.lemmas.List.{length-take, length-take-le, take-append-drop, take-append-le, drop-append-le, drop-drop, drop-take, drop_all}
use Rattle.std.proofs.lemmas.List.Sums.{sum_by-append}
use Rattle.std.specs.List.{splice}
use Rattle.geos_model.specs.Pieces.{BranchPiece, elements_in_pieces}
use Rattle.geos_model.specs.Spread.{start_place, end_place, cut_by}
use Rattle.geos_model.proofs.SpreadElements.{take_past, drop_past}

abbrev pub sum : List ℕ → ℕ
sum cs = sum_by (λ c. c) cs

pub sum-cons : (c : ℕ) (cs : List ℕ) → sum (c ∷ cs) ≡ c + sum cs
sum-cons c cs = (let step = sum_by-append (λ (x : ℕ). x) (c ∷ []) cs in omega arith)

-- how many elements pieces have
pub sum-lengths : (ps : List BranchPiece) → sum (map length ps) ≡ length (elements_in_pieces ps)
sum-lengths [] = refl
sum-lengths (p ∷ ps) =
    let step = sum-cons (length p) (map length ps) in
    let rest = sum-lengths ps in
    let all = length-append p (elements_in_pieces ps) in
    omega arith

-- Elements in pieces of so many.

pub cut_by-elements : (cs : List ℕ) (xs : BranchPiece) → sum cs ≡ length xs → elements_in_pieces (cut_by cs xs) ≡ xs
cut_by-elements [] [] all = refl
cut_by-elements [] (x ∷ xs) all = absurd (let never : 0 ≡ suc (length xs) = all in omega arith)
cut_by-elements (c ∷ cs) xs all =
    let step = sum-cons c cs in
    let rest = length-drop c xs in
    ap (λ (ys : BranchPiece). take c xs ++ ys) (cut_by-elements cs (drop c xs) (omega arith)) ∙ take-append-drop c xs

pub cut_by-lengths : (cs : List ℕ) (xs : BranchPiece) → sum cs ≡ length xs → map length (cut_by cs xs) ≡ cs
cut_by-lengths [] xs all = refl
cut_by-lengths (c ∷ cs) xs all =
    let step = sum-cons c cs in
    let rest = length-drop c xs in
    ap₂ (λ (n : ℕ) (ns : List ℕ). n ∷ ns) (length-take-le c xs (omega arith)) (cut_by-lengths cs (drop c xs) (omega arith))

pub cut_by-same : (ps : List BranchPiece) → cut_by (map length ps) (elements_in_pieces ps) ≡ ps
cut_by-same [] = refl
cut_by-same (p ∷ ps) =
    ap₂ (λ (x : BranchPiece) (xs : BranchPiece). x ∷ cut_by (map length ps) xs) (take_at p (elements_in_pieces ps) (length p) refl) (drop_at p (elements_in_pieces ps) (length p) refl)
    ∙ ap (λ (qs : List BranchPiece). p ∷ qs) (cut_by-same ps)

-- from a place on, over two lists
drop_over : (n : ℕ) (xs ys : BranchPiece) → drop n (xs ++ ys) ≡ drop n xs ++ drop (n - length xs) ys
drop_over n xs ys = elim (cases_Bool (nat_le n (length xs))) [
  | inl within ↦
      (let low = leb-true n (length xs) within in
      let none : n - length xs ≡ 0 = omega arith in
      drop-append-le n xs ys low ∙ ap (λ (k : ℕ). drop n xs ++ drop k ys) (sym none))
  | inr past ↦
      (let more = leb-false n (length xs) past in
      drop_past xs ys n (omega arith) ∙ ap (λ (zs : BranchPiece). zs ++ drop (n - length xs) ys) (sym (drop_all n xs (omega arith))))
]

-- of what was taken from a list
drop_taken : (n m : ℕ) (xs : BranchPiece) → drop n (take m xs) ≡ take (m - n) (drop n xs)
drop_taken n m xs = elim (cases_Bool (nat_le n m)) [
  | inl within ↦
      (let low = leb-true n m within in
      let all : m ≡ n + (m - n) = omega arith in
      ap (λ (k : ℕ). drop n (take k xs)) all ∙ drop-take n (m - n) xs)
  | inr past ↦
      (let more = leb-false n m past in
      let long = length-take m xs in
      let none : m - n ≡ 0 = omega arith in
      drop_all n (take m xs) (omega arith) ∙ ap (λ (k : ℕ). take k (drop n xs)) (sym none))
]

-- A run in a piece and in those behind it.
module _ (p rest : BranchPiece) (i j : ℕ) (new : BranchPiece) (run : j ≡ i + length new) (within : j ≤ length (p ++ rest)) where
  abbrev n : ℕ
  n = length p

  taken : length (take i (p ++ rest)) ≡ i
  taken = length-take-le i (p ++ rest) (omega arith)

  -- behind the piece stands the rest of the run
  pub splice-behind : n ≤ j → drop n (splice (p ++ rest) i j new) ≡ splice rest (i - n) (j - n) (drop (n - i) new)
  splice-behind low =
      let front : List (List ℕ) = take i (p ++ rest) in
      let long = taken in
      let past : n - i - length new ≡ 0 = omega arith in
      let sum : n + (j - n) ≡ j = omega arith in
      drop_over n front (new ++ drop j (p ++ rest))
      ∙ ap₂ (λ (xs : BranchPiece) (k : ℕ). xs ++ drop (n - k) (new ++ drop j (p ++ rest))) (drop_taken n i (p ++ rest) ∙ ap (take (i - n)) (drop_at p rest n refl)) long
      ∙ ap (λ (xs : BranchPiece). take (i - n) rest ++ xs) (drop_over (n - i) new (drop j (p ++ rest))
      ∙ ap₂ (λ (k m : ℕ). drop (n - i) new ++ drop k (drop m (p ++ rest))) past (sym sum)
      ∙ ap (λ (xs : BranchPiece). drop (n - i) new ++ xs) (sym (drop-drop (j - n) n (p ++ rest)) ∙ ap (drop (j - n)) (drop_at p rest n refl)))

  -- before the run stands the piece
  pub splice-before : n ≤ i → take n (splice (p ++ rest) i j new) ≡ p
  splice-before low =
      let long = taken in
      take-append-le n (take i (p ++ rest)) (new ++ drop j (p ++ rest)) (omega arith)
      ∙ ap (take n) (take_past p rest i low) ∙ take_at p (take (i - n) rest) n refl

  -- and behind the run, where it ends in the piece
  pub splice-after : j ≤ n → drop n (splice (p ++ rest) i j new) ≡ rest
  splice-after most =
      let long = length-append (take i (p ++ rest)) new in
      let front = taken in
      let all : length (take i (p ++ rest) ++ new) ≡ j = omega arith in
      let sum : j + (n - j) ≡ n = omega arith in
      ap (drop n) (sym (append_assoc (take i (p ++ rest)) new (drop j (p ++ rest))))
      ∙ drop_past (take i (p ++ rest) ++ new) (drop j (p ++ rest)) n (omega arith)
      ∙ ap (λ (k : ℕ). drop (n - k) (drop j (p ++ rest))) all
      ∙ drop-drop (n - j) j (p ++ rest) ∙ ap (λ (k : ℕ). drop k (p ++ rest)) sum ∙ drop_at p rest n refl

-- Pieces before the one in which the run begins stay.
pub overwritten-before : (ps : List BranchPiece) (i j : ℕ) (new : BranchPiece) → j ≡ i + length new → j ≤ length (elements_in_pieces ps)
    → take (start_place (map length ps) i).0 (cut_by (map length ps) (splice (elements_in_pieces ps) i j new)) ≡ take (start_place (map length ps) i).0 ps
overwritten-before [] i j new run within = refl
overwritten-before (p ∷ []) i j new run within = refl
overwritten-before (p ∷ q ∷ ps) i j new run within =
    let rest : BranchPiece = elements_in_pieces (q ∷ ps) in
    let cs : List ℕ = map length (q ∷ ps) in
    let n : ℕ = length p in
    let b = nat_lt i n in
    let later = start_place cs (i - n) in
    let all : BranchPiece = splice (p ++ rest) i j new in
    let same : ℕ × ℕ → Type 0 = λ at. take at.0 (cut_by (n ∷ cs) all) ≡ take at.0 (p ∷ q ∷ ps) in
    elim (cases_Bool b) [
      | inl here ↦ subst same (sym (cond-true b _ _ here)) refl
      | inr past ↦
          (let low : n ≤ i = ltb-false i n past in
          let long = length-append p rest in
          let none : n - i ≡ 0 = omega arith in
          let moved : drop n all ≡ splice rest (i - n) (j - n) new =
          splice-behind p rest i j new run within (omega arith) ∙ ap (λ (k : ℕ). splice rest (i - n) (j - n) (drop k new)) none in
          let more = overwritten-before (q ∷ ps) (i - n) (j - n) new (omega arith) (omega arith) in
          let cut : cut_by (n ∷ cs) all ≡ p ∷ cut_by cs (splice rest (i - n) (j - n) new) =
          ap₂ (λ (x : BranchPiece) (xs : BranchPiece). x ∷ cut_by cs xs) (splice-before p rest i j new run within low) moved in
          subst same (sym (cond-false b _ _ past)) (ap (take (suc later.0)) cut ∙ ap (λ (qs : List BranchPiece). p ∷ qs) more))
    ]

-- And those behind the one in which it ends.
pub overwritten-behind : (ps : List BranchPiece) (i j : ℕ) (new : BranchPiece) → j ≡ i + length new → j ≤ length (elements_in_pieces ps)
    → drop (suc (end_place (map length ps) j).0) (cut_by (map length ps) (splice (elements_in_pieces ps) i j new)) ≡ drop (suc (end_place (map length ps) j).0) ps
overwritten-behind [] i j new run within = refl
overwritten-behind (p ∷ []) i j new run within = refl
overwritten-behind (p ∷ q ∷ ps) i j new run within =
    let rest : BranchPiece = elements_in_pieces (q ∷ ps) in
    let cs : List ℕ = map length (q ∷ ps) in
    let n : ℕ = length p in
    let b = nat_le j n in
    let later = end_place cs (j - n) in
    let all : BranchPiece = splice (p ++ rest) i j new in
    let same : ℕ × ℕ → Type 0 = λ at. drop (suc at.0) (cut_by (n ∷ cs) all) ≡ drop (suc at.0) (p ∷ q ∷ ps) in
    elim (cases_Bool b) [
      | inl here ↦
          subst same (sym (cond-true b _ _ here))
          (ap (cut_by cs) (splice-after p rest i j new run within (leb-true j n here)) ∙ cut_by-same (q ∷ ps))
      | inr past ↦
          (let more = leb-false j n past in
          let long = length-append p rest in
          let left = length-drop (n - i) new in
          let behind = overwritten-behind (q ∷ ps) (i - n) (j - n) (drop (n - i) new) (omega arith) (omega arith) in
          let moved : drop n all ≡ splice rest (i - n) (j - n) (drop (n - i) new) = splice-behind p rest i j new run within (omega arith) in
          subst same (sym (cond-false b _ _ past)) (ap (λ (xs : BranchPiece). drop (suc later.0) (cut_by cs xs)) moved ∙ behind))
    ]
