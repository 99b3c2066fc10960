-- In which pieces a run begins and ends.
use Rattle.std.proofs.Common.{◌≡◌, ℕ, suc, ◌-◌, ◌<◌, ◌≤◌, ◌==◌, nat_le, nat_lt, List, [], ◌∷◌, length, sym, ap, subst, inl, inr, leb-true, ltb-false, arith, refl, ◌+◌, ◌∙◌, false, ltb-true, true, leb-false}
use Rattle.std.proofs.lemmas.Bool.{cases_Bool, cond-true, cond-false, eqb-true, eqb-false, eq-eqb, le-leb}
use Rattle.geos_model.specs.Spread.{start_place, end_place, first_place}

-- They are pieces that there are.
pub start-low : (c : ℕ) (counts : List ℕ) (i : ℕ) → (start_place (c ∷ counts) i).0 ≤ length counts
start-low c [] i = omega arith
start-low c (next ∷ counts) i =
    let b = nat_lt i c in
    let low : ℕ × ℕ → Type 0 = λ at. at.0 ≤ length (next ∷ counts) in
    let rest = start-low next counts (i - c) in
    elim (cases_Bool b) [
      | inl here ↦ subst low (sym (cond-true b _ _ here)) (let least : 0 ≤ length (next ∷ counts) = omega arith in least)
      | inr past ↦ subst low (sym (cond-false b _ _ past)) (let more : suc (start_place (next ∷ counts) (i - c)).0 ≤ length (next ∷ counts) = omega arith in more)
    ]

pub end-low : (c : ℕ) (counts : List ℕ) (i : ℕ) → (end_place (c ∷ counts) i).0 ≤ length counts
end-low c [] i = omega arith
end-low c (next ∷ counts) i =
    let b = nat_le i c in
    let low : ℕ × ℕ → Type 0 = λ at. at.0 ≤ length (next ∷ counts) in
    let rest = end-low next counts (i - c) in
    elim (cases_Bool b) [
      | inl here ↦ subst low (sym (cond-true b _ _ here)) (let least : 0 ≤ length (next ∷ counts) = omega arith in least)
      | inr past ↦ subst low (sym (cond-false b _ _ past)) (let more : suc (end_place (next ∷ counts) (i - c)).0 ≤ length (next ∷ counts) = omega arith in more)
    ]

pub first-low : (c : ℕ) (counts : List ℕ) (i j : ℕ) → (first_place (c ∷ counts) i j).0 ≤ length counts
first-low c counts i j =
    let b = i == j in
    let low : ℕ × ℕ → Type 0 = λ at. at.0 ≤ length counts in
    elim (cases_Bool b) [
      | inl same ↦ subst low (sym (cond-true b _ _ same)) (end-low c counts i)
      | inr other ↦ subst low (sym (cond-false b _ _ other)) (start-low c counts i)
    ]

-- A run doesn't end before it begins.
pub start-end : (counts : List ℕ) (i j : ℕ) → i < j → (start_place counts i).0 ≤ (end_place counts j).0
start-end [] i j less = omega arith
start-end (c ∷ []) i j less = omega arith
start-end (c ∷ next ∷ counts) i j less =
    let b = nat_lt i c in
    let e = nat_le j c in
    let last : ℕ = (end_place (c ∷ next ∷ counts) j).0 in
    let low : ℕ × ℕ → Type 0 = λ at. at.0 ≤ last in
    elim (cases_Bool b) [
      | inl here ↦ subst low (sym (cond-true b _ _ here)) (let least : 0 ≤ last = omega arith in least)
      | inr past ↦
          (let from : c ≤ i = ltb-false i c past in
          let start : ℕ = suc (start_place (next ∷ counts) (i - c)).0 in
          let rest = start-end (next ∷ counts) (i - c) (j - c) (omega arith) in
          let there : start ≤ suc (end_place (next ∷ counts) (j - c)).0 = omega arith in
          let behind : start ≤ last = elim (cases_Bool e) [
            | inl within ↦ (let most = leb-true j c within in absurd (omega arith))
            | inr beyond ↦ subst (λ (at : ℕ × ℕ). start ≤ at.0) (sym (cond-false e _ _ beyond)) there
          ] in
          subst low (sym (cond-false b _ _ past)) behind)
    ]

pub first-end : (counts : List ℕ) (i j : ℕ) → i ≤ j → (first_place counts i j).0 ≤ (end_place counts j).0
first-end counts i j most =
    let b = i == j in
    let low : ℕ × ℕ → Type 0 = λ at. at.0 ≤ (end_place counts j).0 in
    elim (cases_Bool b) [
      | inl same ↦
          (let is : i ≡ j = eqb-true i j same in
          let place : (end_place counts i).0 ≡ (end_place counts j).0 = ap (λ (n : ℕ). (end_place counts n).0) is in
          subst low (sym (cond-true b _ _ same)) (omega arith))
      | inr other ↦
          (let differ = eqb-false i j other in let less : i < j = omega arith in subst low (sym (cond-false b _ _ other)) (start-end counts i j less))
    ]

-- A run of no element or of one begins in the piece in which it ends.
pub first-end_none : (counts : List ℕ) (i : ℕ) → (first_place counts i i).0 ≡ (end_place counts i).0
first-end_none counts i = ap (λ (at : ℕ × ℕ). at.0) (cond-true (i == i) (end_place counts i) (start_place counts i) (eq-eqb i i refl))

pub start-end_one : (counts : List ℕ) (i : ℕ) → (start_place counts i).0 ≡ (end_place counts (i + 1)).0
start-end_one [] i = refl
start-end_one (c ∷ []) i = refl
start-end_one (c ∷ next ∷ counts) i =
    let cs : List ℕ = next ∷ counts in
    let later : ℕ × ℕ = start_place cs (i - c) in
    let end : ℕ × ℕ = end_place cs (i + 1 - c) in
    elim (cases_Bool (nat_lt i c)) [
      | inl here ↦
          (let low = ltb-true i c here in
          let within : nat_le (i + 1) c ≡ true = le-leb (i + 1) c (omega arith) in
          ap (λ (at : ℕ × ℕ). at.0) (cond-true (nat_lt i c) (0, i) (suc later.0, later.1) here)
          ∙ sym (ap (λ (at : ℕ × ℕ). at.0) (cond-true (nat_le (i + 1) c) (0, i + 1) (suc end.0, end.1) within)))
      | inr past ↦
          (let from = ltb-false i c past in
          let shift : i + 1 - c ≡ i - c + 1 = omega arith in
          let rest : later.0 ≡ end.0 = start-end_one (next ∷ counts) (i - c) ∙ ap (λ (n : ℕ). (end_place cs n).0) (sym shift) in
          ap (λ (at : ℕ × ℕ). at.0) (cond-false (nat_lt i c) (0, i) (suc later.0, later.1) past) ∙ ap suc rest
          ∙ sym (ap (λ (at : ℕ × ℕ). at.0) (cond-false (nat_le (i + 1) c) (0, i + 1) (suc end.0, end.1) (not_within (i + 1) c (omega arith)))))
    ]
  where
    not_within : (a b : ℕ) → b < a → nat_le a b ≡ false
    not_within a b less = elim (cases_Bool (nat_le a b)) [
      | inl most ↦ (let low = leb-true a b most in absurd (omega arith))
      | inr other ↦ other
    ]

pub first-end_one : (counts : List ℕ) (i : ℕ) → (first_place counts i (i + 1)).0 ≡ (end_place counts (i + 1)).0
first-end_one counts i = elim (cases_Bool (i == i + 1)) [
  | inl same ↦ (let never : i ≡ i + 1 = eqb-true i (i + 1) same in absurd (omega arith))
  | inr other ↦
      ap (λ (at : ℕ × ℕ). at.0) (cond-false (i == i + 1) (end_place counts i) (start_place counts i) other) ∙ start-end_one counts i
]

-- Where a run begins and ends in one piece, it doesn't end before it begins.
start-end_same : (counts : List ℕ) (i j : ℕ) → i < j → (start_place counts i).0 ≡ (end_place counts j).0 → (start_place counts i).1 ≤ (end_place counts j).1
start-end_same [] i j less = λ same. omega arith
start-end_same (c ∷ []) i j less = λ same. omega arith
start-end_same (c ∷ next ∷ counts) i j less =
    let start : ℕ × ℕ = start_place (next ∷ counts) (i - c) in
    let end : ℕ × ℕ = end_place (next ∷ counts) (j - c) in
    let ordered : ℕ × ℕ → ℕ × ℕ → Type 0 = λ x y. x.0 ≡ y.0 → x.1 ≤ y.1 in
    let s : ℕ × ℕ = start_place (c ∷ next ∷ counts) i in
    let e : ℕ × ℕ = end_place (c ∷ next ∷ counts) j in
    elim (cases_Bool (nat_lt i c)) [
      | inl here ↦ elim (cases_Bool (nat_le j c)) [
        | inl within ↦ both ordered (0, i) (0, j) s e (cond-true (nat_lt i c) (0, i) (suc start.0, start.1) here) (cond-true (nat_le j c) (0, j) (suc end.0, end.1) within) (λ same. omega arith)
        | inr beyond ↦ both ordered (0, i) (suc end.0, end.1) s e (cond-true (nat_lt i c) (0, i) (suc start.0, start.1) here) (cond-false (nat_le j c) (0, j) (suc end.0, end.1) beyond) (λ same. absurd (let never : 0 ≡ suc end.0 = same in omega arith))
      ]
      | inr past ↦ elim (cases_Bool (nat_le j c)) [
        | inl within ↦ (let low = leb-true j c within in let from = ltb-false i c past in absurd (omega arith))
        | inr beyond ↦
            (let more = leb-false j c beyond in
            let from = ltb-false i c past in
            both ordered (suc start.0, start.1) (suc end.0, end.1) s e (cond-false (nat_lt i c) (0, i) (suc start.0, start.1) past) (cond-false (nat_le j c) (0, j) (suc end.0, end.1) beyond)
            (λ same. start-end_same (next ∷ counts) (i - c) (j - c) (omega arith) (let less_one : suc start.0 ≡ suc end.0 = same in omega arith)))
      ]
    ]
  where
    both : (P : ℕ × ℕ → ℕ × ℕ → Type 0) (a b x y : ℕ × ℕ) → x ≡ a → y ≡ b → P a b → P x y
    both P a b x y is also holds = subst (λ (z : ℕ × ℕ). P z y) (sym is) (subst (P a) (sym also) holds)

pub first-end_same : (counts : List ℕ) (i j : ℕ) → i ≤ j → (first_place counts i j).0 ≡ (end_place counts j).0 → (first_place counts i j).1 ≤ (end_place counts j).1
first-end_same counts i j order same = elim (cases_Bool (i == j)) [
  | inl is ↦
      (let place : first_place counts i j ≡ end_place counts j =
      cond-true (i == j) (end_place counts i) (start_place counts i) is ∙ ap (end_place counts) (eqb-true i j is) in
      let second = ap (λ (at : ℕ × ℕ). at.1) place in
      omega arith)
  | inr other ↦
      (let differ = eqb-false i j other in
      let place : first_place counts i j ≡ start_place counts i = cond-false (i == j) (end_place counts i) (start_place counts i) other in
      subst (λ (at : ℕ × ℕ). at.0 ≡ (end_place counts j).0 → at.1 ≤ (end_place counts j).1) (sym place) (start-end_same counts i j (omega arith)) same)
]
