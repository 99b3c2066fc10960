-- Parts that begin and end with other bytes, between as many bytes in both, are no more bytes than any splice holds.
use Rattle.std.proofs.Common.{◌≡◌, ◌≢◌, ◌≤◌, ◌<◌, ◌+◌, ◌-◌, ◌++◌, ◌∙◌, ℕ, List, length, take, drop, get_or, sym, ap, inl, inr, append_assoc, length-append, length-drop, arith}
use Rattle.std.proofs.lemmas.Bool.{cases_lt}
use Rattle.std.proofs.lemmas.List.{get_or_append_left, get_or-append-add, get_or-take, get_or-drop, length-take-le}
use Rattle.chunk_edits.specs.Splicing.{Splice, Leads}

-- parts one after another
module _ (a b z : List ℕ) where
  whole : length (a ++ b ++ z) ≡ length a + length b + length z
  whole = omega (arith, length-append (a ++ b) z, length-append a b)

  -- the first byte of the part between
  at_first : 0 < length b → get_or (a ++ b ++ z) (length a) 0 ≡ get_or b 0 0
  at_first some =
      get_or_append_left (a ++ b) z 0 (length a) (omega (arith, some, length-append a b))
      ∙ ap (λ (i : ℕ). get_or (a ++ b) i 0) (let same : length a ≡ length a + 0 = omega arith in same) ∙ get_or-append-add a b 0 0

  -- its last one, by how many stand behind it
  at_last : (i : ℕ) → 0 < length b → i ≡ length (a ++ b ++ z) - length z - 1 → get_or (a ++ b ++ z) i 0 ≡ get_or b (length b - 1) 0
  at_last i some is =
      let place : i ≡ length a + (length b - 1) = omega (arith, some, is, whole) in
      ap (λ (j : ℕ). get_or (a ++ b ++ z) j 0) place
      ∙ get_or_append_left (a ++ b) z 0 (length a + (length b - 1)) (omega (arith, some, length-append a b)) ∙ get_or-append-add a b (length b - 1) 0

-- any splice from one region to another
module _ (x y : List ℕ) (t : Splice) (n : ℕ) (leads : Leads t x y n) where
  abbrev p : ℕ
  p = t.at

  abbrev behind : ℕ
  behind = t.at + length t.old

  abbrev q : ℕ
  q = length x - behind

  within : behind ≤ length x
  within = leads.stands.within

  y_is : y ≡ take p x ++ t.new ++ drop behind x
  y_is = sym leads.gives ∙ sym (append_assoc (take p x) t.new (drop behind x))

  before_long : length (take p x) ≡ p
  before_long = length-take-le p x (omega (arith, within))

  behind_long : length (drop behind x) ≡ q
  behind_long = length-drop behind x

  y_long : length y ≡ p + length t.new + q
  y_long = omega (arith, ap (λ (z : List ℕ). length z) y_is, whole (take p x) t.new (drop behind x), before_long, behind_long)

  -- what stands before the part is the same, and what stands behind it
  same_before : (i : ℕ) → i < p → get_or x i 0 ≡ get_or y i 0
  same_before i low =
      sym (ap (λ (z : List ℕ). get_or z i 0) (y_is ∙ append_assoc (take p x) t.new (drop behind x))
      ∙ get_or_append_left (take p x) (t.new ++ drop behind x) 0 i (omega (arith, low, before_long)) ∙ get_or-take p x i 0 low)

  same_behind : (k : ℕ) → k < q → get_or x (length x - k - 1) 0 ≡ get_or y (length y - k - 1) 0
  same_behind k low =
      let head : List ℕ = take p x ++ t.new in
      let place : length y - k - 1 ≡ length head + (q - k - 1) = omega (arith, low, y_long, before_long, length-append (take p x) t.new) in
      let here : behind + (q - k - 1) ≡ length x - k - 1 = omega (arith, low, within) in
      sym (ap (λ (i : ℕ). get_or y i 0) place ∙ ap (λ (z : List ℕ). get_or z (length head + (q - k - 1)) 0) y_is
      ∙ get_or-append-add head (drop behind x) (q - k - 1) 0 ∙ get_or-drop behind x (q - k - 1) 0 ∙ ap (λ (i : ℕ). get_or x i 0) here)

  module _ (front front′ gone come back back′ : List ℕ) (was : x ≡ front ++ gone ++ back) (becomes : y ≡ front′ ++ come ++ back′) (level : length front ≡ length front′) (even : length back ≡ length back′)
      (begins : 0 < length gone → 0 < length come → get_or gone 0 0 ≢ get_or come 0 0) (ends : 0 < length gone → 0 < length come → get_or gone (length gone - 1) 0 ≢ get_or come (length come - 1) 0) where
    x_long : length x ≡ length front + length gone + length back
    x_long = ap (λ (z : List ℕ). length z) was ∙ whole front gone back

    y_whole : length y ≡ length front + length come + length back
    y_whole = omega (arith, level, even, ap (λ (z : List ℕ). length z) becomes, whole front′ come back′)

    not_before : 0 < length gone → 0 < length come → length front < p → ⊥
    not_before old new low =
        begins old new
        (sym (ap (λ (z : List ℕ). get_or z (length front) 0) was ∙ at_first front gone back old)
        ∙ same_before (length front) low ∙ ap (λ (i : ℕ). get_or y i 0) level ∙ ap (λ (z : List ℕ). get_or z (length front′) 0) becomes ∙ at_first front′ come back′ new)

    not_behind : 0 < length gone → 0 < length come → length back < q → ⊥
    not_behind old new low =
        let i : ℕ = length x - length back - 1 in
        let j : ℕ = length y - length back - 1 in
        ends old new
        (sym (ap (λ (z : List ℕ). get_or z i 0) was ∙ at_last front gone back i old (ap (λ (z : List ℕ). length z - length back - 1) was))
        ∙ same_behind (length back) low
        ∙ (ap (λ (z : List ℕ). get_or z j 0) becomes ∙ at_last front′ come back′ j new (omega (arith, even, ap (λ (z : List ℕ). length z) becomes))))

    both : 0 < length gone → 0 < length come → length gone + length come ≤ n
    both old new =
        let before : p ≤ length front = elim (cases_lt (length front) p) as (λ _. p ≤ length front) [ inl low ↦ absurd (not_before old new low) | inr high ↦ high ] in
        let after : q ≤ length back = elim (cases_lt (length back) q) as (λ _. q ≤ length back) [ inl low ↦ absurd (not_behind old new low) | inr high ↦ high ] in
        omega (arith, before, after, x_long, y_whole, y_long, within, leads.holds)

    -- so no more stays by the splice
    pub least_between : length gone + length come ≤ n
    least_between = elim (cases_lt 0 (length gone)) as (λ _. length gone + length come ≤ n) [
      | inl old ↦ elim (cases_lt 0 (length come)) as (λ _. length gone + length come ≤ n) [
        | inl new ↦ both old new
        | inr none ↦ omega (arith, none, x_long, y_whole, y_long, within, leads.holds)
      ]
      | inr none ↦ omega (arith, none, x_long, y_whole, y_long, within, leads.holds)
    ]
