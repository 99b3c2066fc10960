-- Four bytes as a handle, by what each counts for in the table of digits.
use Rattle.std.proofs.Common.{◌≡◌, ℕ, ◌+◌, ◌*◌, ◌<◌, true, [], ◌∷◌, Some, None, Result, Ok, Err, refl, sym, ap, ◌∙◌, inl, inr, arith}
use Rattle.std.specs.Result.{OkIff, result_ok}
use Rattle.std.proofs.lemmas.Bool.{cases_Bool}
use Rattle.std.proofs.lemmas.List.Sums.{AllPass-from_list_all}
use Rattle.hex.specs.Hex.{is_hex_digit}
use Rattle.geos_model.specs.Script.{handle}
use Rattle.geos_script.proofs.Digits.{counted, counted_digit, counted_other, few, pair_valued, value}
use Rattle.geos_script.proofs.Spelling.{handle-refused, handle-spelled}

-- four digits' values, one behind another
abbrev number_of : ℕ → ℕ → ℕ → ℕ → ℕ
number_of p q r s = 16 * (16 * (16 * p + q) + r) + s

same_number : (p q r s v w x y : ℕ) → p ≡ v → q ≡ w → r ≡ x → s ≡ y → 256 * (v * 16 + w) + (x * 16 + y) ≡ number_of p q r s
same_number p q r s v w x y ep eq er es = omega arith

small_number : (p q r s : ℕ) → p < 16 → q < 16 → r < 16 → s < 16 → number_of p q r s < 65536
small_number p q r s fp fq fr fs = omega arith

-- what counts for little is a digit
digit_counted : (x n : ℕ) → n ≡ counted x → n < 65536 → is_hex_digit x ≡ true
digit_counted x n is small =
    elim (cases_Bool (is_hex_digit x)) [
      | inl digit ↦ digit
      | inr other ↦ let much : n ≡ 65536 = is ∙ counted_other x other in absurd (omega (arith, much))
    ]

-- and a digit counts for its value
value_counted : (x n : ℕ) → n ≡ counted x → is_hex_digit x ≡ true → n ≡ value x
value_counted x n is digit = is ∙ counted_digit x digit

few_counted : (x n : ℕ) → n ≡ counted x → is_hex_digit x ≡ true → n < 16
few_counted x n is digit = rw (value_counted x n is digit) (few x digit)

module _ (a b c d p q r s : ℕ) (is_a : p ≡ counted a) (is_b : q ≡ counted b) (is_c : r ≡ counted c) (is_d : s ≡ counted d) where
  spelled_by : number_of p q r s < 65536 → handle (a ∷ b ∷ c ∷ d ∷ []) ≡ Some (number_of p q r s)
  spelled_by small =
      let da = digit_counted a p is_a (omega arith) in
      let db = digit_counted b q is_b (omega arith) in
      let dc = digit_counted c r is_c (omega arith) in
      let dd = digit_counted d s is_d (omega arith) in
      handle-spelled (a ∷ b ∷ c ∷ d ∷ []) _ _ refl (pair_valued a b 0 da db) (pair_valued c d 2 dc dd)
      ∙ ap Some (same_number p q r s _ _ _ _ (value_counted a p is_a da) (value_counted b q is_b db) (value_counted c r is_c dc) (value_counted d s is_d dd))

  refused_by : (number_of p q r s < 65536 → ⊥) → handle (a ∷ b ∷ c ∷ d ∷ []) ≡ None
  refused_by large = handle-refused (a ∷ b ∷ c ∷ d ∷ []) (λ four digits.
      let all = AllPass-from_list_all is_hex_digit (a ∷ b ∷ c ∷ d ∷ []) digits in
      large (small_number p q r s (few_counted a p is_a (all 0 0 (omega arith))) (few_counted b q is_b (all 1 0 (omega arith)))
      (few_counted c r is_c (all 2 0 (omega arith))) (few_counted d s is_d (all 3 0 (omega arith)))))

  -- what the four count for is the handle, where it is one of two bytes
  pub handle-tried : {E : Type 0} (t : Result ℕ E) → OkIff t (number_of p q r s < 65536) (number_of p q r s)
      → result_ok t ≡ handle (a ∷ b ∷ c ∷ d ∷ [])
  handle-tried (Ok x) h = ap Some h.1 ∙ sym (spelled_by h.0)
  handle-tried (Err e) h = sym (refused_by h)
