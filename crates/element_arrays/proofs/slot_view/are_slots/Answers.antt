-- The tests are exact.
use Rattle.std.proofs.Common.{◌≡◌, ◌≤◌, ◌⊎◌, ◌&&◌, Bool, true, false, length, map, ℕ, List, ◌-◌, sym, ap, ap₂, ◌∙◌, arith, inl, inr, count_by}
use Rattle.std.proofs.lemmas.Bool.{cases_Bool, and_parts, and_cases, and_right, true≢false}
use Rattle.std.specs.List.{list_all}
use Rattle.geos_model.specs.Array.{Array}
use Rattle.geos_model.specs.Words.{word_at}
use Rattle.geos_model.specs.ElementArray.{slot_read}
use Rattle.element_arrays.specs.Tested.{is_freed, is_slot, is_slot_within, has_length, is_walk}
use Rattle.element_arrays.proofs.TestedLemmas.{slots_passed, slots_refused, within_split, within_passed, within_refused}
use Rattle.element_arrays.proofs.slot_view.are_slots.Goals as goal
use Rattle.element_arrays.proofs.slot_view.are_slots.Goals.{else-size-gt0-via-then-size-gt0+else-size-lt4, else-size-gt0-via-else-size-gt0}

-- both tests of each element, by the size that is read
split : (size n least most : ℕ) (xs : List (List ℕ)) (b : Bool) → size ≡ n → list_all (is_slot_within n least most) xs ≡ b → (list_all (is_slot size) xs && list_all (has_length least most) (map slot_read xs)) ≡ b
split size n least most xs b is all = sym (within_split size least most xs) ∙ ap (λ (k : ℕ). list_all (is_slot_within k least most) xs) is ∙ all

pub returns-then-bytes-extra : goal.returns-then-bytes-extra
returns-then-bytes-extra c =
    let a : Array = c.args.view.now.array in
    sym (within_refused c.args.extra c.args.least c.args.most a (slots_refused c.args.extra a c.args.view.now.few (λ long p. c.if-bytes-extra.true (ap length c.extra-bytes.ensures ∙ long))))

pub returns-then-size-lt4 : goal.returns-then-size-lt4
returns-then-size-lt4 c =
    let a : Array = c.args.view.now.array in
    sym (within_refused c.args.extra c.args.least c.args.most a (slots_refused c.args.extra a c.args.view.now.few (λ long p. let sized = p.sized in omega arith)))

pub returns-in-Some : goal.returns-in-Some
returns-in-Some c =
    let a : Array = c.args.view.now.array in
    let walk : c.is_walk.result ≡ is_walk (count_by is_freed a.elements) a.elements (word_at a.extra 0) =
    c.is_walk.ensures ∙ ap₂ (λ (n t : ℕ). is_walk n a.elements t) c.in-Some.ensures.1 (c.read_u16-first.ensures ∙ ap (λ (l : List ℕ). word_at l 0) c.extra-bytes.ensures) in
    let size : a.size - 3 ≡ c.saturating_sub.result = sym (c.saturating_sub.ensures ∙ ap (λ (n : ℕ). n - 3) c.element_size-size.ensures) in
    let both = and_parts (list_all (is_slot (a.size - 3)) a.elements) (list_all (has_length c.args.least c.args.most) (map slot_read a.elements)) (split _ _ c.args.least c.args.most a.elements true size c.in-Some.ensures.0) in
    let sized : (a.size ≡ 0) ⊎ (4 ≤ a.size) = elim c.else-size-gt0.branch [ else-size-gt0-via-then-size-gt0+else-size-lt4 w ↦ inr (omega arith) | else-size-gt0-via-else-size-gt0 w ↦ inl (omega arith) ] in
    let long : length a.extra ≡ c.args.extra = sym (ap length c.extra-bytes.ensures) ∙ c.if-bytes-extra.false in
    elim (cases_Bool c.is_walk.result) [
      | inl so ↦ so ∙ sym (within_passed c.args.extra c.args.least c.args.most a (slots_passed c.args.extra c.args.view.now c.requires.enough long (record { sized = sized; each = both.0; walk = sym walk ∙ so })) both.1)
      | inr other ↦ other ∙ sym (within_refused c.args.extra c.args.least c.args.most a (slots_refused c.args.extra a c.args.view.now.few (λ same p. absurd (true≢false (sym p.walk ∙ sym walk ∙ other)))))
    ]

pub returns-in-None : goal.returns-in-None
returns-in-None c =
    let a : Array = c.args.view.now.array in
    let size : a.size - 3 ≡ c.saturating_sub.result = sym (c.saturating_sub.ensures ∙ ap (λ (n : ℕ). n - 3) c.element_size-size.ensures) in
    let slots : Bool = list_all (is_slot (a.size - 3)) a.elements in
    let lengths : Bool = list_all (has_length c.args.least c.args.most) (map slot_read a.elements) in
    elim (and_cases slots lengths (split _ _ c.args.least c.args.most a.elements false size c.in-None.ensures)) [
      | inl other ↦ sym (within_refused c.args.extra c.args.least c.args.most a (slots_refused c.args.extra a c.args.view.now.few (λ long p. true≢false (sym p.each ∙ other))))
      | inr other ↦ sym (and_right _ lengths other)
    ]
