use Rattle.std.proofs.Common.{◌≡◌, ℕ, ◌+◌, ◌<◌, ◌≤◌, true, false, List, [], None, is_some, count_by, length, drop, get_or, refl, sym, ap, ap₂, ◌∙◌, arith, nat_le, le-leb, drop_of_length-le}
use Rattle.std.proofs.lemmas.Bool.{lt-leb}
use Rattle.geos_model.specs.ElementArray.{Slots}
use Rattle.geos_model.specs.ElementEdits.{used_from}
use Rattle.element_arrays.proofs.UsedLemmas.{elements_are, is_used_slot, from-free, count-free, from-used, count-used, get_or-behind}
use Rattle.element_arrays.proofs.look_ups.token_of_used.Goals.{then-is_some+else-left-eq0, else-is_some}
use Rattle.element_arrays.proofs.look_ups.token_of_used.Goals as goal

pub loop-i-preserved : goal.loop-i-preserved
loop-i-preserved c =
    let slots = c.in_ok-slots.slots.slots.slots in
    let i = c.loop-i.i in
    let within : i < length slots = omega (arith, c.len-i-end.ensures) in
    let used = is_used_slot c.element.result (get_or slots i None) c.is_some.result c.is_some.ensures c.element.ensures in
    elim c.if-is_some.branch [
      | then-is_some+else-left-eq0 w ↦ (
        ap (λ (n : ℕ). get_or (used_from (i + 1) (drop (i + 1) slots)) n 0) w.left-is
            ∙ sym (get_or-behind i (used_from (i + 1) (drop (i + 1) slots)) c.loop-i.left (omega (arith, w.if-left-eq0.false)))
            ∙ ap (λ (l : List ℕ). get_or l c.loop-i.left 0) (sym (from-used slots i within (used ∙ w.if-is_some.true))) ∙ c.loop-i.invariant.0,
        let one = count-used slots i within (used ∙ w.if-is_some.true) in omega (arith, one, w.left-is, w.if-left-eq0.false, c.loop-i.invariant.1),
      )
      | else-is_some w ↦ (
        ap (λ (n : ℕ). get_or (used_from (i + 1) (drop (i + 1) slots)) n 0) w.left-is
            ∙ ap (λ (l : List ℕ). get_or l c.loop-i.left 0) (sym (from-free slots i within (used ∙ w.if-is_some.false))) ∙ c.loop-i.invariant.0,
        let free = count-free slots i within (used ∙ w.if-is_some.false) in omega (arith, free, w.left-is, c.loop-i.invariant.1),
      )
    ]

pub returns : goal.returns
returns c =
    let slots = c.in_ok-slots.slots.slots.slots in
    let none : drop c.loop-i.i slots ≡ [] = drop_of_length-le slots {i = c.loop-i.i} (omega (arith, c.len-i-end.ensures, c.loop-i-test.false)) in
    let few : count_by is_some slots ≤ c.args.k = omega (arith, c.loop-i.invariant.1, ap (count_by is_some) none) in
    let no_such : nat_le (count_by is_some slots) c.args.k ≡ true = le-leb (count_by is_some slots) c.args.k few in
    rw (c.in_ok-slots.ensures.0, no_such) refl

pub returns-then-left-eq0 : goal.returns-then-left-eq0
returns-then-left-eq0 c =
    let s = c.in_ok-slots.slots in
    let slots = s.slots.slots in
    let i = c.loop-i.i in
    let within : i < length slots = omega (arith, c.len-i-end.ensures) in
    let used = is_used_slot c.element.result (get_or slots i None) c.is_some.result c.is_some.ensures c.element.ensures ∙ c.if-is_some.true in
    let one = count-used slots i within used in
    let more : c.args.k < count_by is_some slots = omega (arith, one, c.if-left-eq0.true, c.loop-i.invariant.1) in
    let such : nat_le (count_by is_some slots) c.args.k ≡ false = lt-leb (count_by is_some slots) c.args.k more in
    let first : i ≡ get_or (used_from i (drop i slots)) c.loop-i.left 0 = ap₂ (λ (l : List ℕ) (n : ℕ). get_or l n 0) (sym (from-used slots i within used)) (sym c.if-left-eq0.true) in
    record {
      accepted = rw (c.in_ok-slots.ensures.0, such) refl;
      same = first ∙ c.loop-i.invariant.0 ∙ ap (λ (x : Slots). get_or (used_from 0 x.slots) c.args.k 0) (sym (elements_are c.args.bytes.now s c.in_ok-slots.ensures));
    }
