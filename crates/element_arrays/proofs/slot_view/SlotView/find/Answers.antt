-- The loop goes over the tokens as they rise.
use Rattle.std.proofs.Common.{◌≡◌, ◌<◌, ℕ, List, Option, None, false, length, get_or, sym, ap, ◌∙◌, inl, inr}
use Rattle.std.proofs.lemmas.Bool.{cases_lt}
use Rattle.std.proofs.lemmas.Option.{MatchOption-at_none}
use Rattle.geos_model.specs.ElementArray.{Element}
use Rattle.element_arrays.specs.Tested.{NoneHas, has_bytes}
use Rattle.element_arrays.proofs.TestedLemmas.{position_at, position_none}
use Rattle.element_arrays.proofs.slot_view.SlotView.find.Goals as goal

-- no slot below one has the bytes, where none does below another, nor from there on
below : (slots : List (Option Element)) (from to skip : ℕ) (bytes : List ℕ) → ((k : ℕ) → k < from → has_bytes skip bytes (get_or slots k None) ≡ false)
    → NoneHas slots from to bytes → (k : ℕ) → k < to → has_bytes skip bytes (get_or slots k None) ≡ false
below slots from to skip bytes before none k up = elim (cases_lt k from) [
  | inl less ↦ before k less
  | inr more ↦ none k more up skip
]

pub returns-then-has_bytes : goal.returns-then-has_bytes
returns-then-has_bytes c =
    let slots : List (Option Element) = c.args.self.now.slots.slots in
    let found = c.in-Some.ensures in
    let none = below slots c.loop-i.from c.in-Some.i c.args.skip c.args.bytes.now c.loop-i.invariant.1 found.2 in
    let here = ap (has_bytes c.args.skip c.args.bytes.now) (sym c.slot.ensures.read) ∙ sym c.has_bytes.ensures ∙ c.if-has_bytes.true in
    sym (position_at (has_bytes c.args.skip c.args.bytes.now) slots c.in-Some.i None found.1 none here)

pub returns : goal.returns
returns c =
    let slots : List (Option Element) = c.args.self.now.slots.slots in
    let none = MatchOption-at_none _ _ c.in_default.is c.candidate.ensures in
    sym (position_none (has_bytes c.args.skip c.args.bytes.now) slots None
    (below slots c.loop-i.from (length slots) c.args.skip c.args.bytes.now c.loop-i.invariant.1 none))
