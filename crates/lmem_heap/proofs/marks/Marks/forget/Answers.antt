use Rattle.std.proofs.Common.{◌≡◌, ◌∷◌, [], ℕ, List, Some, false, true, not, ◌==◌, is_some, rules, refl, sym, ap, ◌∙◌, inl, inr}
use Rattle.std.proofs.lemmas.Bool.{cases_eq, cond-true, cond-false, eq-eqb, ne_eqb}
use Rattle.arrayvec.proofs.ArrayVecLemmas.{filter-from_retain}
use Rattle.lmem_heap.specs.Marks.{kind_in, without}
use Rattle.lmem_heap.specs.declared.marks.Mark.{Mark}
use Rattle.lmem_heap.proofs.marks.Marks.forget.Goals as goal

-- where a slot has no mark all marks are of others
unmarked : (ms : List Mark) (i : ℕ) → is_some (kind_in ms i) ≡ false → ms ≡ without i ms
unmarked [] i none = refl
unmarked (m ∷ ms) i none = elim (cases_eq m.slot i) [
  | inl own ↦ let some : true ≡ false = sym (ap is_some (cond-true (m.slot == i) (Some m.kind) (kind_in ms i) (eq-eqb m.slot i own))) ∙ none in cc
  | inr other ↦
      let later = unmarked ms i (sym (ap is_some (cond-false (m.slot == i) (Some m.kind) (kind_in ms i) (ne_eqb m.slot i other))) ∙ none) in
      ap (λ (l : List Mark). m ∷ l) later ∙ sym (cond-true (not (m.slot == i)) (m ∷ without i ms) (without i ms) (ap not (ne_eqb m.slot i other)))
]

pub returns-then-is_some : goal.returns-then-is_some
returns-then-is_some c = filter-from_retain _ _ _ (λ x b f' y called. search rules) _ _ c.retain.ensures.filtered

pub returns-else-is_some : goal.returns-else-is_some
returns-else-is_some c = unmarked c.args.self.now.list.items c.args.slot (sym (ap is_some c.kind_of.ensures) ∙ (sym c.is_some.ensures ∙ c.if-is_some.false))
