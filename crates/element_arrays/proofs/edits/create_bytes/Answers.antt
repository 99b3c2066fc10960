use Rattle.std.proofs.Common.{◌≡◌, ℕ, ◌+◌, ◌==◌, ◌∷◌, [], List, false, nat_lt, if◌then◌else◌, refl, sym, ap, ◌∙◌, le-ltb, ne_eqb, eq-eqb}
use Rattle.std.proofs.lemmas.Bool.{cond-true, cond-false}
use Rattle.geos_model.specs.Array.{array_bytes}
use Rattle.geos_model.specs.ElementArray.{element_bytes, slots_array}
use Rattle.geos_model.specs.ElementEdits.{no_slots}
use Rattle.element_arrays.proofs.edits.create_bytes.Goals.{then-size-eq0, else-size-eq0}
use Rattle.element_arrays.proofs.edits.create_bytes.Goals as goal

abbrev with_size : ℕ → List ℕ
with_size n = array_bytes (record { extra = 0xFF ∷ 0xFF ∷ []; size = n; elements = [] })

is_created : (size : ℕ) → with_size (if size == 0 then 0 else size + 3) ≡ element_bytes (no_slots size)
unfolding element_bytes slots_array
is_created size = refl

pub returns : goal.returns
returns c =
    let size : ℕ = c.args.size in
    let small : nat_lt 4096 size ≡ false = le-ltb 4096 size c.if-size-gt-GREATEST_SIZE.false in
    let slot_size : c.if-size-eq0.slot_size ≡ (if size == 0 then 0 else size + 3) = elim c.if-size-eq0.branch [
      | then-size-eq0 w ↦ w.slot_size-is ∙ sym (cond-true (size == 0) 0 (size + 3) (eq-eqb size 0 w.if-size-eq0.true))
      | else-size-eq0 w ↦ w.slot_size-is ∙ sym (cond-false (size == 0) 0 (size + 3) (ne_eqb size 0 w.if-size-eq0.false))
    ] in
    (rw small refl, c.in_ok-empty_bytes.ensures ∙ ap with_size slot_size ∙ is_created size)
