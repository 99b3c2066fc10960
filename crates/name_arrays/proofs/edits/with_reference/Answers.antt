use Rattle.std.proofs.Common.{◌≡◌, ◌+◌, ◌++◌, ◌==◌, not, ℕ, List, Bool, [], ◌∷◌, length, false, None, if◌then◌else◌, refl, sym, ap, ap₂, ◌∙◌, eq-eqb, ne_eqb}
use Rattle.std.proofs.lemmas.Bool.{cond-true, cond-false}
use Rattle.geos_model.specs.Refusal.{first_refusal}
use Rattle.geos_model.specs.ElementArray.{greatest_count}
use Rattle.geos_model.specs.ElementEdits.{with_element, count_at}
use Rattle.geos_model.specs.NameArray.{NameArray}
use Rattle.geos_model.specs.NameEdits.{part_at}
use Rattle.geos_model.specs.declared.fault.Fault.TheVariants.{CountFull, Range}
use Rattle.element_arrays.specs.Slotted.{Slotted, slotted_bytes}
use Rattle.element_arrays.proofs.SlottedLemmas.{slots_handed_on}
use Rattle.name_arrays.specs.Reading.{named_array}
use Rattle.name_arrays.specs.Referencing.{name_bytes_with_reference, name_reference_conditions}
use Rattle.name_arrays.proofs.NamingLemmas.{any_size, bytes_with}
use Rattle.name_arrays.proofs.edits.with_reference.Goals as goal
use Rattle.name_arrays.proofs.edits.with_reference.Goals.{then-replace, else-replace}

pub with_element-requires-clause-sized : goal.with_element-requires-clause-sized
with_element-requires-clause-sized c = any_size (named_array c.args.names.now.slots c.args.names.now.part) c.args.names.now.sound _

pub returns : goal.returns
returns c =
    let s : Slotted = c.args.names.now.slots in
    let a : NameArray = named_array s c.args.names.now.part in
    let t : ℕ = c.args.token.0 in
    let part : List ℕ = c.args.part.now in
    let count : (count_at a.names t == greatest_count) ≡ false = ne_eqb (count_at a.names t) greatest_count (λ e. c.if-old-eq-GREATEST_COUNT.false (sym c.in_ok-old.ensures.count ∙ e)) in
    let long : not (length part == a.part) ≡ false = ap not (eq-eqb (length part) a.part c.if-part-names.false) in
    let none : first_refusal (name_reference_conditions a part t) ≡ None = ap₂ (λ (x y : Bool). first_refusal ((CountFull, x) ∷ (Range, y) ∷ [])) count long in
    let head : c.if-replace.head.now ≡ (if c.args.replace then part else part_at a t) = elim c.if-replace.branch [
      | then-replace w ↦ ap (λ r. r.now) w.head-is ∙ sym (cond-true c.args.replace part (part_at a t) w.if-replace.true)
      | else-replace w ↦ ap (λ r. r.now) w.head-is ∙ sym c.in_ok-old.ensures.part ∙ sym (cond-false c.args.replace part (part_at a t) w.if-replace.false)
    ] in
    slots_handed_on (name_reference_conditions a part t) s (with_element s.slots t (c.in_ok-old.old.count + 1) (c.if-replace.head.now ++ c.in_ok-old.old.text.now)) (slotted_bytes s.more s.slots) (name_bytes_with_reference a part c.args.replace t) none refl
    (bytes_with s c.args.names.now.part c.args.names.now.more t _ _ _ _ (ap (λ (n : ℕ). n + 1) (sym c.in_ok-old.ensures.count)) (ap₂ (λ (x y : List ℕ). x ++ y) head (sym c.in_ok-old.ensures.text)))
    t c.with_element.result c.with_element.ensures
