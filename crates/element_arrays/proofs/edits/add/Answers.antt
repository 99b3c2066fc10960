use Rattle.std.proofs.Common.{ℕ, List, [], ◌++◌, refl, sym, ap, ◌∙◌, append-nil}
use Rattle.geos_model.specs.ArrayEdits.{is_missized}
use Rattle.geos_model.specs.ElementEdits.{element_added, token_added, with_new, add_conditions}
use Rattle.geos_model.specs.declared.fault.Fault.TheVariants.{NotArray, Range}
use Rattle.element_arrays.proofs.UsedLemmas.{new-accepted, new-missized, equal-refused, equal-replaced, equal-token, new-bytes, new-token}
use Rattle.element_arrays.proofs.SlottedLemmas.{carried, refuses_own, token_handed_on, carried_own}
use Rattle.element_arrays.proofs.edits.add.Goals as goal

pub returns-in_err-slots : goal.returns-in_err-slots
returns-in_err-slots c =
    carried_own c.from_residual.result _ (add_conditions c.args.bytes.now c.args.element.now) _ NotArray c.in_err-slots.field-0.0 c.from_residual.ensures.1 c.in_err-slots.ensures.0 refl (rw c.in_err-slots.ensures.1 refl)

pub returns-in_err-patch-in-Some : goal.returns-in_err-patch-in-Some
returns-in_err-patch-in-Some c =
    let fault = c.in_err-patch-in-Some.field-0.0 in
    carried c.from_residual-in_err-patch-in-Some.result _ _ fault c.from_residual-in_err-patch-in-Some.ensures.1
    (equal-refused c.args.bytes.now c.args.element.now c.in_ok-slots.slots c.in_ok-slots.ensures c.in-Some.token.0 (sym c.in-Some.ensures) fault c.in_err-patch-in-Some.ensures)

pub returns-in_ok-patch-in-Some : goal.returns-in_ok-patch-in-Some
returns-in_ok-patch-in-Some c =
    let s = c.in_ok-slots.slots in
    let read = c.in_ok-slots.ensures in
    let found = sym c.in-Some.ensures in (
      equal-replaced c.args.bytes.now c.args.element.now s read c.in-Some.token.0 found c.in_ok-patch-in-Some.patch c.in_ok-patch-in-Some.ensures,
      equal-token c.args.bytes.now c.args.element.now s read c.in-Some.token.0 found,
    )

pub returns-then-is_missized : goal.returns-then-is_missized
returns-then-is_missized c =
    refuses_own (add_conditions c.args.bytes.now c.args.element.now) _ Range Range refl refl
    (new-missized c.args.bytes.now c.args.element.now c.in_ok-slots.slots c.in_ok-slots.ensures (sym c.in-None.ensures) (ap (λ (n : ℕ). is_missized n c.args.element.now) (sym c.element_size.ensures) ∙ sym c.is_missized.ensures ∙ c.if-is_missized.true))

pub with_new-requires : goal.with_new-requires
with_new-requires c =
    ap (is_missized c.in_ok-slots.slots.slots.size) (append-nil c.args.element.now) ∙ ap (λ (n : ℕ). is_missized n c.args.element.now) (sym c.element_size.ensures) ∙ sym c.is_missized.ensures ∙ c.if-is_missized.false

pub returns-else-is_missized : goal.returns-else-is_missized
returns-else-is_missized c =
    let bytes : List ℕ = c.args.bytes.now in
    let element : List ℕ = c.args.element.now in
    let s = c.in_ok-slots.slots in
    let read = c.in_ok-slots.ensures in
    let none = sym c.in-None.ensures in
    let fits = ap (λ (n : ℕ). is_missized n c.args.element.now) (sym c.element_size.ensures) ∙ sym c.is_missized.ensures ∙ c.if-is_missized.false in
    token_handed_on (add_conditions bytes element) s (with_new s.slots (element ++ [])).0 bytes (element_added bytes element)
    (new-accepted bytes element s read none fits) read.1 (new-bytes bytes element s read none)
    c.with_new.result (token_added bytes element) _ (new-token bytes element s read none) c.with_new.ensures
