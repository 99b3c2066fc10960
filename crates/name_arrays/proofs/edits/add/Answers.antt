use Rattle.std.proofs.Common.{◌≡◌, ◌||◌, ◌==◌, ℕ, List, Bool, true, not, length, inr, sym, ap, ap₂, eq-eqb, ne_eqb}
use Rattle.geos_model.specs.ArrayEdits.{too_long}
use Rattle.geos_model.specs.NameArray.{is_name}
use Rattle.geos_model.specs.NameEdits.{name_added}
use Rattle.element_arrays.proofs.SlottedLemmas.{carried}
use Rattle.name_arrays.specs.Reading.{named_array}
use Rattle.name_arrays.proofs.NamingLemmas.{any_size, found_name}
use Rattle.name_arrays.proofs.ReadingLemmas.{found_refused, found_replaced, token_found, new_refusals, new_handed_on}
use Rattle.name_arrays.proofs.edits.add.Goals as goal
use Rattle.name_arrays.proofs.edits.add.Goals.{then-not-is_name-via-then-not-is_name, then-not-is_name-via-else-not-is_name+then-part-names}

pub with_reference-requires : goal.with_reference-requires
with_reference-requires c =
    (found_name (named_array c.in_ok-names.names.slots c.in_ok-names.names.part) c.in_ok-names.names.sound c.in-Some.token.0 c.args.name.now (sym c.in-Some.ensures)).0

pub with_new-requires : goal.with_new-requires
with_new-requires c = any_size (named_array c.in_ok-names.names.slots c.in_ok-names.names.part) c.in_ok-names.names.sound _

pub returns-in_err-patch-in-Some : goal.returns-in_err-patch-in-Some
returns-in_err-patch-in-Some c =
    let n = c.in_ok-names.names in
    let fault = c.in_err-patch-in-Some.field-0.0 in
    carried c.from_residual-in_err-patch-in-Some.result _ _ fault c.from_residual-in_err-patch-in-Some.ensures.1
    (found_refused c.args.bytes.now n.slots n.part c.in_ok-names.ensures c.args.name.now c.args.part.now c.args.replace c.in-Some.token.0 (sym c.in-Some.ensures) n.sound fault c.in_err-patch-in-Some.ensures)

pub returns-in_ok-patch-in-Some : goal.returns-in_ok-patch-in-Some
returns-in_ok-patch-in-Some c =
    let n = c.in_ok-names.names in
    let found = sym c.in-Some.ensures in (
      found_replaced c.args.bytes.now n.slots n.part c.in_ok-names.ensures c.args.name.now c.args.part.now c.args.replace c.in-Some.token.0 found n.sound c.in_ok-patch-in-Some.patch c.in_ok-patch-in-Some.ensures,
      token_found c.args.bytes.now n.slots n.part c.in_ok-names.ensures c.args.name.now c.args.part.now c.args.replace c.in-Some.token.0 found,
    )

pub returns-then-not-is_name : goal.returns-then-not-is_name
returns-then-not-is_name c =
    let n = c.in_ok-names.names in
    let text : List ℕ = c.args.name.now in
    let part : List ℕ = c.args.part.now in
    let bad : (not (is_name text) || not (length part == n.part)) ≡ true = elim c.then-not-is_name.branch [
      | then-not-is_name-via-then-not-is_name w ↦ ap (λ (x : Bool). not x || not (length part == n.part)) (sym w.if-not-is_name.ensures)
      | then-not-is_name-via-else-not-is_name+then-part-names w ↦ ap₂ (λ (x y : Bool). not x || not y) (sym w.if-not-is_name.ensures) (ne_eqb (length part) n.part w.if-part-names.true)
    ] in
    inr (new_refusals c.args.bytes.now n.slots n.part c.in_ok-names.ensures n.more text part c.args.replace (sym c.in-None.ensures) true bad (too_long (name_added c.args.bytes.now text part c.args.replace)))

pub returns-else-part-names : goal.returns-else-part-names
returns-else-part-names c =
    let n = c.in_ok-names.names in
    let good = ap₂ (λ (x y : Bool). not x || not y) (sym c.if-not-is_name.ensures) (eq-eqb (length c.args.part.now) n.part c.if-part-names.false) in
    new_handed_on c.args.bytes.now n.slots n.part c.in_ok-names.ensures n.more c.args.name.now c.args.part.now c.args.replace (sym c.in-None.ensures) good c.with_new.result c.with_new.ensures
