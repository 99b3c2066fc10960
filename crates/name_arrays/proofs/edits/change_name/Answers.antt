use Rattle.std.proofs.Common.{◌≡◌, ◌++◌, ◌&&◌, ℕ, List, [], Bool, true, false, not, is_some, inr, refl, sym, ap, ap₂, ◌∙◌}
use Rattle.geos_model.specs.Bytes.{same_bytes}
use Rattle.geos_model.specs.ArrayEdits.{too_long}
use Rattle.geos_model.specs.ElementEdits.{with_element}
use Rattle.geos_model.specs.NameArray.{NameArray, is_name}
use Rattle.geos_model.specs.NameEdits.{change_name_conditions, name_changed, is_name_in_use, token_of_text, text_at}
use Rattle.element_arrays.specs.Slotted.{Slotted}
use Rattle.element_arrays.proofs.SlottedLemmas.{slots_handed_on}
use Rattle.name_arrays.specs.Reading.{named_array}
use Rattle.name_arrays.proofs.NamingLemmas.{any_size, some_found, not_in_use, own_name}
use Rattle.name_arrays.proofs.ReadingLemmas.{change_refusals, changed}
use Rattle.name_arrays.proofs.edits.change_name.Goals.{After-is_name}
use Rattle.name_arrays.proofs.edits.change_name.Goals as goal
use Rattle.name_arrays.proofs.edits.change_name.Goals.{else-ne-via-then-ne+else-is_some, else-ne-via-else-ne}

pub with_element-requires-clause-sized : goal.with_element-requires-clause-sized
with_element-requires-clause-sized c = any_size (named_array c.in_ok-names.names.slots c.in_ok-names.names.part) c.in_ok-names.names.sound _

-- no other token has the name
free : (c : After-is_name) → is_name_in_use (named_array c.in_ok-names.names.slots c.in_ok-names.names.part) c.args.token.0 c.args.name.now ≡ false
free c =
    let a : NameArray = named_array c.in_ok-names.names.slots c.in_ok-names.names.part in
    let t : ℕ = c.args.token.0 in
    let text : List ℕ = c.args.name.now in
    elim c.else-ne.branch [
      | else-ne-via-then-ne+else-is_some w ↦ not_in_use a t text (some_found _ _ w.find.ensures ∙ sym w.if-is_some.ensures)
      | else-ne-via-else-ne w ↦ own_name a t text (ap (λ (l : List ℕ). not (same_bytes l text)) c.in_ok-old.ensures.text ∙ sym w.if-ne.ensures)
    ]

pub returns-then-is_some : goal.returns-then-is_some
returns-then-is_some c =
    let bytes : List ℕ = c.args.bytes.now in
    let s : Slotted = c.in_ok-names.names.slots in
    let size : ℕ = c.in_ok-names.names.part in
    let a : NameArray = named_array s size in
    let t : ℕ = c.args.token.0 in
    let text : List ℕ = c.args.name.now in
    let there : is_some (token_of_text a text) ≡ true = some_found _ _ c.find.ensures ∙ sym c.if-is_some.ensures in
    let other : not (same_bytes (text_at a t) text) ≡ true = ap (λ (l : List ℕ). not (same_bytes l text)) c.in_ok-old.ensures.text ∙ sym c.if-ne.ensures in
    inr (change_refusals bytes s size c.in_ok-names.ensures t text true (not (is_name text)) c.in_ok-old.ensures.used (ap₂ (λ (x y : Bool). x && y) there other) refl (too_long (name_changed bytes t text)))

pub returns-then-not-is_name : goal.returns-then-not-is_name
returns-then-not-is_name c =
    let bytes : List ℕ = c.args.bytes.now in
    let t : ℕ = c.args.token.0 in
    let text : List ℕ = c.args.name.now in
    inr (change_refusals bytes c.in_ok-names.names.slots c.in_ok-names.names.part c.in_ok-names.ensures t text false true c.in_ok-old.ensures.used (free (goal.at.returns-then-not-is_name c).After-is_name) (ap not (sym c.if-not-is_name.ensures)) (too_long (name_changed bytes t text)))

pub returns : goal.returns
returns c =
    let bytes : List ℕ = c.args.bytes.now in
    let n = c.in_ok-names.names in
    let t : ℕ = c.args.token.0 in
    let text : List ℕ = c.args.name.now in
    let count : ℕ = c.in_ok-old.old.count in
    let part : List ℕ = c.in_ok-old.old.part.now in
    slots_handed_on (change_name_conditions bytes t text) n.slots (with_element n.slots.slots t count (part ++ text)) bytes (name_changed bytes t text)
    (change_refusals bytes n.slots n.part c.in_ok-names.ensures t text false false c.in_ok-old.ensures.used (free (goal.at.returns c).After-is_name) (ap not (sym c.if-not-is_name.ensures)) [])
    c.in_ok-names.ensures.same
    (changed bytes n.slots n.part c.in_ok-names.ensures n.more t count c.in_ok-old.ensures.count text part c.in_ok-old.ensures.part)
    t c.with_element.result c.with_element.ensures
