use Rattle.std.proofs.Common.{ℕ, List, [], ◌++◌, true, false, not, length, inr, ap, eq-eqb, ne_eqb}
use Rattle.geos_model.specs.ArrayEdits.{too_long}
use Rattle.geos_model.specs.ElementEdits.{with_element}
use Rattle.geos_model.specs.NameEdits.{set_part_conditions, name_part_set}
use Rattle.element_arrays.proofs.SlottedLemmas.{slots_handed_on}
use Rattle.name_arrays.specs.Reading.{named_array}
use Rattle.name_arrays.proofs.NamingLemmas.{any_size}
use Rattle.name_arrays.proofs.ReadingLemmas.{part_refusals, part_set}
use Rattle.name_arrays.proofs.edits.set_part.Goals as goal

pub with_element-requires-clause-sized : goal.with_element-requires-clause-sized
with_element-requires-clause-sized c = any_size (named_array c.in_ok-names.names.slots c.in_ok-names.names.part) c.in_ok-names.names.sound _

pub returns-then-part-names : goal.returns-then-part-names
returns-then-part-names c =
    let bytes : List ℕ = c.args.bytes.now in
    let n = c.in_ok-names.names in
    let t : ℕ = c.args.token.0 in
    let part : List ℕ = c.args.part.now in
    inr (part_refusals bytes n.slots n.part c.in_ok-names.ensures t part true c.in_ok-old.ensures.used (ap not (ne_eqb (length part) n.part c.if-part-names.true)) (too_long (name_part_set bytes t part)))

pub returns : goal.returns
returns c =
    let bytes : List ℕ = c.args.bytes.now in
    let n = c.in_ok-names.names in
    let t : ℕ = c.args.token.0 in
    let count : ℕ = c.in_ok-old.old.count in
    let part : List ℕ = c.args.part.now in
    let text : List ℕ = c.in_ok-old.old.text.now in
    slots_handed_on (set_part_conditions bytes t part) n.slots (with_element n.slots.slots t count (part ++ text)) bytes (name_part_set bytes t part)
    (part_refusals bytes n.slots n.part c.in_ok-names.ensures t part false c.in_ok-old.ensures.used (ap not (eq-eqb (length part) n.part c.if-part-names.false)) [])
    c.in_ok-names.ensures.same
    (part_set bytes n.slots n.part c.in_ok-names.ensures n.more t count c.in_ok-old.ensures.count part text c.in_ok-old.ensures.text)
    t c.with_element.result c.with_element.ensures
