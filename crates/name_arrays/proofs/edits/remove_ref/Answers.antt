use Rattle.std.proofs.Common.{◌≡◌, ℕ, nat_le, false, arith}
use Rattle.std.proofs.lemmas.Bool.{lt-leb}
use Rattle.name_arrays.specs.Reading.{named_array}
use Rattle.name_arrays.proofs.NamingLemmas.{any_size}
use Rattle.name_arrays.proofs.ReadingLemmas.{removed_handed_on, last_reference, other_reference}
use Rattle.name_arrays.proofs.edits.remove_ref.Goals as goal

pub with_element-requires-clause-sized : goal.with_element-requires-clause-sized
with_element-requires-clause-sized c = any_size (named_array c.in_ok-names.names.slots c.in_ok-names.names.part) c.in_ok-names.names.sound _

pub returns-then-old-eq1 : goal.returns-then-old-eq1
returns-then-old-eq1 c =
    let n = c.in_ok-names.names in
    let old = c.in_ok-old.ensures in
    let last = last_reference c.args.bytes.now n.slots n.part c.in_ok-names.ensures n.more c.args.token.0 c.in_ok-old.old.count old.count c.if-old-eq1.true in
    removed_handed_on c.args.bytes.now n.slots n.part c.in_ok-names.ensures n.more c.args.token.0 c.in_ok-old.old.count old.count old.used _ last c.without_element.result c.without_element.ensures

pub returns-else-old-eq1 : goal.returns-else-old-eq1
returns-else-old-eq1 c =
    let n = c.in_ok-names.names in
    let count : ℕ = c.in_ok-old.old.count in
    let old = c.in_ok-old.ensures in
    let more : nat_le count 1 ≡ false = lt-leb count 1 (omega (arith, old.least, c.if-old-eq1.false)) in
    let other = other_reference c.args.bytes.now n.slots n.part c.in_ok-names.ensures n.more c.args.token.0 count old.count _ more old.bytes in
    removed_handed_on c.args.bytes.now n.slots n.part c.in_ok-names.ensures n.more c.args.token.0 count old.count old.used _ other c.with_element.result c.with_element.ensures
