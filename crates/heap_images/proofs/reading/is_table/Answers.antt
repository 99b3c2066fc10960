use Rattle.std.proofs.Common.{◌-◌, ◌*◌, length, sym, ◌∙◌, arith}
use Rattle.std.proofs.lemmas.Bool.{eqb-true, eq-eqb}
use Rattle.heap_images.proofs.PackedLemmas.{packed-total, unpacked}
use Rattle.heap_images.proofs.reading.is_table.Goals as goal

pub returns-then-slots-rest-clause-no : goal.returns-then-slots-rest-clause-no
returns-then-slots-rest-clause-no c = λ e t count is. let facts = packed-total c.args.slots c.args.rest.now t c.requires count is in absurd (omega (arith, facts.0))

pub returns-clause-yes : goal.returns-clause-yes
returns-clause-yes c = λ e.
    let xs = c.args.rest.now in let sum = eqb-true c.bytes_total.result (length xs - 2 * c.args.slots) e in
    record { whole = sym (unpacked c.args.slots xs (λ i. (c.type_inv.rest i).fits) (omega (arith, c.if-slots-rest.false)) (sym c.bytes_total.ensures ∙ sum)); short = c.requires }

pub returns-clause-no : goal.returns-clause-no
returns-clause-no c = λ e t count is.
    let xs = c.args.rest.now in let facts = packed-total c.args.slots xs t c.requires count is in
    let same = eq-eqb c.bytes_total.result (length xs - 2 * c.args.slots) (c.bytes_total.ensures ∙ facts.1) in
    absurd (cc)
