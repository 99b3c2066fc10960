use Rattle.std.proofs.Common.{◌≡◌, ◌∙◌, ap, length, arith}
use Rattle.geos_model.specs.Array.{Array}
use Rattle.geos_model.specs.Words.{word_at}
use Rattle.name_arrays.proofs.ReadingLemmas.{other_extra, great_part}
use Rattle.name_arrays.proofs.names.part_size.Goals as goal

pub returns-then-extra-ne-EXTRA : goal.returns-then-extra-ne-EXTRA
returns-then-extra-ne-EXTRA c = other_extra c.args.view.now.array (λ long. c.if-extra-ne-EXTRA.true (ap length c.extra-extra.ensures ∙ long))

pub returns-else-part-le-GREATEST_PART : goal.returns-else-part-le-GREATEST_PART
returns-else-part-le-GREATEST_PART c =
    let a : Array = c.args.view.now.array in
    let number : c.part_in-part.result ≡ word_at a.extra 2 = c.part_in-part.ensures ∙ ap (λ l. word_at l 2) c.extra-extra.ensures in
    let great = c.if-part-le-GREATEST_PART.false in
    great_part a (omega (arith, number, great))
