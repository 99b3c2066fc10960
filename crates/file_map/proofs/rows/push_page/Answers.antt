use Rattle.std.proofs.Common.{◌<◌, arith, ap, ◌∙◌}
use Rattle.file_map.specs.Pages.{content_number}
use Rattle.file_map.proofs.RowLemmas.{number_below, tally_more, tally_most}
use Rattle.file_map.proofs.rows.push_page.Goals as goal

pub overflow_add-counts : goal.overflow_add-counts
overflow_add-counts c =
    let few = number_below c.content_of-content.result in
    let below : c.number.result < 12 = omega (arith, few, c.number.ensures) in
    let most = tally_most c.args.parts.now c.args.page c.args.counts.now c.number.result c.requires.tally below in
    omega (arith, most, c.requires.below)

pub returns-clause-tally : goal.returns-clause-tally
returns-clause-tally c =
    let few = number_below c.content_of-content.result in
    let below : c.number.result < 12 = omega (arith, few, c.number.ensures) in
    tally_more c.args.parts.now c.args.page c.args.counts.now c.number.result c.requires.tally (c.number.ensures ∙ ap content_number c.content_of-content.ensures) below
