use Rattle.std.proofs.Common.{◌≡◌, ◌++◌, get_or, ap, ◌∙◌}
use Rattle.file_map.specs.Pages.{count, legend_line, content_number}
use Rattle.file_map.specs.declared.pages.Content.TheVariants.{Nothing}
use Rattle.file_map.specs.declared.pages.TheConstants.{LEGEND}
use Rattle.file_map.proofs.RowLemmas.{number_below}
use Rattle.file_map.proofs.TextLemmas.{pushed_take}
use Rattle.file_map.proofs.rows.push_legend.Goals as goal

pub loop-content-preserved : goal.loop-content-preserved
loop-content-preserved c =
    let ps = c.args.parts.now in
    let pages = c.args.pages in
    let i = c.loop-content.content-index in
    let x = get_or LEGEND i Nothing in
    let now = c.loop-content.out.items in
    let counted : get_or c.args.counts.now c.number.result 0 ≡ count ps pages (content_number x) = ap (λ k. get_or c.args.counts.now k 0) c.number.ensures ∙ c.requires.each (content_number x) (number_below x) in
    pushed_take (λ v. legend_line v (count ps pages (content_number v))) LEGEND i Nothing c.args.out.now.items now c.push_legend_line.new.out.items c.loop-content-test.true c.loop-content.invariant
    (c.in_ok-push_legend_line.ensures ∙ ap (λ n. now ++ legend_line x n) counted)
