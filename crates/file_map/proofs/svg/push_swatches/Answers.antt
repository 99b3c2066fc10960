use Rattle.file_map.specs.Svg.{swatch}
use Rattle.file_map.specs.declared.pages.Content.TheVariants.{Nothing}
use Rattle.file_map.specs.declared.pages.TheConstants.{LEGEND}
use Rattle.file_map.proofs.TextLemmas.{pushed_take}
use Rattle.file_map.proofs.svg.push_swatches.Goals as goal

pub loop-content-preserved : goal.loop-content-preserved
loop-content-preserved c =
    pushed_take swatch LEGEND c.loop-content.content-index Nothing _ c.loop-content.out.items c.push_swatch.new.out.items c.loop-content-test.true c.loop-content.invariant c.in_ok-push_swatch.ensures
