use Rattle.std.proofs.Common.{◌≡◌, ◌++◌, take, flat_map}
use Rattle.file_map.specs.Svg.{swatch}
use Rattle.file_map.specs.declared.pages.TheConstants.{LEGEND}
use Rattle.file_map.proofs.svg.push_swatches.Given as goal

abbrev pub invariant-loop-content : goal.invariant-loop-content
invariant-loop-content l = l.out.items ≡ l.fn.out.items ++ flat_map swatch (take l.content-index LEGEND)
