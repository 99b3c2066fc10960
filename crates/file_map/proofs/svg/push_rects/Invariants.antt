use Rattle.std.proofs.Common.{◌≡◌, ◌++◌, ◌-◌, ◌/◌, flat_map}
use Rattle.std.specs.List.{range_with_len}
use Rattle.file_map.specs.Svg.{row_rect}
use Rattle.file_map.proofs.svg.push_rects.Given as goal

abbrev pub invariant-loop-row : goal.invariant-loop-row
invariant-loop-row l = l.out.items ≡ l.fn.out.items ++ flat_map (row_rect l.start l.end) (range_with_len (l.start / 64) (l.row - l.start / 64))
