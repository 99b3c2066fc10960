use Rattle.std.proofs.Common.{◌≡◌, ◌≤◌, ◌+◌, ◌-◌, ◌/◌, ◌++◌, ℕ, flat_map, arith, subst}
use Rattle.std.specs.List.{range_with_len}
use Rattle.file_map.specs.Svg.{row_rect}
use Rattle.file_map.proofs.TextLemmas.{pushed_range}
use Rattle.file_map.proofs.svg.push_rects.Goals as goal

pub loop-row-preserved : goal.loop-row-preserved
loop-row-preserved c =
    let start = c.from-start.result in
    let a = start / 64 in
    let row = c.loop-row.row in
    let f = row_rect start (start + c.page_count.result) in
    let low : a ≤ row = c.loop-row.auto.row in
    let next : row - a + 1 ≡ row + 1 - a = omega (arith, low) in
    let at : a + (row - a) ≡ row = omega (arith, low) in
    subst (λ (n : ℕ). c.push_row_rect.new.out.items ≡ c.args.out.now.items ++ flat_map f (range_with_len a n)) next
    (pushed_range f a (row - a) row c.args.out.now.items c.loop-row.out.items c.push_row_rect.new.out.items at c.loop-row.invariant c.in_ok-push_row_rect.ensures)
