use Rattle.std.proofs.Common.{◌≡◌, ◌-◌, length, take, vec_len, sym, ap, ◌∙◌, arith}
use Rattle.packed_log.specs.Rows.{Row}
use Rattle.packed_log.proofs.RowLemmas.{between, lowered}
use Rattle.packed_log.proofs.row.Row.take_dead_away.Goals as goal

pub returns-then-self-live-clause-before : goal.returns-then-self-live-clause-before
returns-then-self-live-clause-before g c =
    let p = c.self.inside in let xs = p.items.items in
    let long : vec_len p.items ≡ length xs = omega arith in
    let live : c.len.result - p.dead ≡ length xs - p.dead = ap (λ n. n - p.dead) (c.len.ensures ∙ long) in
    ap (take (p.cursor - p.dead)) (lowered p.dead p.cursor xs c.self.invariant.0 (omega (arith, c.self.invariant.1, long)) (c.len.result - p.dead) c.rotate_left.new.self.items c.truncate.new.self.items live c.rotate_left.ensures.items c.truncate.ensures.items)
    ∙ sym (between p.dead p.cursor xs c.self.invariant.0) ∙ ap (λ (r : Row g.row.T.Denot). r.before) c.self.view_is
