use Rattle.std.proofs.Common.{◌≡◌, ◌-◌, ◌≤◌, length, take, drop, vec_len, sym, ap, subst, ◌∙◌, arith}
use Rattle.packed_log.specs.Rows.{Row, last_of}
use Rattle.packed_log.proofs.RowLemmas.{fewer, last_ones}
use Rattle.packed_log.proofs.row.Row.newest.Goals as goal

pub returns : goal.returns
returns g c =
    let p = c.self.inside in let xs = p.items.items in
    let long : vec_len p.items ≡ length xs = omega arith in
    let inside : p.cursor ≤ length xs = omega (arith, c.self.invariant.1, long) in
    let few = subst (λ (r : Row g.row.T.Denot). c.args.count ≤ length r.before) (sym c.self.view_is) c.requires in
    let f = fewer p.dead p.cursor xs c.self.invariant.0 inside c.args.count few in
    let at = p.cursor - c.args.count in
    let many : p.cursor - at ≡ c.args.count = omega (arith, f.0) in
    (λ i. take (many i) (drop at (c.as_slice.ensures.value i)))
    ∙ last_ones p.dead p.cursor xs c.self.invariant.0 inside c.args.count few
    ∙ ap (λ (r : Row g.row.T.Denot). last_of c.args.count r.before) c.self.view_is
