use Rattle.std.proofs.Common.{◌-◌, take, drop, sym, ap, ◌∙◌}
use Rattle.packed_log.specs.Rows.{Row}
use Rattle.packed_log.proofs.RowLemmas.{between}
use Rattle.packed_log.proofs.row.Row.before.Goals as goal

pub returns : goal.returns
returns g c =
    let p = c.self.inside in
    ap (λ ys. take (p.cursor - p.dead) (drop p.dead ys)) c.as_slice.ensures.value
    ∙ sym (between p.dead p.cursor p.items.items c.self.invariant.0) ∙ ap (λ (r : Row g.row.T.Denot). r.before) c.self.view_is
