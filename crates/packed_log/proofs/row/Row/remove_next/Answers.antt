use Rattle.std.proofs.Common.{◌≡◌, ◌≤◌, ◌-◌, length, drop, vec_len, sym, ap, subst, ◌∙◌, arith}
use Rattle.packed_log.specs.Rows.{Row}
use Rattle.packed_log.proofs.RowLemmas.{taken_out}
use Rattle.packed_log.proofs.row.Row.remove_next.Goals as goal

pub returns-clause-behind : goal.returns-clause-behind
returns-clause-behind g c =
    let p = c.self.inside in let xs = p.items.items in
    let long : vec_len p.items ≡ length xs = omega arith in
    let few = subst (λ (r : Row g.row.T.Denot). c.args.count ≤ length r.behind) (sym c.self.view_is) c.requires in
    let left : c.len.result - c.args.count ≡ vec_len p.items - c.args.count = ap (λ n. n - c.args.count) c.len.ensures in
    ap (drop p.cursor) c.truncate.ensures.items
    ∙ taken_out p.cursor c.args.count (vec_len p.items) (c.len.result - c.args.count) xs c.slice_mut.result.now c.rotate_left.new.self c.truncate.new.self.items c.slice_mut.ensures.value long (omega (arith, c.self.invariant.1, long)) few left c.rotate_left.ensures.after
    ∙ ap (λ (r : Row g.row.T.Denot). drop c.args.count r.behind) c.self.view_is
