use Rattle.std.proofs.Common.{◌≡◌, ◌≤◌, ◌++◌, length, vec_len, sym, ap, subst, ◌∙◌, arith}
use Rattle.packed_log.specs.Rows.{Row, last_of, without_last}
use Rattle.packed_log.proofs.RowLemmas.{behind_front, front_ones}
use Rattle.packed_log.proofs.row.Row.step_back.Goals as goal

pub returns-clause-before : goal.returns-clause-before
returns-clause-before g c =
    let p = c.self.inside in let xs = p.items.items in
    let long : vec_len p.items ≡ length xs = omega arith in
    let inside : p.cursor ≤ length xs = omega (arith, c.self.invariant.1, long) in
    let few = subst (λ (r : Row g.row.T.Denot). c.args.count ≤ length r.before) (sym c.self.view_is) c.requires in
    front_ones p.dead p.cursor xs c.self.invariant.0 inside c.args.count few
    ∙ ap (λ (r : Row g.row.T.Denot). without_last c.args.count r.before) c.self.view_is

pub returns-clause-behind : goal.returns-clause-behind
returns-clause-behind g c =
    let p = c.self.inside in let xs = p.items.items in
    let long : vec_len p.items ≡ length xs = omega arith in
    let inside : p.cursor ≤ length xs = omega (arith, c.self.invariant.1, long) in
    let few = subst (λ (r : Row g.row.T.Denot). c.args.count ≤ length r.before) (sym c.self.view_is) c.requires in
    behind_front p.dead p.cursor xs c.self.invariant.0 inside c.args.count few
    ∙ ap (λ (r : Row g.row.T.Denot). last_of c.args.count r.before ++ r.behind) c.self.view_is
