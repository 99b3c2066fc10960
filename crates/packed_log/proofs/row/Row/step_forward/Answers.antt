use Rattle.std.proofs.Common.{◌≡◌, ◌≤◌, ◌++◌, length, take, vec_len, ap, ◌∙◌, arith}
use Rattle.packed_log.specs.Rows.{Row}
use Rattle.packed_log.proofs.RowLemmas.{longer}
use Rattle.packed_log.proofs.row.Row.step_forward.Goals as goal

pub returns-clause-before : goal.returns-clause-before
returns-clause-before g c =
    let p = c.self.inside in let xs = p.items.items in
    let long : vec_len p.items ≡ length xs = omega arith in
    let inside : p.cursor ≤ length xs = omega (arith, c.self.invariant.1, long) in
    longer p.dead p.cursor xs c.self.invariant.0 inside c.args.count
    ∙ ap (λ (r : Row g.row.T.Denot). r.before ++ take c.args.count r.behind) c.self.view_is
