use Rattle.std.proofs.Common.{◌≡◌, ◌≢◌, ◌≤◌, ◌-◌, [], ◌∷◌, length, set, take, drop, vec_len, vec_capacity, sym, ap, subst, ◌∙◌, arith}
use Rattle.packed_log.specs.Rows.{Row}
use Rattle.packed_log.proofs.RowLemmas.{first_set, first_set-behind}
use Rattle.packed_log.proofs.row.Row.replace_oldest.Goals as goal

pub returns-clause-row : goal.returns-clause-row
returns-clause-row g c =
    let p = c.self.inside in let xs = p.items.items in
    let long : vec_len p.items ≡ length xs = omega arith in
    let inside : p.cursor ≤ length xs = omega (arith, c.self.invariant.1, long) in
    let some = subst (λ (r : Row g.row.T.Denot). r.before ≢ []) (sym c.self.view_is) c.requires in
    let written = ap (set xs p.dead) c.replace.ensures.after in
    let before = ap (λ ys. drop p.dead (take p.cursor ys)) written ∙ first_set p.dead p.cursor xs c.self.invariant.0 inside c.args.item some in
    let behind = ap (drop p.cursor) written ∙ first_set-behind p.dead p.cursor xs c.self.invariant.0 inside c.args.item some in
    (λ i. record { before = before i; behind = behind i; room = vec_capacity p.items - p.cursor })
    ∙ ap (λ (r : Row g.row.T.Denot). record r { before = c.args.item ∷ drop 1 r.before }) c.self.view_is
