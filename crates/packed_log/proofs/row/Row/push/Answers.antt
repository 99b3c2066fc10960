use Rattle.std.proofs.Common.{◌≡◌, ◌<◌, ◌≤◌, ◌+◌, List, [], ◌∷◌, ◌++◌, length, take, drop, vec_len, sym, ap, subst, ◌∙◌, arith}
use Rattle.std.proofs.lemmas.List.{length_push}
use Rattle.packed_log.specs.Rows.{Row}
use Rattle.packed_log.proofs.RowLemmas.{appended, at_end}
use Rattle.packed_log.proofs.row.Row.push.Goals as goal

pub push_reserved-requires : goal.push_reserved-requires
push_reserved-requires g c =
    let p = c.self.inside in let xs = p.items.items in
    let long : vec_len p.items ≡ length xs = omega arith in
    let none = subst (λ (r : Row g.row.T.Denot). r.behind ≡ []) (sym c.self.view_is) c.requires.none in
    let room = subst (λ (r : Row g.row.T.Denot). 0 < r.room) (sym c.self.view_is) c.requires.room in
    let last = at_end p.cursor xs (omega (arith, c.self.invariant.1, long)) none in
    omega (arith, long, last, room)

pub returns-clause-before : goal.returns-clause-before
returns-clause-before g c =
    let p = c.self.inside in let xs = p.items.items in
    let long : vec_len p.items ≡ length xs = omega arith in
    let inside : p.cursor ≤ length xs = omega (arith, c.self.invariant.1, long) in
    let none = subst (λ (r : Row g.row.T.Denot). r.behind ≡ []) (sym c.self.view_is) c.requires.none in
    let last = at_end p.cursor xs inside none in
    let pushed = length_push xs c.args.item in
    ap (λ (ys : List g.row.T.Denot). drop p.dead (take (p.cursor + 1) ys)) c.push_reserved.ensures.items
    ∙ appended p.dead p.cursor xs c.self.invariant.0 inside (c.args.item ∷ []) (p.cursor + 1) none (omega (arith, last, pushed))
    ∙ ap (λ (r : Row g.row.T.Denot). r.before ++ c.args.item ∷ []) c.self.view_is
