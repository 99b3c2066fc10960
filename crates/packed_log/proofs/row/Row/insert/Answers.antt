use Rattle.std.proofs.Common.{◌≡◌, ◌≤◌, ◌+◌, List, [], ◌∷◌, ◌++◌, cond, not, is_ok, true, length, take, drop, vec_len, ap, ◌∙◌, arith}
use Rattle.packed_log.specs.Rows.{Row}
use Rattle.packed_log.proofs.RowLemmas.{put_in, put_in-behind}
use Rattle.packed_log.proofs.row.Row.insert.Goals as goal

pub returns-clause-before : goal.returns-clause-before
returns-clause-before g c =
    let p = c.self.inside in let xs = p.items.items in
    let long : vec_len p.items ≡ length xs = omega arith in
    let inside : p.cursor ≤ length xs = omega (arith, c.self.invariant.1, long) in
    let made : is_ok c.insert.result ≡ true = c.is_err.ensures.negation ∙ ap not c.if-is_err.false in
    let was = c.in_ok-reserve.ensures.items in
    let put = c.insert.ensures.items ∙ ap (λ b. cond b (take p.cursor c.reserve.new.items.items ++ c.args.item ∷ drop p.cursor c.reserve.new.items.items) c.reserve.new.items.items) made
    ∙ ap (λ (ys : List g.row.T.Denot). take p.cursor ys ++ c.args.item ∷ drop p.cursor ys) was in
    ap (λ (ys : List g.row.T.Denot). drop p.dead (take (p.cursor + 1) ys)) put
    ∙ put_in p.dead p.cursor xs c.self.invariant.0 inside c.args.item
    ∙ ap (λ (r : Row g.row.T.Denot). r.before ++ c.args.item ∷ []) c.self.view_is

pub returns-clause-behind : goal.returns-clause-behind
returns-clause-behind g c =
    let p = c.self.inside in let xs = p.items.items in
    let long : vec_len p.items ≡ length xs = omega arith in
    let inside : p.cursor ≤ length xs = omega (arith, c.self.invariant.1, long) in
    let made : is_ok c.insert.result ≡ true = c.is_err.ensures.negation ∙ ap not c.if-is_err.false in
    let was = c.in_ok-reserve.ensures.items in
    let put = c.insert.ensures.items ∙ ap (λ b. cond b (take p.cursor c.reserve.new.items.items ++ c.args.item ∷ drop p.cursor c.reserve.new.items.items) c.reserve.new.items.items) made
    ∙ ap (λ (ys : List g.row.T.Denot). take p.cursor ys ++ c.args.item ∷ drop p.cursor ys) was in
    ap (drop (p.cursor + 1)) put
    ∙ put_in-behind p.dead p.cursor xs c.self.invariant.0 inside c.args.item
    ∙ ap (λ (r : Row g.row.T.Denot). r.behind) c.self.view_is
