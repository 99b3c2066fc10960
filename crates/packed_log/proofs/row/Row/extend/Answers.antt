use Rattle.std.proofs.Common.{◌≡◌, ◌≤◌, ◌+◌, ◌-◌, List, [], ◌++◌, cond, not, is_ok, true, length, take, drop, vec_capacity, vec_len, true≢false, sym, ap, subst, ◌∙◌, arith}
use Rattle.std.proofs.lemmas.List.{length-append}
use Rattle.packed_log.specs.Rows.{Row}
use Rattle.packed_log.proofs.RowLemmas.{appended, at_end}
use Rattle.packed_log.proofs.row.Row.extend.Goals as goal

pub unreachable-requires : goal.unreachable-requires
unreachable-requires g c =
    let p = c.self.inside in let xs = p.items.items in
    let long : vec_len p.items ≡ length xs = omega arith in
    let none = subst (λ (r : Row g.row.T.Denot). r.behind ≡ []) (sym c.self.view_is) c.requires.none in
    let room = subst (λ (r : Row g.row.T.Denot). length c.args.items.now ≤ r.room) (sym c.self.view_is) c.requires.room in
    let inside : p.cursor ≤ length xs = omega (arith, c.self.invariant.1, long) in
    let last = at_end p.cursor xs inside none in
    let made = c.extend_from_slice.ensures.succeeds (omega (arith, long, last, room)) in
    true≢false (sym made ∙ c.is_err.ensures.negation ∙ ap not c.if-is_err.true)

pub returns-clause-before : goal.returns-clause-before
returns-clause-before g c =
    let p = c.self.inside in let xs = p.items.items in
    let long : vec_len p.items ≡ length xs = omega arith in
    let inside : p.cursor ≤ length xs = omega (arith, c.self.invariant.1, long) in
    let none = subst (λ (r : Row g.row.T.Denot). r.behind ≡ []) (sym c.self.view_is) c.requires.none in
    let made : is_ok c.extend_from_slice.result ≡ true = c.is_err.ensures.negation ∙ ap not c.if-is_err.false in
    let items : c.extend_from_slice.new.self.items ≡ xs ++ c.args.items.now = c.extend_from_slice.ensures.items ∙ ap (λ b. cond b (xs ++ c.args.items.now) xs) made in
    let end : c.len-self-inside.result ≡ vec_len p.items + length c.args.items.now = c.len-self-inside.ensures ∙ c.extend_from_slice.ensures.len ∙ ap (λ b. cond b (vec_len p.items + length c.args.items.now) (vec_len p.items)) made in
    let all = length-append xs c.args.items.now in
    ap (λ (ys : List g.row.T.Denot). drop p.dead (take c.len-self-inside.result ys)) items
    ∙ appended p.dead p.cursor xs c.self.invariant.0 inside c.args.items.now c.len-self-inside.result none (omega (arith, end, long, all))
    ∙ ap (λ (r : Row g.row.T.Denot). r.before ++ c.args.items.now) c.self.view_is

pub returns-clause-room : goal.returns-clause-room
returns-clause-room g c =
    let p = c.self.inside in let xs = p.items.items in
    let long : vec_len p.items ≡ length xs = omega arith in
    let none = subst (λ (r : Row g.row.T.Denot). r.behind ≡ []) (sym c.self.view_is) c.requires.none in
    let last = at_end p.cursor xs (omega (arith, c.self.invariant.1, long)) none in
    let made : is_ok c.extend_from_slice.result ≡ true = c.is_err.ensures.negation ∙ ap not c.if-is_err.false in
    let end : c.len-self-inside.result ≡ vec_len p.items + length c.args.items.now = c.len-self-inside.ensures ∙ c.extend_from_slice.ensures.len ∙ ap (λ b. cond b (vec_len p.items + length c.args.items.now) (vec_len p.items)) made in
    let room : vec_capacity p.items - p.cursor ≡ c.args.self.now.room = ap (λ (r : Row g.row.T.Denot). r.room) c.self.view_is in
    omega (arith, end, last, long, room, c.extend_from_slice.ensures.capacity)
