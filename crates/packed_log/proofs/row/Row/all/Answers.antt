use Rattle.std.proofs.Common.{◌≡◌, ◌-◌, ◌++◌, length, take, drop, vec_len, ap, ◌∙◌, arith}
use Rattle.std.proofs.lemmas.List.{length-drop, take_all}
use Rattle.packed_log.specs.Rows.{Row}
use Rattle.packed_log.proofs.RowLemmas.{all_from}
use Rattle.packed_log.proofs.row.Row.all.Goals as goal

pub returns : goal.returns
returns g c =
    let p = c.self.inside in let xs = p.items.items in
    let long : vec_len p.items ≡ length xs = omega arith in
    let kept = length-drop p.dead xs in
    ap (λ ys. take (length ys - p.dead) (drop p.dead ys)) c.as_slice.ensures.value
    ∙ take_all (length xs - p.dead) (drop p.dead xs) (omega (arith, kept))
    ∙ all_from p.dead p.cursor xs c.self.invariant.0 (omega (arith, c.self.invariant.1, long))
    ∙ ap (λ (r : Row g.row.T.Denot). r.before ++ r.behind) c.self.view_is
