use Rattle.std.proofs.Common.{◌≡◌, ◌∙◌, ◌==◌, ◌*◌, ◌+◌, ◌-◌, ℕ, false, nat_lt, Option, ap, ap₂}
use Rattle.std.proofs.lemmas.Bool.{ne_eqb}
use Rattle.large_bodies.specs.Neighbours.{if_known, left_joins_by, right_joins_by}
use Rattle.large_arrays.specs.LookedBranches.{count_at}
use Rattle.large_bodies.specs.declared.neighbours.MiddleEnds.{MiddleEnds}
use Rattle.large_arrays.proofs.LookedSides.{left-even, right-even}
use Rattle.large_arrays.proofs.joining.looked_sides.Goals as goal

pub returns-clause-value : goal.returns-clause-value
returns-clause-value c = λ ps i j new is ends.
    let s = c.args.spot.now in
    let one : (s.size == 0) ≡ false = ne_eqb s.size 0 c.if-spot-eq0.false in
    let l : Option ℕ = if_known (nat_lt 0 s.start.0) (count_at s (s.start.0 - 1) * s.size) in
    let r : Option ℕ = if_known (nat_lt (s.end.0 + 1) s.branches) (count_at s (s.end.0 + 1) * s.size) in
    let left : c.even_weight-left.result ≡ l =
    c.even_weight-left.ensures ∙ ap (λ (k : ℕ). if_known (nat_lt 0 s.start.0) (count_at s k * s.size)) c.saturating_sub.ensures in (
      c.joined_sides.ensures.left ∙ ap₂ (λ (x y : Option ℕ). left_joins_by x y c.args.ends) left c.even_weight-right.ensures
          ∙ ap (λ (e : MiddleEnds). left_joins_by l r e) ends ∙ left-even s ps i j new is c.requires one,
      c.joined_sides.ensures.right ∙ ap₂ (λ (x y : Option ℕ). right_joins_by x y c.args.ends) left c.even_weight-right.ensures
          ∙ ap (λ (e : MiddleEnds). right_joins_by l r e) ends ∙ right-even s ps i j new is c.requires one,
    )
