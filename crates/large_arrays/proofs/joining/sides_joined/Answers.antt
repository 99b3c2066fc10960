use Rattle.std.proofs.Common.{◌≡◌, ◌∙◌, ◌==◌, ℕ, true, Option, ap, ap₂, eq-eqb}
use Rattle.geos_model.specs.Pieces.{piece_weight}
use Rattle.large_bodies.specs.Neighbours.{if_known, left_joins_by, right_joins_by}
use Rattle.large_bodies.specs.declared.neighbours.MiddleEnds.{MiddleEnds}
use Rattle.large_arrays.proofs.LookedSides.{left-joined_by, right-joined_by}
use Rattle.large_arrays.proofs.joining.sides_joined.Goals as goal

pub returns-clause-value : goal.returns-clause-value
returns-clause-value c = λ ps i j new is ends are.
    let s = c.args.spot.now in
    let both = c.args.neighbours.now in
    let l : Option ℕ = if_known c.args.looked.left (piece_weight both.left.size both.left.elements) in
    let r : Option ℕ = if_known c.args.looked.right (piece_weight both.right.size both.right.elements) in
    let vary : (s.size == 0) ≡ true = eq-eqb s.size 0 c.if-spot-ne0.false in (
      c.joined_sides.ensures.left ∙ ap₂ (λ (x y : Option ℕ). left_joins_by x y c.args.ends) c.if_looked-left.ensures c.if_looked-right.ensures
          ∙ ap (λ (e : MiddleEnds). left_joins_by l r e) ends
          ∙ left-joined_by s ps i j new is c.args.looked both are c.requires.left c.requires.right vary,
      c.joined_sides.ensures.right ∙ ap₂ (λ (x y : Option ℕ). right_joins_by x y c.args.ends) c.if_looked-left.ensures c.if_looked-right.ensures
          ∙ ap (λ (e : MiddleEnds). right_joins_by l r e) ends
          ∙ right-joined_by s ps i j new is c.args.looked both are c.requires.left c.requires.right vary,
    )
