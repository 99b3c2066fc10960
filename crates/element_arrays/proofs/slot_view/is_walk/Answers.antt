-- One link is one step of the walk.
use Rattle.std.proofs.Common.{◌≡◌, ◌-◌, ◌+◌, ℕ, suc, Bool, ◌&&◌, sym, ap, ap₂, ◌∙◌, arith}
use Rattle.element_arrays.specs.Tested.{is_walk}
use Rattle.element_arrays.proofs.slot_view.is_walk.Goals as goal

pub loop-preserved : goal.loop-preserved
loop-preserved c =
    let left : ℕ = c.args.steps - (c.loop.counter + 1) in
    let step : c.args.steps - c.loop.counter ≡ suc left = omega arith in
    c.loop.invariant
    ∙ ap (λ (n : ℕ). is_walk n c.args.view.now.array.elements c.loop.token) step
    ∙ ap₂ (λ (b : Bool) (t : ℕ). b && is_walk left c.args.view.now.array.elements t) c.in-Some.ensures.0 (sym c.in-Some.ensures.1)
