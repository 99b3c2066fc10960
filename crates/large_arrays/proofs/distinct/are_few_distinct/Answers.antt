use Rattle.std.proofs.Common.{◌∙◌, ◌+◌, ◌&&◌, ℕ, Bool, not, drop, sym, ap}
use Rattle.geos_model.specs.ElementArray.{all_distinct}
use Rattle.large_arrays.specs.Spots.{link_handles}
use Rattle.large_arrays.proofs.Marking.{no_link, few-step, few-done}
use Rattle.large_arrays.proofs.distinct.are_few_distinct.Goals as goal

pub returns-then-has_handle : goal.returns-then-has_handle
returns-then-has_handle c =
    let links = c.args.links.now in let i : ℕ = c.loop-i.i in
    sym (c.loop-i.invariant ∙ few-step links i no_link c.has_handle.result c.loop-i-test.true c.has_handle.ensures
    ∙ ap (λ (b : Bool). not b && all_distinct (drop (i + 1) (link_handles links))) c.if-has_handle.true)

pub loop-i-preserved : goal.loop-i-preserved
loop-i-preserved c =
    let links = c.args.links.now in let i : ℕ = c.loop-i.i in
    c.loop-i.invariant ∙ few-step links i no_link c.has_handle.result c.loop-i-test.true c.has_handle.ensures
    ∙ ap (λ (b : Bool). not b && all_distinct (drop (i + 1) (link_handles links))) c.if-has_handle.false

pub returns : goal.returns
returns c = sym (c.loop-i.invariant ∙ few-done c.args.links.now c.loop-i.i c.loop-i-test.false)
