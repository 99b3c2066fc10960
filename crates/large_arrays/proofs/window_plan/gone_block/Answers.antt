use Rattle.std.proofs.Common.{◌≡◌, ◌∙◌, ℕ, Some, Vec, Global, sym, ap, subst, arith}
use Rattle.std.proofs.lemmas.List.Elements.{same_from_all_zip}
use Rattle.geos_model.specs.Document.{Block}
use Rattle.large_arrays.specs.Gathering.{HasOldBody}
use Rattle.large_arrays.proofs.GoneBlocks.{gone-stands, gathered-body}
use Rattle.large_arrays.proofs.window_plan.gone_block.Goals as goal

pub returns-clause-stands : goal.returns-clause-stands
returns-clause-stands g c = λ all.
    let d = c.args.blocks.now.document in
    let h : ℕ = c.args.handle.0 in
    let gathered = c.args.gathered.now in
    let low = c.in-Some.ensures.0 in
    let many = c.requires.bodies in
    let body : Vec ℕ Global = c.index.result.now in
    let copied = same_from_all_zip (λ (x y : ℕ). y ≡ x) body.items c.in_ok-clone.field-0.items c.in_ok-clone.ensures.cases.0 (λ x y is. is) in
    let has = gathered-body d gathered.olds.items gathered.bodies.items c.in-Some.i h body all (omega (arith, low, many)) many c.in-Some.ensures.1 c.index.ensures in
    gone-stands d h c.attributes.result c.in_ok-clone.field-0.items (subst (HasOldBody d h) (sym copied) has) c.attributes.ensures.value c.attributes.ensures.typed
    ∙ ap (λ (b : Block). Some b) (sym c.in_ok-block.ensures)
