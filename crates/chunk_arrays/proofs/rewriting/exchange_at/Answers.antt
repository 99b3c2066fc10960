use Rattle.std.proofs.Common.{◌≤◌, ◌+◌, ◌∙◌, ℕ, List, length, take, drop, refl, ap, arith, length-drop}
use Rattle.geos_model.specs.Array.{Array}
use Rattle.chunk_arrays.proofs.AlikeLemmas.{alike-within, alike-leads, back-le}
use Rattle.chunk_arrays.proofs.rewriting.exchange_at.Goals as goal
use Rattle.chunk_arrays.proofs.rewriting.exchange_at.Goals.{After-place}

-- the element ends within the bytes
end_is : (c : After-place) → (c.place.result + length c.args.element.now ≤ length c.bytes.result.now)
end_is c =
    let within = alike-within c.args.view.now.array c.args.at c.args.element.now c.requires.within c.requires.alike in
    let long = ap length c.bytes.ensures in
    let here = c.place.ensures.place in
    omega (arith, within, long, here)

pub split_at-requires : goal.split_at-requires
split_at-requires c = let end = end_is c in omega (arith, end)

pub split_at-requires-2 : goal.split_at-requires-2
split_at-requires-2 c =
    let end = end_is (goal.at.split_at-requires-2 c).After-place in
    let rest = ap length c.split_at.ensures.back ∙ length-drop c.place.result c.bytes.result.now in
    omega (arith, end, rest)

pub overflow_add-after : goal.overflow_add-after
overflow_add-after c =
    let end = end_is (goal.at.overflow_add-after c).After-place in
    let rest = ap length c.split_at.ensures.back ∙ length-drop c.place.result c.bytes.result.now in
    let behind = ap length c.split_at-2.ensures.back ∙ length-drop (length c.args.element.now) c.split_at.result.1.now in
    let back = back-le _ c.args.element.now c.compare-changed.result c.compare-changed.ensures in
    let long = ap length c.bytes.ensures in
    let short = c.requires.short in
    omega (arith, rest, behind, back, long, short, end)

pub overflow_cast-after : goal.overflow_cast-after
overflow_cast-after c =
    let rest = ap length c.split_at.ensures.back ∙ length-drop c.place.result c.bytes.result.now in
    let behind = ap length c.split_at-2.ensures.back ∙ length-drop (length c.args.element.now) c.split_at.result.1.now in
    let back = back-le _ c.args.element.now c.compare-changed.result c.compare-changed.ensures in
    let long = ap length c.bytes.ensures in
    let short = c.requires.short in
    let end = end_is (goal.at.overflow_cast-after c).After-place in
    omega (arith, rest, behind, back, long, short, end)

pub returns : goal.returns
returns c =
    let a : Array = c.args.view.now.array in
    let e : List ℕ = c.args.element.now in
    let same = c.bytes.ensures in
    alike-leads a c.args.at e c.requires.within c.requires.alike c.place.result
    c.split_at.result.0.now c.split_at-2.result.0.now c.split_at-2.result.1.now c.compare-changed.result _ _ c.in_ok-patch.patch c.place.ensures.place
    (c.split_at.ensures.front ∙ ap (take c.place.result) same)
    (c.split_at-2.ensures.front ∙ ap (take (length e)) (c.split_at.ensures.back ∙ ap (drop c.place.result) same))
    (c.split_at-2.ensures.back ∙ ap (drop (length e)) (c.split_at.ensures.back ∙ ap (drop c.place.result) same))
    c.compare-changed.ensures refl refl c.in_ok-patch.ensures
