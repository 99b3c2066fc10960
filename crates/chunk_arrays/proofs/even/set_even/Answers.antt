use Rattle.std.proofs.Common.{◌≡◌, ◌∙◌, ◌+◌, ◌≤◌, ℕ, List, length, take, drop, inr, refl, ap, arith, length-drop, length-take-le}
use Rattle.geos_model.specs.Array.{Array, array_bytes}
use Rattle.chunk_arrays.specs.Reading.{element_place}
use Rattle.chunk_arrays.proofs.EvenLemmas.{next-place, set-leads, set-level, set-runs}
use Rattle.chunk_arrays.proofs.PlaceLemmas.{place-within}
use Rattle.chunk_arrays.proofs.ReplacingLemmas.{accepted-short, refused-long}
use Rattle.chunk_arrays.proofs.even.set_even.Goals as goal
use Rattle.chunk_arrays.proofs.even.set_even.Goals.{After-place}

pub returns-then-bytes-gt-LONGEST_CHUNK : goal.returns-then-bytes-gt-LONGEST_CHUNK
returns-then-bytes-gt-LONGEST_CHUNK c =
    let v = c.args.view.now in
    let level = set-level v.array c.args.at c.args.element.now v.even c.requires.even c.requires.within c.requires.sized in
    let long = ap length c.bytes-bytes.ensures in
    inr (refused-long _ (omega (arith, level, long, c.if-bytes-gt-LONGEST_CHUNK.true)))

-- where the element begins, and that it ends within the bytes
place_is : (c : After-place) → (c.place.result + length c.args.element.now ≤ length c.bytes-bytes.result.now)
place_is c =
    let a : Array = c.args.view.now.array in
    let low = c.requires.within in
    let next = next-place a c.args.at c.args.element.now c.args.view.now.even c.requires.even low c.requires.sized in
    let within = place-within a (c.args.at + 1) (omega (arith, low)) in
    let long = ap length c.bytes-bytes.ensures in
    let here = c.place.ensures.place in
    omega (arith, next, within, long, here)

pub split_at-requires : goal.split_at-requires
split_at-requires c = let end = place_is c in omega (arith, end)

pub split_at-requires-2 : goal.split_at-requires-2
split_at-requires-2 c =
    let end = place_is (goal.at.split_at-requires-2 c).After-place in
    let rest = ap length c.split_at.ensures.back ∙ length-drop c.place.result c.bytes-bytes.result.now in
    omega (arith, end, rest)

pub returns : goal.returns
returns c =
    let a : Array = c.args.view.now.array in
    let at : ℕ = c.args.at in
    let e : List ℕ = c.args.element.now in
    let bytes : List ℕ = c.bytes-bytes.result.now in
    let even = c.args.view.now.even in
    let same : bytes ≡ array_bytes a = c.bytes-bytes.ensures in
    let long = ap length same in
    let end = place_is (goal.at.returns c).After-place in
    let level = set-level a at e even c.requires.even c.requires.within c.requires.sized in
    let start : length c.split_at.result.0.now ≡ element_place a at =
    ap length c.split_at.ensures.front ∙ length-take-le c.place.result bytes (omega (arith, end)) ∙ c.place.ensures.place in
    record {
      replaces = record {
        accepted = accepted-short _ (omega (arith, level, long, c.if-bytes-gt-LONGEST_CHUNK.false));
        leads = set-leads a at e even c.requires.even c.requires.within c.requires.sized c.place.result
            c.split_at.result.0.now c.split_at-2.result.0.now c.split_at-2.result.1.now c.in_ok-patch.patch c.place.ensures.place
            (c.split_at.ensures.front ∙ ap (take c.place.result) same)
            (c.split_at-2.ensures.front ∙ ap (take (length e)) (c.split_at.ensures.back ∙ ap (drop c.place.result) same))
            (c.split_at-2.ensures.back ∙ ap (drop (length e)) (c.split_at.ensures.back ∙ ap (drop c.place.result) same))
            c.in_ok-patch.ensures;
      };
      runs = set-runs a at e even c.requires.even c.requires.within c.requires.sized _ _ start refl;
    }
