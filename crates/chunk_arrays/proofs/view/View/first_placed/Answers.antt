use Rattle.std.proofs.Common.{◌≡◌, ◌+◌, ◌-◌, ◌∙◌, ℕ, length, get_or, ap, ap₂, arith, List}
use Rattle.geos_model.specs.Array.{Array}
use Rattle.chunk_arrays.specs.Reading.{element_place}
use Rattle.chunk_arrays.proofs.PlaceLemmas.{none_more, place-within}
use Rattle.chunk_arrays.proofs.view.View.first_placed.Goals as goal

pub place-requires : goal.place-requires
place-requires c = let all = c.count-count.ensures in omega (arith, all, c.loop-i-test.true)

pub bounds-bytes-place : goal.bounds-bytes-place
bounds-bytes-place c =
    let all = c.count-count.ensures in
    let long = ap length c.bytes-bytes.ensures in
    let here = c.place.ensures.place in
    let within = place-within c.args.self.now.array c.loop-i.i (omega (arith, all, c.loop-i-test.true)) in
    omega (arith, long, here, within)

pub returns-then-last-byte : goal.returns-then-last-byte
returns-then-last-byte c =
    let all = c.count-count.ensures in
    (omega (arith, c.loop-i.auto), omega (arith, c.loop-i.auto, all, c.loop-i-test.true), c.loop-i.invariant)

pub loop-i-preserved : goal.loop-i-preserved
loop-i-preserved c = λ k low up some.
    let a : Array = c.args.self.now.array in
    let all = c.count-count.ensures in
    let here = c.place.ensures.place in
    let at : c.loop-i.i ≡ c.loop-i.i - 1 + 1 = omega (arith, low, up) in
    let is : c.place.result - 1 ≡ element_place a (c.loop-i.i - 1 + 1) - 1 = ap (λ (n : ℕ). n - 1) here ∙ ap (λ (n : ℕ). element_place a n - 1) at in
    none_more a c.args.from (c.loop-i.i - 1) c.args.byte (omega (arith, all, c.loop-i-test.true)) c.loop-i.invariant
    (λ same. c.if-last-byte.false (ap₂ (λ (l : List ℕ) (n : ℕ). get_or l n 0) c.bytes-bytes.ensures is ∙ same)) k low (omega (arith, up)) some

pub returns : goal.returns
returns c = λ k low up.
    let all = c.count-count.ensures in
    c.loop-i.invariant k low (omega (arith, up, all, c.loop-i-test.false))
