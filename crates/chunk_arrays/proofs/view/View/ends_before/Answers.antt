use Rattle.std.proofs.Common.{◌≡◌, ◌+◌, ◌-◌, ◌∙◌, ℕ, List, length, get_or, ap, ap₂, sym, arith}
use Rattle.std.proofs.lemmas.Bool.{eq-eqb, true≢false}
use Rattle.geos_model.specs.Array.{Array}
use Rattle.chunk_arrays.specs.Reading.{element_place}
use Rattle.chunk_arrays.proofs.PlaceLemmas.{none_more, place-within}
use Rattle.chunk_arrays.proofs.view.View.ends_before.Goals as goal

pub bounds-bytes-listed_place : goal.bounds-bytes-listed_place
bounds-bytes-listed_place c =
    let long = ap length c.bytes-bytes.ensures in
    let here = c.listed_place.ensures.place in
    let within = place-within c.args.self.now.array c.args.i (omega (arith, c.requires.within)) in
    omega (arith, long, here, within)

pub returns : goal.returns
returns c = λ other k low up some.
    let a : Array = c.args.self.now.array in
    let least = c.requires.some in
    let here = c.listed_place.ensures.place in
    let at : c.args.i ≡ c.args.i - 1 + 1 = omega (arith, least) in
    let is : c.listed_place.result - 1 ≡ element_place a (c.args.i - 1 + 1) - 1 = ap (λ (n : ℕ). n - 1) here ∙ ap (λ (n : ℕ). element_place a n - 1) at in
    none_more a (c.args.i - 1) (c.args.i - 1) c.args.byte (omega (arith, least, c.requires.within)) (λ j le lt. absurd (omega (arith, le, lt)))
    (λ same. true≢false (sym (eq-eqb _ _ (ap₂ (λ (l : List ℕ) (n : ℕ). get_or l n 0) c.bytes-bytes.ensures is ∙ same)) ∙ other)) k low (omega (arith, up)) some
