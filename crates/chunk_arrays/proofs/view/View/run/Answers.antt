use Rattle.std.proofs.Common.{◌≡◌, ◌-◌, ◌∙◌, sym, ap, arith, ℕ, List, length, take, drop}
use Rattle.geos_model.specs.Array.{Array, array_bytes}
use Rattle.chunk_arrays.specs.Reading.{element_place}
use Rattle.chunk_arrays.proofs.PlaceLemmas.{place-order, place-within, run-is}
use Rattle.chunk_arrays.proofs.PartsLemmas.{bytes-read}
use Rattle.chunk_arrays.specs.Viewed.{Viewed}
use Rattle.chunk_arrays.proofs.view.View.run.Goals as goal

pub slice_bounds-result-count : goal.slice_bounds-result-count
slice_bounds-result-count c = let up = place-order c.args.self.now.array c.args.from c.args.to c.requires.order in omega (arith, up)

pub slice_bounds-result-start : goal.slice_bounds-result-start
slice_bounds-result-start c = let up = place-order c.args.self.now.array c.args.from c.args.to c.requires.order in omega (arith, up)

pub slice_bounds-result-end : goal.slice_bounds-result-end
slice_bounds-result-end c =
    let within = place-within c.args.self.now.array c.args.to c.requires.within in
    let same : length (array_bytes c.args.self.now.array) ≡ length c.self.inside.bytes.now = ap (λ (v : Viewed). length (array_bytes v.array)) (sym c.self.view_is) ∙ ap length (bytes-read c.self.inside.bytes.now c.self.invariant.parts) in
    omega (arith, within, same)

pub returns : goal.returns
returns c =
    let a : Array = c.args.self.now.array in
    let bytes : List ℕ = c.self.inside.bytes.now in
    let same : bytes ≡ array_bytes a = sym (bytes-read bytes c.self.invariant.parts) ∙ ap (λ (v : Viewed). array_bytes v.array) c.self.view_is in
    ap (λ (n : ℕ). take (n - c.place-start.result) (drop c.place-start.result bytes)) c.place-end.ensures.place
    ∙ ap (λ (n : ℕ). take (element_place a c.args.to - n) (drop n bytes)) c.place-start.ensures.place
    ∙ ap (λ (l : List ℕ). take (element_place a c.args.to - element_place a c.args.from) (drop (element_place a c.args.from) l)) same
    ∙ run-is a c.args.from c.args.to c.requires.order
