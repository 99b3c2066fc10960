use Rattle.std.proofs.Common.{◌≡◌, ◌+◌, ◌-◌, ◌∙◌, sym, ap, ap₂, arith, ℕ, List, length, take, drop}
use Rattle.geos_model.specs.Array.{Array, array_bytes}
use Rattle.chunk_arrays.specs.Reading.{element_place}
use Rattle.chunk_arrays.specs.Viewed.{Viewed}
use Rattle.chunk_arrays.proofs.PartsLemmas.{bytes-read}
use Rattle.chunk_arrays.proofs.PlaceLemmas.{place-order, place-within, run-is, one-is}
use Rattle.chunk_arrays.proofs.view.View.element_from.Goals as goal

pub slice_bounds-bytes-count : goal.slice_bounds-bytes-count
slice_bounds-bytes-count c =
    let up = place-order c.args.self.now.array c.args.i (c.args.i + 1) (omega arith) in
    let next = c.place-next.ensures.place in
    let here = c.requires.place in
    omega (arith, up, next, here)

pub slice_bounds-bytes-start : goal.slice_bounds-bytes-start
slice_bounds-bytes-start c =
    let up = place-order c.args.self.now.array c.args.i (c.args.i + 1) (omega arith) in
    let next = c.place-next.ensures.place in
    let here = c.requires.place in
    omega (arith, up, next, here)

pub slice_bounds-bytes-end : goal.slice_bounds-bytes-end
slice_bounds-bytes-end c =
    let low = c.requires.within in
    let within = place-within c.args.self.now.array (c.args.i + 1) (omega (arith, low)) in
    let same : length (array_bytes c.args.self.now.array) ≡ length c.self.inside.bytes.now = ap (λ (v : Viewed). length (array_bytes v.array)) (sym c.self.view_is) ∙ ap length (bytes-read c.self.inside.bytes.now c.self.invariant.parts) in
    let next = c.place-next.ensures.place in
    omega (arith, within, same, next)

pub returns-clause-bytes : goal.returns-clause-bytes
returns-clause-bytes c =
    let a : Array = c.args.self.now.array in
    let i : ℕ = c.args.i in
    let bytes : List ℕ = c.self.inside.bytes.now in
    let same : bytes ≡ array_bytes a = sym (bytes-read bytes c.self.invariant.parts) ∙ ap (λ (v : Viewed). array_bytes v.array) c.self.view_is in
    ap₂ (λ (m n : ℕ). take (m - n) (drop n bytes)) c.place-next.ensures.place c.requires.place
    ∙ ap (λ (l : List ℕ). take (element_place a (i + 1) - element_place a i) (drop (element_place a i) l)) same
    ∙ run-is a i (i + 1) (omega arith)
    ∙ one-is a.elements i c.requires.within
