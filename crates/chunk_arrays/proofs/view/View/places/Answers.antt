use Rattle.std.proofs.Common.{◌≡◌, ◌+◌, ◌*◌, ◌-◌, ◌∙◌, sym, ap, arith, ℕ, List, length, take, drop}
use Rattle.geos_model.specs.Array.{Array, array_bytes, array_start}
use Rattle.geos_model.specs.Words.{word_at}
use Rattle.chunk_arrays.specs.Viewed.{Viewed}
use Rattle.chunk_arrays.proofs.PartsLemmas.{length-elements_read, start_is, bytes-read}
use Rattle.chunk_arrays.proofs.TableLemmas.{table-run}
use Rattle.chunk_arrays.proofs.view.View.places.Goals as goal

pub slice_bounds-result-end : goal.slice_bounds-result-end
slice_bounds-result-end c =
    let any : word_at c.self.inside.bytes.now 2 ≡ 0 = ap (λ (v : Viewed). v.array.size) c.self.view_is ∙ c.requires.any in
    let room = (c.self.invariant.parts.elements.table any).room in
    let start = c.self.invariant.start in
    let within = c.requires.within in
    let count : length c.args.self.now.array.elements ≡ word_at c.self.inside.bytes.now 0 = ap (λ (v : Viewed). length v.array.elements) (sym c.self.view_is) ∙ length-elements_read c.self.inside.bytes.now in
    omega (arith, room, start, within, count)

pub returns : goal.returns
returns c =
    let a : Array = c.args.self.now.array in
    let bytes : List ℕ = c.self.inside.bytes.now in
    let at : ℕ = c.self.inside.start + 2 * c.args.from in
    let n : ℕ = c.self.inside.start + 2 * c.args.to - at in
    let order = c.requires.order in
    let same : bytes ≡ array_bytes a = sym (bytes-read bytes c.self.invariant.parts) ∙ ap (λ (v : Viewed). array_bytes v.array) c.self.view_is in
    let start : c.self.inside.start ≡ array_start a = c.self.invariant.start ∙ sym (start_is bytes c.self.invariant.parts) ∙ ap (λ (v : Viewed). array_start v.array) c.self.view_is in
    ap (λ (l : List ℕ). take n (drop at l)) same
    ∙ table-run a c.requires.any c.args.from c.args.to at n order c.requires.within (omega (arith, start)) (omega (arith, order))
