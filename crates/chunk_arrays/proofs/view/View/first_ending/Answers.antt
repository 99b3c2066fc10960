use Rattle.std.proofs.Common.{◌≡◌, ◌+◌, ◌-◌, ◌∙◌, ℕ, length, get_or, ap, ap₂, sym, arith, List}
use Rattle.geos_model.specs.Array.{Array, array_bytes}
use Rattle.chunk_arrays.specs.Reading.{element_place}
use Rattle.chunk_arrays.proofs.PlaceLemmas.{none_more, place-end, place-within}
use Rattle.chunk_arrays.proofs.view.View.first_ending.Goals as goal

pub returns-then-from-count : goal.returns-then-from-count
returns-then-from-count c = λ k low up. let all = c.count-count.ensures in absurd (omega (arith, low, up, all, c.if-from-count.true))

pub overflow_sub-end : goal.overflow_sub-end
overflow_sub-end c =
    let a : Array = c.args.self.now.array in
    let long = ap length c.bytes-bytes.ensures in
    let within = place-within a 0 (omega arith) in
    omega (arith, long, within)

pub bounds-bytes-bytes : goal.bounds-bytes-bytes
bounds-bytes-bytes c =
    let a : Array = c.args.self.now.array in
    let long = ap length c.bytes-bytes.ensures in
    let within = place-within a 0 (omega arith) in
    omega (arith, long, within)

pub returns-else-end-byte : goal.returns-else-end-byte
returns-else-end-byte c = λ k low up some.
    let a : Array = c.args.self.now.array in
    let end : length (array_bytes a) ≡ element_place a (length a.elements - 1 + 1) =
    sym (place-end a) ∙ ap (element_place a) (omega (arith, low, up)) in
    let at : length c.bytes-bytes.result.now - 1 ≡ element_place a (length a.elements - 1 + 1) - 1 = ap (λ (l : List ℕ). length l - 1) c.bytes-bytes.ensures ∙ ap (λ (n : ℕ). n - 1) end in
    none_more a c.args.from (length a.elements - 1) c.args.byte (omega (arith, low, up)) c.in_default.ensures
    (λ same. c.if-end-byte.false (ap₂ (λ (l : List ℕ) (n : ℕ). get_or l n 0) c.bytes-bytes.ensures at ∙ same)) k low (omega (arith, up, low)) some
