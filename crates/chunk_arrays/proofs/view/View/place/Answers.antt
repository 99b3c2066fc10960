use Rattle.std.proofs.Common.{◌≡◌, ◌≢◌, ◌≤◌, ◌+◌, ◌*◌, ◌∙◌, sym, ap, arith, ℕ, length}
use Rattle.std.proofs.Math.Nat.{mul-le-mul_right}
use Rattle.geos_model.specs.Words.{word_at}
use Rattle.chunk_arrays.specs.Reading.{element_place}
use Rattle.chunk_arrays.proofs.CutLemmas.{word_at-lt}
use Rattle.chunk_arrays.proofs.PartsLemmas.{length-elements_read}
use Rattle.chunk_arrays.proofs.PlaceLemmas.{place-last, place-even}
use Rattle.chunk_arrays.specs.Viewed.{Viewed}
use Rattle.chunk_arrays.proofs.view.View.place.Goals as goal

pub listed_place-requires-clause-any : goal.listed_place-requires-clause-any
listed_place-requires-clause-any c =
    sym (ap (λ (v : Viewed). v.array.size) c.self.view_is) ∙ sym c.self.invariant.size ∙ c.if-self-eq0.true

pub listed_place-requires-clause-within : goal.listed_place-requires-clause-within
listed_place-requires-clause-within c =
    let there = c.self.invariant.count in
    let count : length c.args.self.now.array.elements ≡ word_at c.self.inside.bytes.now 0 = ap (λ (v : Viewed). length v.array.elements) (sym c.self.view_is) ∙ length-elements_read c.self.inside.bytes.now in
    let least = c.requires in
    let other = c.if-i-self.false in
    omega (arith, there, count, least, other)

pub overflow_mul-result : goal.overflow_mul-result
overflow_mul-result c =
    let few = c.args.self.now.few in
    let small = word_at-lt c.self.inside.bytes.now c.self.invariant.parts.are_bytes 2 in
    let size = c.self.invariant.size in
    let most : c.args.i * c.self.inside.size ≤ 65536 * c.self.inside.size = mul-le-mul_right c.self.inside.size (omega (arith, few)) in
    omega (arith, small, size, most)

pub overflow_add-result : goal.overflow_add-result
overflow_add-result c =
    let few = c.args.self.now.few in
    let small = word_at-lt c.self.inside.bytes.now c.self.invariant.parts.are_bytes 2 in
    let near = word_at-lt c.self.inside.bytes.now c.self.invariant.parts.are_bytes 6 in
    let size = c.self.invariant.size in
    let start = c.self.invariant.start in
    let most : c.args.i * c.self.inside.size ≤ 65536 * c.self.inside.size = mul-le-mul_right c.self.inside.size (omega (arith, few)) in
    omega (arith, small, near, size, start, most)

pub returns-then-i-self-clause-place : goal.returns-then-i-self-clause-place
returns-then-i-self-clause-place c = sym (place-last c.self.inside.bytes.now c.self.invariant.parts c.args.i (c.if-i-self.true ∙ c.self.invariant.count)) ∙ ap (λ (v : Viewed). element_place v.array c.args.i) c.self.view_is

pub returns-else-self-eq0-clause-place : goal.returns-else-self-eq0-clause-place
returns-else-self-eq0-clause-place c =
    let one : word_at c.self.inside.bytes.now 2 ≢ 0 = λ e. c.if-self-eq0.false (c.self.invariant.size ∙ e) in
    let count : length c.args.self.now.array.elements ≡ word_at c.self.inside.bytes.now 0 = ap (λ (v : Viewed). length v.array.elements) (sym c.self.view_is) ∙ length-elements_read c.self.inside.bytes.now in
    let least = c.requires in
    ap (λ (s : ℕ). s + c.args.i * c.self.inside.size) c.self.invariant.start
    ∙ ap (λ (s : ℕ). word_at c.self.inside.bytes.now 6 + c.args.i * s) c.self.invariant.size
    ∙ sym (place-even c.self.inside.bytes.now c.self.invariant.parts one c.args.i (omega (arith, count, least)))
    ∙ ap (λ (v : Viewed). element_place v.array c.args.i) c.self.view_is

pub returns-then-i-self-clause-near : goal.returns-then-i-self-clause-near
returns-then-i-self-clause-near c = λ any below.
    let there = c.self.invariant.count in
    let count : length c.args.self.now.array.elements ≡ word_at c.self.inside.bytes.now 0 = ap (λ (v : Viewed). length v.array.elements) (sym c.self.view_is) ∙ length-elements_read c.self.inside.bytes.now in
    let last = c.if-i-self.true in
    absurd (omega (arith, there, count, last, below))
