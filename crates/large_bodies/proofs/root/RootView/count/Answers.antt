use Rattle.std.proofs.Common.{◌≡◌, ◌∙◌, ℕ, List, sym, ap, length, get_or, zero-add, arith}
use Rattle.std.proofs.lemmas.List.FromFn.{get_or-map-range_with_len}
use Rattle.geos_model.specs.LargeLayout.{Root}
use Rattle.large_bodies.specs.RootParts.{branches_in, count_in}
use Rattle.large_bodies.proofs.RootLemmas.{length-counts_read}
use Rattle.large_bodies.proofs.root.RootView.count.Goals as goal

pub overflow_mul-k : goal.overflow_mul-k
overflow_mul-k c =
    let bytes : List ℕ = c.self.inside.bytes.now in
    let many : length c.args.self.now.counts ≡ branches_in bytes = ap (λ (r : Root). length r.counts) (sym c.self.view_is) ∙ length-counts_read bytes in
    let low = c.requires in
    let long = c.self.invariant.parts.head.length.long in
    let short = c.self.invariant.short in
    omega (arith, many, low, long, short)

pub overflow_add-k : goal.overflow_add-k
overflow_add-k c =
    let bytes : List ℕ = c.self.inside.bytes.now in
    let many : length c.args.self.now.counts ≡ branches_in bytes = ap (λ (r : Root). length r.counts) (sym c.self.view_is) ∙ length-counts_read bytes in
    let low = c.requires in
    let long = c.self.invariant.parts.head.length.long in
    let short = c.self.invariant.short in
    omega (arith, many, low, long, short)

pub word-requires : goal.word-requires
word-requires c =
    let bytes : List ℕ = c.self.inside.bytes.now in
    let many : length c.args.self.now.counts ≡ branches_in bytes = ap (λ (r : Root). length r.counts) (sym c.self.view_is) ∙ length-counts_read bytes in
    let low = c.requires in
    let long = c.self.invariant.parts.head.length.long in
    omega (arith, many, low, long)

pub returns : goal.returns
returns c =
    let bytes : List ℕ = c.self.inside.bytes.now in
    let k : ℕ = c.args.k in
    let many : length c.args.self.now.counts ≡ branches_in bytes = ap (λ (r : Root). length r.counts) (sym c.self.view_is) ∙ length-counts_read bytes in
    let low = c.requires in
    c.word.ensures
    ∙ sym (get_or-map-range_with_len (count_in bytes) 0 (branches_in bytes) k k 0 (omega (arith, many, low)) (zero-add k))
    ∙ ap (λ (r : Root). get_or r.counts k 0) c.self.view_is
