use Rattle.std.proofs.Common.{◌≡◌, ◌∙◌, ◌+◌, ◌-◌, ℕ, List, sym, ap, length, get_or, drop, arith}
use Rattle.chunk_arrays.proofs.CutLemmas.{word_at-lt}
use Rattle.geos_model.specs.LargeLayout.{Root}
use Rattle.large_bodies.specs.RootParts.{branches_in}
use Rattle.geos_model.specs.Spread.{start_place}
use Rattle.large_bodies.proofs.RootLemmas.{length-counts_read, length-branches_read}
use Rattle.large_bodies.proofs.PlaceSteps.{shifted, start-next, start-last}
use Rattle.large_bodies.proofs.PlaceBlocks.{start-passed}
use Rattle.large_bodies.proofs.root.RootView.start_place.Goals as goal

pub loop-k-init : goal.loop-k-init
loop-k-init c = start-passed c.args.self.now.counts c.passed-first.result.0 c.passed-first.result.1 c.args.i c.passed-first.ensures.within c.passed-first.ensures.value

pub count-requires : goal.count-requires
count-requires c =
    let bytes : List ℕ = c.self.inside.bytes.now in
    let many : length c.args.self.now.counts ≡ branches_in bytes = ap (λ (r : Root). length r.counts) (sym c.self.view_is) ∙ length-counts_read bytes in
    let all = c.self.invariant.branches in
    let low = c.loop-k-test.true in
    omega (arith, many, all, low)

pub loop-k-preserved : goal.loop-k-preserved
loop-k-preserved c =
    let bytes : List ℕ = c.self.inside.bytes.now in
    let counts : List ℕ = c.args.self.now.counts in
    let k : ℕ = c.loop-k.k in
    let left : ℕ = c.loop-k.left in
    let many : length counts ≡ branches_in bytes = ap (λ (r : Root). length r.counts) (sym c.self.view_is) ∙ length-counts_read bytes in
    let all = c.self.invariant.branches in
    let low = c.loop-k-test.true in
    let count : c.from-count.result ≡ get_or counts k 0 = c.from-count.ensures ∙ c.count.ensures in
    let past = c.if-left-count.false in
    c.loop-k.invariant
    ∙ start-next counts k left (omega (arith, many, all, low)) (omega (arith, count, past))
    ∙ ap (λ (x : ℕ). shifted (k + 1) (start_place (drop (k + 1) counts) (left - x))) (sym count)

pub returns-clause-value : goal.returns-clause-value
returns-clause-value c =
    let bytes : List ℕ = c.self.inside.bytes.now in
    let counts : List ℕ = c.args.self.now.counts in
    let k : ℕ = c.loop-k.k in
    let left : ℕ = c.loop-k.left in
    let many : length counts ≡ branches_in bytes = ap (λ (r : Root). length r.counts) (sym c.self.view_is) ∙ length-counts_read bytes in
    let all = c.self.invariant.branches in
    let some = c.self.invariant.parts.head.length.some in
    let from = c.loop-k-test.false in
    let upto = c.loop-k.auto.k-end in
    let within = c.passed-first.ensures.within in
    let end : k + 0 ≡ c.self.inside.branches - 1 = omega (arith, many, all, some, from, upto, within) in
    sym (c.loop-k.invariant ∙ ap (shifted k) (start-last counts k left (omega (arith, many, all, some, from, upto, within))) ∙ ap (λ (m : ℕ). (m, left)) end)

pub returns-then-left-count-clause-within : goal.returns-then-left-count-clause-within
returns-then-left-count-clause-within c =
    let bytes : List ℕ = c.self.inside.bytes.now in
    let many : length c.args.self.now.counts ≡ branches_in bytes = ap (λ (r : Root). length r.counts) (sym c.self.view_is) ∙ length-counts_read bytes in
    let all = c.self.invariant.branches in
    let low = c.loop-k-test.true in
    omega (arith, many, all, low)

pub returns-clause-within : goal.returns-clause-within
returns-clause-within c =
    let bytes : List ℕ = c.self.inside.bytes.now in
    let many : length c.args.self.now.counts ≡ branches_in bytes = ap (λ (r : Root). length r.counts) (sym c.self.view_is) ∙ length-counts_read bytes in
    let all = c.self.invariant.branches in
    let some = c.self.invariant.parts.head.length.some in
    omega (arith, many, all, some)

pub returns-then-left-count-clause-branch : goal.returns-then-left-count-clause-branch
returns-then-left-count-clause-branch c =
    let bytes : List ℕ = c.self.inside.bytes.now in
    let many : length c.args.self.now.branches ≡ branches_in bytes = ap (λ (r : Root). length r.branches) (sym c.self.view_is) ∙ length-branches_read bytes in
    let all = c.self.invariant.branches in
    let low = c.loop-k-test.true in
    omega (arith, many, all, low)

pub returns-clause-branch : goal.returns-clause-branch
returns-clause-branch c =
    let bytes : List ℕ = c.self.inside.bytes.now in
    let many : length c.args.self.now.branches ≡ branches_in bytes = ap (λ (r : Root). length r.branches) (sym c.self.view_is) ∙ length-branches_read bytes in
    let all = c.self.invariant.branches in
    let some = c.self.invariant.parts.head.length.some in
    omega (arith, many, all, some)

pub returns-then-left-count-clause-few : goal.returns-then-left-count-clause-few
returns-then-left-count-clause-few c =
    let most = word_at-lt c.self.inside.bytes.now c.self.invariant.are_bytes 4 in
    let all = c.self.invariant.branches in
    let low = c.loop-k-test.true in
    omega (arith, most, all, low)

pub returns-clause-few : goal.returns-clause-few
returns-clause-few c =
    let most = word_at-lt c.self.inside.bytes.now c.self.invariant.are_bytes 4 in
    let all = c.self.invariant.branches in
    omega (arith, most, all)
