use Rattle.std.proofs.Common.{◌≡◌, ◌≤◌, ◌<◌, ℕ, List, length, slice_index, subst, sym, arith}
use Rattle.std.specs.List.Sorted.{IsNonDecreasing}
use Rattle.file_salvage.proofs.RowLemmas.{ends_same, ends_put, ends_sorted, place_is}
use Rattle.file_salvage.proofs.rows.reach.Goals as goal

pub returns-then-number-eq0-clause-ends : goal.returns-then-number-eq0-clause-ends
returns-then-number-eq0-clause-ends c = ends_same c.args.numbers.now c.args.i c.args.ends.now.items c.if-number-eq0.true c.requires.ends

pub count_below-before-requires : goal.count_below-before-requires
count_below-before-requires c = subst IsNonDecreasing (sym c.as_slice.ensures.value) (ends_sorted c.args.numbers.now c.args.i c.args.ends.now.items c.requires.ends)

pub returns-clause-ends : goal.returns-clause-ends
returns-clause-ends c =
    let numbers = c.args.numbers.now in
    let i = c.args.i in
    let old = c.args.ends.now.items in
    let place = c.count_below-before.result in
    let is : c.as_slice.result.now ≡ old = c.as_slice.ensures.value in
    let within : place ≤ length old = subst (λ (l : List ℕ). place ≤ length l) is c.count_below-before.ensures.bound in
    let below = subst (λ (l : List ℕ). (k : ℕ) → k < place → slice_index l k ≤ slice_index numbers i) is c.count_below-before.ensures.below in
    let above = subst (λ (l : List ℕ). (k : ℕ) → place ≤ k → k < length l → slice_index numbers i < slice_index l k) is c.count_below-before.ensures.above in
    let found = place_is numbers i (slice_index numbers i) place old c.requires.ends within below above in
    ends_put numbers i place old c.put.new.ends.items c.requires.ends (omega (arith, c.if-number-eq0.false)) found within below above c.in_ok-put.ensures.count c.in_ok-put.ensures.put c.in_ok-put.ensures.others

pub returns-clause-reach : goal.returns-clause-reach
returns-clause-reach c = λ some.
    let numbers = c.args.numbers.now in
    let i = c.args.i in
    let old = c.args.ends.now.items in
    let place = c.count_below-before.result in
    let is : c.as_slice.result.now ≡ old = c.as_slice.ensures.value in
    let within : place ≤ length old = subst (λ (l : List ℕ). place ≤ length l) is c.count_below-before.ensures.bound in
    let below = subst (λ (l : List ℕ). (k : ℕ) → k < place → slice_index l k ≤ slice_index numbers i) is c.count_below-before.ensures.below in
    let above = subst (λ (l : List ℕ). (k : ℕ) → place ≤ k → k < length l → slice_index numbers i < slice_index l k) is c.count_below-before.ensures.above in
    let found = place_is numbers i (slice_index numbers i) place old c.requires.ends within below above in
    omega (arith, found)
