use Rattle.std.proofs.Common.{◌≡◌, ◌<◌, ◌+◌, ◌-◌, ◌*◌, ◌==◌, ◌&&◌, ◌||◌, if◌then◌else◌, Bool, true, false, ℕ, List, Option, Some, None, length, take, drop, sym, ap, ap₂, ◌∙◌, arith}
use Rattle.std.proofs.lemmas.Bool.{cond-true, cond-false}
use Rattle.geos_model.specs.Bytes.{same_bytes}
use Rattle.geos_model.specs.Array.{Array, array_bytes}
use Rattle.geos_model.proofs.Arrays.{joined}
use Rattle.chunk_arrays.specs.Reading.{elements_start}
use Rattle.chunk_arrays.specs.Rewriting.{elements_of, extra_after, rewritten}
use Rattle.chunk_arrays.proofs.PlaceLemmas.{place-order, place-step}
use Rattle.chunk_arrays.proofs.RewritingLemmas.{cut, head_room, length-array, length_joined-splice}
use Rattle.chunk_arrays.proofs.RewrittenLemmas.{few_elements}
use Rattle.chunk_arrays.proofs.RunsLemmas.{length_between, length-parts, start_same, runs_are}
use Rattle.chunk_arrays.proofs.runs.runs_of.Goals as goal
use Rattle.chunk_arrays.proofs.runs.runs_of.Goals.{After-table_len, After-place-start, then-keeps_head, else-keeps_head}

pub overflow_sub-gone : goal.overflow_sub-gone
overflow_sub-gone c =
    let up = place-order c.args.view.now.array c.args.from c.args.to c.requires.order in
    let start = c.place-start.ensures.place in
    let end = c.place.ensures.place in
    omega (arith, up, start, end)

-- the table of so many places, which is not cut
table_is : (any : Bool) (count n table : ℕ) → count ≡ n → n < 65536 → table ≡ cut (if any then 2 * count else 0) → table ≡ (if any then 2 * n else 0)
table_is true count n table same few table_same = omega (arith, same, few, table_same)
table_is false count n table same few table_same = omega (arith, table_same)

table_low : (any : Bool) (n : ℕ) → n < 65536 → (if any then 2 * n else 0) < 131072
table_low true n few = omega (arith, few)
table_low false n few = omega arith

-- what comes then
abbrev new : After-table_len → Array
new c = rewritten c.args.view.now.array (extra_after c.args.view.now.array c.args.first.now) c.args.from c.args.to c.args.new

count_is : (c : After-table_len) → (c.count_after-count.result ≡ length (new c).elements) × (length (new c).elements < 65536)
count_is c = let r = head_room (new c) c.count_after-count.result c.requires.even c.requires.short c.count_after-count.ensures in (r.0, (let is = r.0 in let low = r.1 in omega (arith, is, low)))

head_is : (c : After-table_len) → length c.extra.result.now + 8 + c.table_len.result ≡ elements_start (new c)
head_is c =
    let a : Array = c.args.view.now.array in
    let count = count_is c in
    let table = table_is (a.size == 0) c.count_after-count.result (length (new c).elements) c.table_len.result count.0 count.1 c.table_len.ensures in
    let extra = ap length c.extra.ensures in
    let start = start_same a c.args.first.now c.args.from c.args.to (elements_of c.args.new) c.requires.extra c.requires.order c.requires.within in
    omega (arith, table, extra, start)

-- the elements before those that go
before_is : (c : After-place-start) → c.place-start.result - c.place-head.result ≡ length (joined (take c.args.from c.args.view.now.array.elements))
before_is c =
    let start = c.place-start.ensures.place in
    let head = c.place-head.ensures.place in
    omega (arith, start, head)

long : (c : After-table_len) → length (array_bytes (new c)) ≡ elements_start (new c) + length (joined (take c.args.from c.args.view.now.array.elements)) + length (joined (elements_of c.args.new)) + length (joined (drop c.args.to c.args.view.now.array.elements))
long c =
    let all = length-array (new c) in
    let parts = length_joined-splice c.args.view.now.array.elements (elements_of c.args.new) c.args.from c.args.to in
    omega (arith, all, parts)

pub overflow_add-new_head-3 : goal.overflow_add-new_head-3
overflow_add-new_head-3 c =
    let head = head_is (goal.at.overflow_add-new_head-3 c).After-table_len in
    let before = before_is (goal.at.overflow_add-new_head-3 c).After-place-start in
    let all = long (goal.at.overflow_add-new_head-3 c).After-table_len in
    let short = c.requires.short in
    omega (arith, head, before, all, short)

-- the same numbers of the bytes before the elements
some_head : (kept : Bool) (h : Option (ℕ × ℕ)) (m n m′ n′ : ℕ) → kept ≡ false → h ≡ Some (m, n) → m ≡ m′ → n ≡ n′ → h ≡ (if kept then None else Some (m′, n′))
some_head kept h m n m′ n′ moved is m_is n_is = is ∙ ap₂ (λ (x y : ℕ). Some (x, y)) m_is n_is ∙ sym (cond-false kept None (Some (m′, n′)) moved)

-- the test of the same numbers
kept_of : (kept extra : Bool) (to all count count′ gone gone′ come come′ : ℕ) → kept ≡ (count == all && (extra && (to == all || gone == come)))
    → count ≡ count′ → gone ≡ gone′ → come ≡ come′ → kept ≡ (count′ == all && (extra && (to == all || gone′ == come′)))
kept_of kept extra to all count count′ gone gone′ come come′ is count_same gone_same come_same =
    is
    ∙ ap₂ (λ (n m : ℕ). n == all && (extra && (to == all || m == come))) count_same gone_same
    ∙ ap (λ (n : ℕ). count′ == all && (extra && (to == all || gone′ == n))) come_same

pub returns : goal.returns
returns c = λ low.
    let a : Array = c.args.view.now.array in
    let ys : List (List ℕ) = elements_of c.args.new in
    let at = goal.at.returns c in
    let head = head_is at.After-table_len in
    let before = before_is at.After-place-start in
    let all = long at.After-table_len in
    let count = count_is at.After-table_len in
    let short = c.requires.short in
    let place = c.place-head.ensures.place in
    let old = length-array a in
    let parts = length-parts a.elements ys c.args.from c.args.to c.requires.order in
    let step = place-step a c.args.from c.args.to c.requires.order in
    let start = c.place-start.ensures.place in
    let end = c.place.ensures.place in
    let gone : c.place.result - c.place-start.result ≡ length_between a.elements c.args.from c.args.to = omega (arith, step, start, end) in
    let come : c.new_len-come.result ≡ length (joined ys) = (let cut_is = c.new_len-come.ensures in omega (arith, cut_is, all, short)) in
    let at_number : c.number-2.result ≡ length c.extra.result.now + 8 + c.table_len.result + length (joined (take c.args.from a.elements)) =
    (let sum = c.number-2.ensures (omega (arith, head, before, all, short)) in omega (arith, sum, before)) in
    let gone_number : c.number-3.result ≡ length_between a.elements c.args.from c.args.to = c.number-3.ensures (omega (arith, gone, old, parts, low)) ∙ gone in
    let come_number : c.number-4.result ≡ length (joined ys) = c.number-4.ensures (omega (arith, come, all, short)) ∙ come in
    let heads : c.if-keeps_head.result ≡ (if c.keeps_head.result then None else Some (c.place-head.result, length c.extra.result.now + 8 + c.table_len.result)) = elim c.if-keeps_head.branch [
      | then-keeps_head w ↦ w.result-is ∙ sym (cond-true c.keeps_head.result _ _ w.if-keeps_head.true)
      | else-keeps_head w ↦
          some_head c.keeps_head.result _ _ _ _ _ w.if-keeps_head.false w.result-is
          (w.number.ensures (omega (arith, place, old, low))) (w.number-else-keeps_head.ensures (omega (arith, head, all, short)))
    ] in
    let kept = kept_of c.keeps_head.result (same_bytes (take (length c.args.first.now) a.extra) c.args.first.now) c.args.to (length a.elements) _ _ _ _ _ _ c.keeps_head.ensures count.0 gone come in
    runs_are a c.args.first.now c.args.from c.args.to ys c.requires.extra c.requires.order c.requires.within
    (few_elements c.args.new c.args.from c.args.to c.requires.one) c.args.view.now.even c.requires.even low (omega (arith, short))
    c.keeps_head.result c.place-head.result (length c.extra.result.now + 8 + c.table_len.result) c.number-2.result c.number-3.result c.number-4.result c.if-keeps_head.result
    kept (omega (arith, place)) head at_number gone_number come_number heads
