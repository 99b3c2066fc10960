use Rattle.std.proofs.Common.{◌≡◌, ◌∙◌, ◌+◌, ◌-◌, ◌≤◌, ◌∷◌, [], ℕ, List, length, take, drop, inr, refl, ap, arith}
use Rattle.geos_model.specs.Array.{Array, array_bytes}
use Rattle.geos_model.specs.ArrayEdits.{with_elements}
use Rattle.geos_model.specs.Words.{word}
use Rattle.geos_model.proofs.Arrays.{length-array_bytes, length-elements}
use Rattle.chunk_edits.specs.Patching.{Keep, Put}
use Rattle.chunk_arrays.proofs.PlaceLemmas.{place-order, place-within}
use Rattle.chunk_arrays.proofs.ReplacingLemmas.{accepted-short, refused-long}
use Rattle.chunk_arrays.proofs.RewritingLemmas.{length-spliced}
use Rattle.chunk_arrays.proofs.SplicedLemmas.{splice-leads, splice-long, splice-runs}
use Rattle.chunk_arrays.proofs.even.splice_even.Goals as goal
use Rattle.chunk_arrays.proofs.even.splice_even.Goals.{After-place-end}

-- the elements that go begin and end within the bytes
ends_are : (c : After-place-end) → (c.place-start.result ≤ c.place-end.result) × (c.place-end.result ≤ length c.bytes-bytes.result.now) × (length c.bytes-bytes.result.now ≤ 65498)
ends_are c =
    let a : Array = c.args.view.now.array in
    let up = place-order a c.args.from c.args.to c.requires.order in
    let within = place-within a c.args.to c.requires.within in
    let long = ap length c.bytes-bytes.ensures in
    let start = c.place-start.ensures.place in
    let end = c.place-end.ensures.place in
    let short = c.requires.short in
    (omega (arith, up, start, end), omega (arith, within, long, end), omega (arith, long, short))

pub overflow_sub-end : goal.overflow_sub-end
overflow_sub-end c = (ends_are c).0

pub overflow_sub-bytes : goal.overflow_sub-bytes
overflow_sub-bytes c = let ends = ends_are c in let last = ends.1 in omega (arith, last)

pub returns-then-bytes-end-gt-LONGEST_CHUNK : goal.returns-then-bytes-end-gt-LONGEST_CHUNK
returns-then-bytes-end-gt-LONGEST_CHUNK c = λ ys are.
    let a : Array = c.args.view.now.array in
    let ends = ends_are (goal.at.returns-then-bytes-end-gt-LONGEST_CHUNK c).After-place-end in
    let first = ends.0 in let last = ends.1 in
    let sum = splice-long a c.args.from c.args.to ys c.requires.even c.requires.order c.requires.within in
    let long = ap length c.bytes-bytes.ensures in
    let start = c.place-start.ensures.place in
    let end = c.place-end.ensures.place in
    let new = ap length are.joined in
    inr (refused-long _ (omega (arith, first, last, sum, long, start, end, new, c.if-bytes-end-gt-LONGEST_CHUNK.true)))

pub overflow_cast-count : goal.overflow_cast-count
overflow_cast-count c =
    let a : Array = c.args.view.now.array in
    let all = length-array_bytes a in
    let few = length-elements a c.args.view.now.even in
    let short = c.requires.short in
    let one = c.requires.few in
    let count = c.count.ensures in
    omega (arith, all, few, short, one, count)

pub counted_patch-requires-clause-order : goal.counted_patch-requires-clause-order
counted_patch-requires-clause-order c = (ends_are (goal.at.counted_patch-requires-clause-order c).After-place-end).0

pub counted_patch-requires-clause-within : goal.counted_patch-requires-clause-within
counted_patch-requires-clause-within c = (ends_are (goal.at.counted_patch-requires-clause-within c).After-place-end).1

pub overflow_cast-runs : goal.overflow_cast-runs
overflow_cast-runs c =
    let ends = ends_are (goal.at.overflow_cast-runs c).After-place-end in
    let first = ends.0 in let last = ends.1 in let short = ends.2 in omega (arith, first, last, short)

pub overflow_sub-runs : goal.overflow_sub-runs
overflow_sub-runs c = (ends_are (goal.at.overflow_sub-runs c).After-place-end).0

pub overflow_cast-runs-2 : goal.overflow_cast-runs-2
overflow_cast-runs-2 c =
    let ends = ends_are (goal.at.overflow_cast-runs-2 c).After-place-end in
    let last = ends.1 in let short = ends.2 in omega (arith, last, short)

pub returns : goal.returns
returns c = λ ys are.
    let a : Array = c.args.view.now.array in
    let bytes : List ℕ = c.bytes-bytes.result.now in
    let from : ℕ = c.args.from in let to : ℕ = c.args.to in
    let start : ℕ = c.place-start.result in let end : ℕ = c.place-end.result in
    let new : List ℕ = c.args.new.now in
    let count : ℕ = c.count.result - (to - from) + c.args.others in
    let ends = ends_are (goal.at.returns c).After-place-end in
    let first = ends.0 in let last = ends.1 in
    let sum = splice-long a from to ys c.requires.even c.requires.order c.requires.within in
    let same : bytes ≡ array_bytes a = c.bytes-bytes.ensures in
    let long = ap length same in
    let start_is = c.place-start.ensures.place in
    let end_is = c.place-end.ensures.place in
    let come = ap length are.joined in
    let many = length-spliced a.elements ys from to c.requires.order c.requires.within in
    let others = are.many in
    let all = c.count.ensures in
    let count_is : count ≡ length (with_elements a from to ys).elements = (let order = c.requires.order in let within = c.requires.within in omega (arith, many, others, all, order, within)) in
    let short : length (array_bytes (with_elements a from to ys)) ≤ 65498 = omega (arith, first, last, sum, long, start_is, end_is, come, c.if-bytes-end-gt-LONGEST_CHUNK.false) in
    record {
      replaces = record {
        accepted = accepted-short _ short;
        leads = splice-leads a from to ys c.requires.even c.requires.order c.requires.within count start end new c.in_ok-patch.patch count_is start_is end_is are.joined
            (c.in_ok-patch.ensures ∙ ap (λ (l : List ℕ). Put (take 2 l) (word count) ∷ Keep (start - 2) ∷ Put (take (end - start) (drop start l)) new ∷ Keep (length l - end) ∷ []) same);
      };
      runs = λ low. splice-runs a from to ys c.requires.even c.requires.order c.requires.within c.args.view.now.even are.even are.few
          c.args.others count _ start end _ _ others count_is refl start_is end_is come low (omega (arith, short)) c.head_with.ensures;
    }
