use Rattle.std.proofs.Common.{◌≡◌, ◌-◌, ◌≤◌, ◌<◌, ℕ, length, take, drop, get_or, arith, ap, ◌∙◌, length-drop}
use Rattle.std.proofs.lemmas.List.{take_rest}
use Rattle.chunk_edits.specs.Spans.{own, extent}
use Rattle.chunk_edits.specs.declared.held.Span.{Span}
use Rattle.chunk_edits.specs.declared.held.Span.TheVariants as spans
use Rattle.chunk_edits.proofs.SpanLemmas.{next_own, begun_reach, goes_on_same}
use Rattle.chunk_edits.proofs.patch.are_of.Goals.{In-loop-span}
use Rattle.chunk_edits.proofs.patch.are_of.Goals as goal

-- the span that is next
module _ (c : In-loop-span) where
  less : c.loop-span.span-index < length c.args.spans.now
  less = omega arith

  abbrev span : Span
  span = get_or c.args.spans.now c.loop-span.span-index (spans.Keep 0)

  room : own span ≤ length c.loop-span.row.now
  room = let w = c.loop-span.invariant.whole in let n = next_own c.args.spans.now c.loop-span.span-index less in omega (arith, w, n)

pub begins-requires : goal.begins-requires
begins-requires c = room (goal.at.begins-requires c).In-loop-span

pub slice_bounds-rest-count : goal.slice_bounds-rest-count
slice_bounds-rest-count c =
    let s = (goal.at.slice_bounds-rest-count c).In-loop-span in
    let reach = begun_reach c.args.spans.now c.loop-span.span-index (less s) c.args.direction c.loop-span.row.now c.loop-span.rest.now (room s) (c.begins.ensures.0 c.if-not-begins.false) in
    omega (arith, reach, c.extent.ensures)

pub slice_bounds-rest-start : goal.slice_bounds-rest-start
slice_bounds-rest-start c = slice_bounds-rest-count c

pub loop-span-preserved : goal.loop-span-preserved
loop-span-preserved c =
    let s = (goal.at.loop-span-preserved c).In-loop-span in
    let row = c.loop-span.row.now in
    let rest = c.loop-span.rest.now in
    let left : take (length row - c.own.result) (drop c.own.result row) ≡ drop (own (span s)) row = take_rest row c.own.result ∙ ap (λ (n : ℕ). drop n row) c.own.ensures in
    let on : take (length rest - c.extent.result) (drop c.extent.result rest) ≡ drop (extent c.args.direction (span s)) rest = take_rest rest c.extent.result ∙ ap (λ (n : ℕ). drop n rest) c.extent.ensures in
    record {
      whole = (let w = c.loop-span.invariant.whole in let n = next_own c.args.spans.now c.loop-span.span-index (less s) in omega (arith, w, n, ap length left, length-drop (own (span s)) row));
      same = goes_on_same c.args.spans.now c.loop-span.span-index (less s) c.args.direction row rest (room s) _ _ _ left on (c.begins.ensures.0 c.if-not-begins.false) c.loop-span.invariant.same;
    }
