use Rattle.std.proofs.Common.{◌≡◌, ◌≤◌, ◌<◌, ◌+◌, ◌-◌, ◌∷◌, ℕ, List, length, get_or, take, drop, max, arith, length-drop, sym, ap, subst, ◌∙◌}
use Rattle.std.proofs.lemmas.List.{take_rest}
use Rattle.chunk_edits.specs.Patching.{PatchPiece, taken, given, peak, directed_piece, directed_pieces}
use Rattle.chunk_edits.specs.Spans.{own, piece_of, pieces_of, total_own}
use Rattle.chunk_edits.specs.declared.held.Span.{Span}
use Rattle.chunk_edits.specs.declared.held.Span.TheVariants as spans
use Rattle.chunk_edits.proofs.SpanLemmas.{next_own, next_pieces}
use Rattle.chunk_edits.proofs.CarryingLemmas.{IsUnderWay, begins, next_within, next_room, next_fits, goes_on, directed_peak}
use Rattle.chunk_edits.proofs.patch.apply_raw_spans.Goals.{In-loop-span}
use Rattle.chunk_edits.proofs.patch.apply_raw_spans.Goals as goal

pub loop-span-init : goal.loop-span-init
loop-span-init c = record {
  whole = c.requires.whole;
  way = begins (directed_pieces c.args.direction (pieces_of c.args.spans.now c.args.content.now)) c.args.body.now c.requires.size;
}

-- the span that is next, and the pieces behind it
module _ (c : In-loop-span) where
  less : c.loop-span.span-index < length c.args.spans.now
  less = omega arith

  span : Span
  span = get_or c.args.spans.now c.loop-span.span-index (spans.Keep 0)

  all : List PatchPiece
  all = directed_pieces c.args.direction (pieces_of c.args.spans.now c.args.content.now)

  behind : List PatchPiece
  behind = directed_pieces c.args.direction (pieces_of (drop (c.loop-span.span-index + 1) c.args.spans.now) (drop (own span) c.loop-span.row.now))

  next : PatchPiece
  next = directed_piece c.args.direction (piece_of span c.loop-span.row.now)

  way : IsUnderWay all (next ∷ behind) c.args.body.now c.loop-span.body c.loop-span.at
  unfolding span all behind next
  way =
      subst (λ (l : List PatchPiece). IsUnderWay all l c.args.body.now c.loop-span.body c.loop-span.at)
      (next_pieces c.args.spans.now c.loop-span.span-index less c.args.direction c.loop-span.row.now) c.loop-span.invariant.way

  whole : own span + total_own (drop (c.loop-span.span-index + 1) c.args.spans.now) ≡ length c.loop-span.row.now
  unfolding span
  whole = sym (next_own c.args.spans.now c.loop-span.span-index less) ∙ c.loop-span.invariant.whole

  -- there is room for as many bytes as there are at most
  few : peak all ≤ 65520
  unfolding all
  few =
      let same = directed_peak c.args.direction (pieces_of c.args.spans.now c.args.content.now) in
      omega (arith, same, c.requires.room)

  room : c.loop-span.at + max (taken next) (given next) ≤ 65520
  room = let step = next_room next all behind c.args.body.now c.loop-span.body c.loop-span.at way in omega (arith, step, few)

pub apply_raw_span-at-requires-clause-whole : goal.apply_raw_span-at-requires-clause-whole
unfolding span
apply_raw_span-at-requires-clause-whole c =
    let w = whole (goal.at.apply_raw_span-at-requires-clause-whole c).In-loop-span in omega (arith, w)

pub apply_raw_span-at-requires-clause-within : goal.apply_raw_span-at-requires-clause-within
unfolding span all behind next
apply_raw_span-at-requires-clause-within c =
    let s = (goal.at.apply_raw_span-at-requires-clause-within c).In-loop-span in
    next_within (next s) (all s) (behind s) c.args.body.now c.loop-span.body c.loop-span.at (way s)

pub apply_raw_span-at-requires-clause-before : goal.apply_raw_span-at-requires-clause-before
unfolding span next
apply_raw_span-at-requires-clause-before c =
    let r = room (goal.at.apply_raw_span-at-requires-clause-before c).In-loop-span in omega (arith, r)

pub apply_raw_span-at-requires-clause-after : goal.apply_raw_span-at-requires-clause-after
unfolding span next
apply_raw_span-at-requires-clause-after c =
    let r = room (goal.at.apply_raw_span-at-requires-clause-after c).In-loop-span in omega (arith, r)

pub apply_raw_span-at-requires-clause-room : goal.apply_raw_span-at-requires-clause-room
unfolding span all behind next
apply_raw_span-at-requires-clause-room c =
    let s = (goal.at.apply_raw_span-at-requires-clause-room c).In-loop-span in
    let fits = next_fits (next s) (all s) (behind s) c.args.body.now c.loop-span.body c.loop-span.at (way s) in
    omega (arith, fits, few s)

pub loop-span-preserved : goal.loop-span-preserved
unfolding span all behind next
loop-span-preserved c =
    let s = (goal.at.loop-span-preserved c).In-loop-span in
    let row : List ℕ = c.loop-span.row.now in
    let left : take (length row - c.own.result) (drop c.own.result row) ≡ drop (own (span s)) row = take_rest row c.own.result ∙ ap (λ (n : ℕ). drop n row) c.own.ensures in
    let on = goes_on (next s) (all s) (behind s) c.args.body.now c.loop-span.body c.loop-span.at (way s) in
    record {
      whole = (let w = whole s in omega (arith, w, ap length left, length-drop (own (span s)) row));
      way = subst (λ (l : List ℕ). IsUnderWay (all s) (directed_pieces c.args.direction (pieces_of (drop (c.loop-span.span-index + 1) c.args.spans.now) l)) c.args.body.now c.apply_raw_span-at.new.body c.apply_raw_span-at.result)
          (sym left) (rw (c.apply_raw_span-at.ensures.bytes, c.apply_raw_span-at.ensures.place) on);
    }
