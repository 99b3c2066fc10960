use Rattle.std.proofs.Common.{◌≡◌, ◌≤◌, ◌<◌, ◌+◌, ◌-◌, ◌∷◌, ℕ, true, List, length, get_or, take, drop, max, arith, length-drop, sym, ap, subst, ◌∙◌}
use Rattle.std.proofs.lemmas.List.{take_rest}
use Rattle.std.specs.FinMap.{insert, contains_key}
use Rattle.geos_model.specs.Heap.{ChunkMap, chunk_bytes, fits_with}
use Rattle.chunk_edits.specs.Patching.{PatchPiece, taken, given, peak, directed_piece, directed_pieces, with_piece}
use Rattle.chunk_edits.specs.Spans.{own, piece_of, pieces_of, total_own}
use Rattle.chunk_edits.specs.declared.held.Span.{Span}
use Rattle.chunk_edits.specs.declared.held.Span.TheVariants as spans
use Rattle.chunk_edits.proofs.SpanLemmas.{next_own, next_pieces}
use Rattle.chunk_edits.proofs.CarryingLemmas.{IsUnderWay, begins, next_within, next_room, next_fits, goes_on, directed_peak, insert_own, insert_again, chunk_again, live_again, fits_within, room_le}
use Rattle.chunk_edits.proofs.patch.apply_spans.Goals.{In-loop-span}
use Rattle.chunk_edits.proofs.patch.apply_spans.Goals as goal

pub loop-span-init : goal.loop-span-init
loop-span-init c = record {
  chunks = insert_own c.args.heap.now.chunks c.args.h.0 c.requires.live;
  whole = c.requires.whole;
  way = begins (directed_pieces c.args.direction (pieces_of c.args.spans.now c.args.content.now)) (chunk_bytes c.args.heap.now.chunks c.args.h.0) c.requires.size;
}

-- the span that is next, and the pieces behind it
module _ (c : In-loop-span) where
  less : c.loop-span.span-index < length c.args.spans.now
  less = omega arith

  span : Span
  span = get_or c.args.spans.now c.loop-span.span-index (spans.Keep 0)

  all : List PatchPiece
  all = directed_pieces c.args.direction (pieces_of c.args.spans.now c.args.content.now)

  behind : List PatchPiece
  behind = directed_pieces c.args.direction (pieces_of (drop (c.loop-span.span-index + 1) c.args.spans.now) (drop (own span) c.loop-span.row.now))

  next : PatchPiece
  next = directed_piece c.args.direction (piece_of span c.loop-span.row.now)

  old : List ℕ
  old = chunk_bytes c.args.heap.now.chunks c.args.h.0

  now : List ℕ
  now = chunk_bytes c.loop-span.heap.chunks c.args.h.0

  way : IsUnderWay all (next ∷ behind) old now c.loop-span.at
  unfolding span all behind next old now
  way =
      subst (λ (l : List PatchPiece). IsUnderWay all l old now c.loop-span.at)
      (next_pieces c.args.spans.now c.loop-span.span-index less c.args.direction c.loop-span.row.now) c.loop-span.invariant.way

  whole : own span + total_own (drop (c.loop-span.span-index + 1) c.args.spans.now) ≡ length c.loop-span.row.now
  unfolding span
  whole = sym (next_own c.args.spans.now c.loop-span.span-index less) ∙ c.loop-span.invariant.whole

  -- there is room for as many bytes as there are at most
  room : c.loop-span.at + max (taken next) (given next) ≤ 65520
  unfolding span all behind next old now
  room =
      let step = next_room next all behind old now c.loop-span.at way in
      let least = room_le c.args.heap.now.chunks c.args.h.0 (peak (pieces_of c.args.spans.now c.args.content.now)) c.chunk_of-all.ensures.valid c.requires.live c.requires.fits in
      let same = directed_peak c.args.direction (pieces_of c.args.spans.now c.args.content.now) in
      omega (arith, step, least, same)

  fit : fits_with c.loop-span.heap.chunks c.args.h.0 (with_piece next c.loop-span.at now) ≡ true
  unfolding span all behind next old now
  fit =
      let m = c.args.heap.now.chunks in let h = c.args.h.0 in let b = with_piece next c.loop-span.at now in
      let few = next_fits next all behind old now c.loop-span.at way in
      let same = directed_peak c.args.direction (pieces_of c.args.spans.now c.args.content.now) in
      ap (λ (x : ChunkMap). fits_with x h b) c.loop-span.invariant.chunks
      ∙ fits_within m h (peak (pieces_of c.args.spans.now c.args.content.now)) c.chunk_of-all.ensures.valid c.requires.live c.requires.fits now b (omega (arith, few, same))

pub apply_span-at-requires-clause-live : goal.apply_span-at-requires-clause-live
apply_span-at-requires-clause-live c =
    let h = c.args.h.0 in
    ap (λ (m : ChunkMap). contains_key m h) c.loop-span.invariant.chunks ∙ live_again c.args.heap.now.chunks h (chunk_bytes c.loop-span.heap.chunks h)

pub apply_span-at-requires-clause-whole : goal.apply_span-at-requires-clause-whole
unfolding span
apply_span-at-requires-clause-whole c = let w = whole (goal.at.apply_span-at-requires-clause-whole c).In-loop-span in omega (arith, w)

pub apply_span-at-requires-clause-within : goal.apply_span-at-requires-clause-within
unfolding span all behind next old now
apply_span-at-requires-clause-within c =
    let s = (goal.at.apply_span-at-requires-clause-within c).In-loop-span in
    next_within (next s) (all s) (behind s) (old s) (now s) c.loop-span.at (way s)

pub apply_span-at-requires-clause-before : goal.apply_span-at-requires-clause-before
unfolding span next
apply_span-at-requires-clause-before c =
    let r = room (goal.at.apply_span-at-requires-clause-before c).In-loop-span in omega (arith, r)

pub apply_span-at-requires-clause-after : goal.apply_span-at-requires-clause-after
unfolding span next
apply_span-at-requires-clause-after c =
    let r = room (goal.at.apply_span-at-requires-clause-after c).In-loop-span in omega (arith, r)

pub apply_span-at-requires-clause-fits : goal.apply_span-at-requires-clause-fits
unfolding span next now
apply_span-at-requires-clause-fits c = fit (goal.at.apply_span-at-requires-clause-fits c).In-loop-span

pub loop-span-preserved : goal.loop-span-preserved
unfolding span all behind next old now
loop-span-preserved c =
    let s = (goal.at.loop-span-preserved c).In-loop-span in
    let m = c.args.heap.now.chunks in let h = c.args.h.0 in let after = with_piece (next s) c.loop-span.at (now s) in
    let bytes : chunk_bytes c.apply_span-at.new.heap.chunks h ≡ after =
    ap (λ (x : ChunkMap). chunk_bytes x h) c.apply_span-at.ensures.chunks ∙ chunk_again c.loop-span.heap.chunks h after in
    let row : List ℕ = c.loop-span.row.now in
    let left : take (length row - c.own.result) (drop c.own.result row) ≡ drop (own (span s)) row = take_rest row c.own.result ∙ ap (λ (n : ℕ). drop n row) c.own.ensures in
    let on = goes_on (next s) (all s) (behind s) (old s) (now s) c.loop-span.at (way s) in
    record {
      chunks = c.apply_span-at.ensures.chunks
          ∙ (ap (λ (x : ChunkMap). insert x h after) c.loop-span.invariant.chunks
          ∙ (insert_again m h (now s) after ∙ ap (insert m h) (sym bytes)));
      whole = (let w = whole s in omega (arith, w, ap length left, length-drop (own (span s)) row));
      way = subst (λ (l : List ℕ). IsUnderWay (all s) (directed_pieces c.args.direction (pieces_of (drop (c.loop-span.span-index + 1) c.args.spans.now) l)) (old s) (chunk_bytes c.apply_span-at.new.heap.chunks h) c.apply_span-at.result)
          (sym left) (rw (bytes, c.apply_span-at.ensures.place) on);
    }
