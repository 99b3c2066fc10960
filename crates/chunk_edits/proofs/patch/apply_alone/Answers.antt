use Rattle.std.proofs.Common.{◌≡◌, ◌∷◌, [], ℕ, List, length, arith, refl, sym, ap, ◌∙◌}
use Rattle.std.specs.FinMap.{insert}
use Rattle.geos_model.specs.Heap.{ChunkMap, chunk_bytes, fits_with}
use Rattle.chunk_edits.specs.Patching.{PatchPiece, Keep, peak, patched, directed_piece, directed_pieces, total_taken, with_piece}
use Rattle.chunk_edits.specs.Spans.{piece_of}
use Rattle.chunk_edits.specs.declared.direction.Direction.{Direction}
use Rattle.chunk_edits.specs.declared.direction.Direction.TheVariants.{Forwards, Backwards}
use Rattle.chunk_edits.proofs.CarryingLemmas.{alone_room, alone_fits, alone_done, directed_peak, fits_within, insert_own, room_le}
use Rattle.chunk_edits.proofs.patch.apply_alone.Goals as goal

-- one piece between two that stay, in a direction
turned : (d : Direction) (p : PatchPiece) (before behind : ℕ) → directed_pieces d (Keep before ∷ p ∷ Keep behind ∷ []) ≡ Keep before ∷ directed_piece d p ∷ Keep behind ∷ []
turned Forwards p before behind = refl
turned Backwards p before behind = refl

sized : (d : Direction) (p : PatchPiece) (before behind : ℕ) (bytes : List ℕ) → total_taken (directed_pieces d (Keep before ∷ p ∷ Keep behind ∷ [])) ≡ length bytes
    → total_taken (Keep before ∷ directed_piece d p ∷ Keep behind ∷ []) ≡ length bytes
sized d p before behind bytes size = sym (ap total_taken (turned d p before behind)) ∙ size

peaked : (d : Direction) (p : PatchPiece) (before behind : ℕ) → peak (Keep before ∷ directed_piece d p ∷ Keep behind ∷ []) ≡ peak (Keep before ∷ p ∷ Keep behind ∷ [])
peaked d p before behind = sym (ap peak (turned d p before behind)) ∙ directed_peak d (Keep before ∷ p ∷ Keep behind ∷ [])

pub apply_span-end-requires-clause-after : goal.apply_span-end-requires-clause-after
apply_span-end-requires-clause-after c =
    let m = c.args.heap.now.chunks in let h = c.args.h.0 in let d = c.args.direction in let b = c.args.before in let e = c.args.behind in
    let p = piece_of c.args.span c.args.row.now in let all = Keep b ∷ p ∷ Keep e ∷ [] in
    let room = alone_room (directed_piece d p) b e (chunk_bytes m h) (sized d p b e (chunk_bytes m h) c.requires.size) in
    let most = room_le m h (peak all) c.chunk_of-all.ensures.valid c.requires.live c.requires.fits in
    omega (arith, room, most, peaked d p b e)

pub apply_span-end-requires-clause-fits : goal.apply_span-end-requires-clause-fits
apply_span-end-requires-clause-fits c =
    let m = c.args.heap.now.chunks in let h = c.args.h.0 in let d = c.args.direction in let b = c.args.before in let e = c.args.behind in
    let p = piece_of c.args.span c.args.row.now in let all = Keep b ∷ p ∷ Keep e ∷ [] in let bytes = chunk_bytes m h in
    let few = alone_fits (directed_piece d p) b e bytes (sized d p b e bytes c.requires.size) in
    let made = with_piece (directed_piece d p) c.from.result bytes in
    let same = ap (λ (n : ℕ). length (with_piece (directed_piece d p) n bytes)) c.from.ensures in
    ap (λ (x : ChunkMap). fits_with x h made) (insert_own m h c.requires.live)
    ∙ fits_within m h (peak all) c.chunk_of-all.ensures.valid c.requires.live c.requires.fits bytes made (omega (arith, few, same, peaked d p b e))

pub returns : goal.returns
returns c =
    let m = c.args.heap.now.chunks in let h = c.args.h.0 in let d = c.args.direction in let b = c.args.before in let e = c.args.behind in
    let p = piece_of c.args.span c.args.row.now in let bytes = chunk_bytes m h in
    c.apply_span-end.ensures.chunks
    ∙ ap (insert m h) (ap (λ (n : ℕ). with_piece (directed_piece d p) n bytes) c.from.ensures ∙ alone_done (directed_piece d p) b e bytes (sized d p b e bytes c.requires.size) ∙ sym (ap (λ (l : List PatchPiece). patched l bytes) (turned d p b e)))
