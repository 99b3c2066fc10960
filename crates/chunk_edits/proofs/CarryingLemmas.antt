-- A patch on its way: which bytes a chunk has once some of its pieces are carried out, and that there is room for them.
use Rattle.std.proofs.Common.{◌≡◌, ℕ, ◌+◌, ◌≤◌, max, true, false, List, [], ◌∷◌, ◌++◌, length, take, drop, replicate, unwrap_or, is_some, Option, Some, None, refl, sym, ap, ap₂, subst, ◌∙◌, arith, inl, inr, append_assoc, length-append, length-drop, length-take-le, take-append-drop, take_at, drop_at, drop-drop}
use Rattle.std.proofs.lemmas.Bool.{cases_eq, cases_lt}
use Rattle.std.proofs.lemmas.List.{length-replicate}
use Rattle.std.specs.Cmp.{nat_cmp_total}
use Rattle.std.specs.FinMap.{get, insert, contains_key, same_map, nat_cmp-IsAntisymmetric}
use Rattle.geos_model.specs.Heap.{ChunkMap, chunk_bytes, fits, fits_with, is_heap_map}
use Rattle.geos_model.proofs.HeapEdits.{get-put_same, get-put_other, heap-insert}
use Rattle.geos_model.proofs.HeapTables.{fits_with-fewer, fits_with-many, live_handle}
use Rattle.chunk_edits.specs.Patching.{PatchPiece, Keep, taken, given, total_taken, peak, piece_after, patched, directed_piece, directed_pieces, with_piece}
use Rattle.chunk_edits.specs.declared.direction.Direction.{Direction}
use Rattle.chunk_edits.specs.declared.direction.Direction.TheVariants.{Forwards, Backwards}
use Rattle.chunk_edits.proofs.PatchingLemmas.{taken-cons, peak-cons, taken_le_peak, reversed_peak, piece_after-length}

-- The bytes.

-- The pieces that are left make of the bytes from a place on what all pieces make of the old ones, and there is room.
pub record IsUnderWay (all rest : List PatchPiece) (old bytes : List ℕ) (at : ℕ) : Type 0 where
  pub size : length bytes ≡ at + total_taken rest
  pub room : at + peak rest ≤ peak all
  pub comes : take at bytes ++ patched rest (drop at bytes) ≡ patched all old

pub begins : (all : List PatchPiece) (old : List ℕ) → total_taken all ≡ length old → IsUnderWay all all old old 0
begins all old size = record { size = omega arith; room = omega arith; comes = refl }

-- the next piece is carried out
module _ (p : PatchPiece) (all rest : List PatchPiece) (old bytes : List ℕ) (at : ℕ) (way : IsUnderWay all (p ∷ rest) old bytes at) where
  part : List ℕ
  part = piece_after p (take (taken p) (drop at bytes))

  pub next_within : at + taken p ≤ length bytes
  next_within = let size = way.size in omega (arith, size, taken-cons p rest)

  pub next_room : at + max (taken p) (given p) ≤ peak all
  next_room = let room = way.room in omega (arith, room, peak-cons p rest)

  length-part : length part ≡ given p
  unfolding part
  length-part = piece_after-length p (take (taken p) (drop at bytes)) (length-take-le (taken p) (drop at bytes) (omega (arith, next_within, length-drop at bytes)))

  length-next : length (with_piece p at bytes) ≡ at + given p + total_taken rest
  unfolding part
  length-next =
      let size = way.size in
      omega (arith, size, taken-cons p rest, length-part, length-append (take at bytes) (part ++ drop (at + taken p) bytes), length-append part (drop (at + taken p) bytes), length-take-le at bytes (omega (arith, next_within)), length-drop (at + taken p) bytes)

  pub next_fits : length (with_piece p at bytes) ≤ peak all
  next_fits = let room = way.room in omega (arith, room, length-next, peak-cons p rest, taken_le_peak rest)

  pub goes_on : IsUnderWay all rest old (with_piece p at bytes) (at + given p)
  unfolding part
  goes_on =
      let front = take at bytes in let tail = drop (at + taken p) bytes in
      let size : length (front ++ part) ≡ at + given p = omega (arith, length-part, length-append front part, length-take-le at bytes (omega (arith, next_within))) in
      let joined : with_piece p at bytes ≡ (front ++ part) ++ tail = sym (append_assoc front part tail) in
      let before : take (at + given p) (with_piece p at bytes) ≡ front ++ part = ap (take (at + given p)) joined ∙ take_at (front ++ part) tail (at + given p) size in
      let behind : drop (at + given p) (with_piece p at bytes) ≡ tail = ap (drop (at + given p)) joined ∙ drop_at (front ++ part) tail (at + given p) size in
      let room = way.room in
      record {
        size = length-next;
        room = omega (arith, room, peak-cons p rest);
        comes = ap₂ (λ (a b : List ℕ). a ++ patched rest b) before behind
            ∙ (append_assoc front part (patched rest tail)
            ∙ (ap (λ (l : List ℕ). front ++ (part ++ patched rest l)) (sym (drop-drop (taken p) at bytes)) ∙ way.comes));
      }

-- The pieces in a direction.

pub directed_peak : (d : Direction) (ps : List PatchPiece) → peak (directed_pieces d ps) ≡ peak ps
directed_peak Forwards ps = refl
directed_peak Backwards ps = reversed_peak ps

-- a piece that stays
kept_as : (n at : ℕ) (bytes : List ℕ) → with_piece (Keep n) at bytes ≡ bytes
kept_as n at bytes =
    ap (λ (l : List ℕ). take at bytes ++ (take n (drop at bytes) ++ l)) (sym (drop-drop n at bytes))
    ∙ (ap (λ (l : List ℕ). take at bytes ++ l) (take-append-drop n (drop at bytes)) ∙ take-append-drop at bytes)

pub kept : (d : Direction) (n at : ℕ) (bytes : List ℕ) → with_piece (directed_piece d (Keep n)) at bytes ≡ bytes
kept Forwards n at bytes = kept_as n at bytes
kept Backwards n at bytes = kept_as n at bytes

-- One piece with bytes that stay before it and behind it.
module _ (p : PatchPiece) (before behind : ℕ) (bytes : List ℕ)
    (size : total_taken (Keep before ∷ p ∷ Keep behind ∷ []) ≡ length bytes) where
  abbrev all_three : List PatchPiece
  all_three = Keep before ∷ p ∷ Keep behind ∷ []

  come_to : IsUnderWay all_three (p ∷ Keep behind ∷ []) bytes bytes before
  come_to =
      let at : 0 + before ≡ before = omega arith in
      subst (λ (l : List ℕ). IsUnderWay all_three (p ∷ Keep behind ∷ []) bytes l before) (kept_as before 0 bytes)
      (subst (λ (n : ℕ). IsUnderWay all_three (p ∷ Keep behind ∷ []) bytes (with_piece (Keep before) 0 bytes) n) at
      (goes_on (Keep before) all_three (p ∷ Keep behind ∷ []) bytes bytes 0 (begins all_three bytes size)))

  pub alone_within : before + taken p ≤ length bytes
  alone_within = next_within p all_three (Keep behind ∷ []) bytes bytes before come_to

  pub alone_room : before + max (taken p) (given p) ≤ peak all_three
  alone_room = next_room p all_three (Keep behind ∷ []) bytes bytes before come_to

  pub alone_fits : length (with_piece p before bytes) ≤ peak all_three
  alone_fits = next_fits p all_three (Keep behind ∷ []) bytes bytes before come_to

  pub alone_done : with_piece p before bytes ≡ patched all_three bytes
  alone_done =
      let made = with_piece p before bytes in let at = before + given p in
      let past = goes_on p all_three (Keep behind ∷ []) bytes bytes before come_to in
      let end = goes_on (Keep behind) all_three [] bytes made at past in
      sym (kept_as behind at made)
      ∙ (sym (take-append-drop (at + behind) (with_piece (Keep behind) at made)) ∙ end.comes)

-- The heap.

module _ (m : ChunkMap) (h : ℕ) where
  pub get_again : (b : List ℕ) → get (insert m h b) h ≡ Some b
  get_again b = get-put_same m h b h refl

  pub chunk_again : (b : List ℕ) → chunk_bytes (insert m h b) h ≡ b
  chunk_again b = ap (λ (o : Option (List ℕ)). unwrap_or o []) (get_again b)

  pub live_again : (b : List ℕ) → contains_key (insert m h b) h ≡ true
  live_again b = ap is_some (get_again b)

  pub insert_again : (a b : List ℕ) → insert (insert m h a) h b ≡ insert m h b
  insert_again a b = same_map nat_cmp_total nat_cmp-IsAntisymmetric _ _ (λ q. elim (cases_eq q h) [
    | inl e ↦ get-put_same (insert m h a) h b q e ∙ sym (get-put_same m h b q e)
    | inr other ↦ get-put_other (insert m h a) h b q other ∙ (get-put_other m h a q other ∙ sym (get-put_other m h b q other))
  ])

  some_of : (o : Option (List ℕ)) → is_some o ≡ true → Some (unwrap_or o []) ≡ o
  some_of None live = cc
  some_of (Some b) live = refl

  -- its own bytes change nothing
  pub insert_own : contains_key m h ≡ true → m ≡ insert m h (chunk_bytes m h)
  insert_own live = same_map nat_cmp_total nat_cmp-IsAntisymmetric _ _ (λ q. elim (cases_eq q h) [
    | inl e ↦ ap (get m) e ∙ (sym (some_of (get m h) live) ∙ sym (get-put_same m h (chunk_bytes m h) q e))
    | inr other ↦ sym (get-put_other m h (chunk_bytes m h) q other)
  ])

  module _ (n : ℕ) (valid : is_heap_map m ≡ true) (live : contains_key m h ≡ true) (room : fits_with m h (replicate n 0) ≡ true) where
    -- where so many bytes fit, so do fewer, whatever the chunk has now
    pub fits_within : (a b : List ℕ) → length b ≤ n → fits_with (insert m h a) h b ≡ true
    unfolding fits_with
    fits_within a b few =
        let zeros = replicate n 0 in
        let heap = heap-insert m h zeros valid (live_handle m h valid live) room in
        let count : length (chunk_bytes (insert m h zeros) h) ≡ n = ap length (chunk_again zeros) ∙ length-replicate {A = ℕ} n 0 in
        ap fits (insert_again a b ∙ sym (insert_again zeros b))
        ∙ fits_with-fewer (insert m h zeros) h b heap (live_again zeros) (omega (arith, few, count))

    pub room_le : n ≤ 65520
    room_le = elim (cases_lt 65520 n) [
      | inl l ↦ (let not = fits_with-many m h (replicate n 0) valid live (omega (arith, l, length-replicate {A = ℕ} n 0)) in let no : true ≡ false = sym room ∙ not in absurd (cc no))
      | inr le ↦ le
    ]
