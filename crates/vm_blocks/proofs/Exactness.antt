-- A change of a part that is exact leads back.
use Rattle.std.proofs.Common.{◌≡◌, ◌≤◌, ℕ, List, [], true, false, length, replicate, Option, Some, None, is_some, refl, sym, ap, subst, ◌∙◌, arith, leb-true}
use Rattle.std.specs.Prelude.{unwrap_or}
use Rattle.std.specs.FinMap.{get, insert, remove, contains_key}
use Rattle.geos_model.specs.Heap.{ChunkMap, chunk_bytes, capacity, fits, fits_with, is_heap_map}
use Rattle.geos_model.specs.Document.{Block, Document, is_valid_body}
use Rattle.geos_model.specs.declared.command.Body.{Body}
use Rattle.geos_model.specs.declared.command.Body.TheVariants.{Raw, Heap}
use Rattle.geos_model.proofs.HeapEdits.{get-put_same, get-taken_same}
use Rattle.geos_model.proofs.HeapTables.{live_handle}
use Rattle.chunk_edits.specs.Patching.{PatchPiece, ArePiecesOf, patched, peak, reversed_pieces}
use Rattle.chunk_edits.specs.Splicing.{Splice, OccursAt, forwards, backwards}
use Rattle.chunk_edits.proofs.PatchingLemmas.{patch_leads_back, pieces_length, reversed_peak}
use Rattle.vm_blocks.specs.Changes.{content_bytes, reversed_part, CanApplyPart}
use Rattle.vm_blocks.specs.Exactness.{HoldsPart, IsExactPart}
use Rattle.vm_blocks.specs.Parts.{AllowsPart, body_after_part}
use Rattle.vm_blocks.specs.declared.change.PartChange.{PartChange}
use Rattle.vm_blocks.specs.declared.change.PartChange.TheVariants as parts
use Rattle.vm_blocks.proofs.ChangeLaws.{fits_again, room_again, spliced_back}
use Rattle.vm_blocks.proofs.MapLemmas.{put_back, put_taken, taken_put}
use Rattle.vm_blocks.proofs.RoomLemmas.{bytes-put}

-- what is there where a change of a part can be made
pub holds_by : (b : ℕ) (p : PartChange) (d : Document) (block : Block) → get d.blocks b ≡ Some block → CanApplyPart b p d → HoldsPart p block.body
holds_by b p d block is applies = by p block.body (is ∙ refl) applies
  where
    by : (p : PartChange) (body : Body) → get d.blocks b ≡ Some (record { attributes = block.attributes; body = body }) → CanApplyPart b p d → HoldsPart p body
    by (parts.Raw s) (Raw bytes) is fits = rw is at fits.stands
    by (parts.Raw s) (Heap m) is fits = let no : false ≡ true = rw is at fits.raw in cc
    by (parts.RawPatch ps) (Raw bytes) is fits = rw is at fits.stands
    by (parts.RawPatch ps) (Heap m) is fits = let no : false ≡ true = rw is at fits.raw in cc
    by (parts.Chunk c s) (Raw bytes) is fits = let no : false ≡ true = rw is at fits.heap in cc
    by (parts.Chunk c s) (Heap m) is fits = rw is at fits.stands
    by (parts.Patch c ps runs) (Raw bytes) is fits = let no : false ≡ true = rw is at fits.heap in cc
    by (parts.Patch c ps runs) (Heap m) is fits = rw is at fits.stands
    by (parts.ChunkIn c content) (Raw bytes) is fits = let no : false ≡ true = rw is at fits.heap in cc
    by (parts.ChunkIn c content) (Heap m) is fits = tt
    by (parts.ChunkOut c content) (Raw bytes) is has = let no : false ≡ true = rw is at has.heap in cc
    by (parts.ChunkOut c content) (Heap m) is has = rw is at has.stands

-- the bytes of a chunk that is there
there : (m : ChunkMap) (c : ℕ) → contains_key m c ≡ true → get m c ≡ Some (chunk_bytes m c)
there m c live = by (get m c) refl live
  where
    by : (o : Option (List ℕ)) → get m c ≡ o → is_some o ≡ true → o ≡ Some (unwrap_or o [])
    by None is live = absurd (cc live)
    by (Some bytes) is live = refl

abbrev LeadsBack : PartChange → Body → Type 0
LeadsBack p body = AllowsPart (reversed_part p) (body_after_part p body) × (body_after_part (reversed_part p) (body_after_part p body) ≡ body)

raw_back : (s : Splice) (bytes : List ℕ) → length bytes ≤ capacity → OccursAt bytes s.at s.old → LeadsBack (parts.Raw s) (Raw bytes)
raw_back s bytes few stands =
    let back = spliced_back s bytes stands in
    (record { within = back.0.within; room = omega (arith, few, ap length back.1) }, ap Raw back.1)

raw_patch_back : (ps : List PatchPiece) (bytes : List ℕ) → peak ps ≤ capacity → ArePiecesOf ps bytes → LeadsBack (parts.RawPatch ps) (Raw bytes)
raw_patch_back ps bytes room stands =
    let back = patch_leads_back ps bytes stands in
    (record { size = sym (pieces_length (reversed_pieces ps) _ back.0); room = omega (arith, room, reversed_peak ps) }, ap Raw back.1)

module _ (m : ChunkMap) (heap : is_heap_map m ≡ true) (c : ℕ) where
  chunk_back : (s : Splice) → contains_key m c ≡ true → OccursAt (chunk_bytes m c) s.at s.old
      → let n = insert m c (forwards s (chunk_bytes m c)) in
      (contains_key n c ≡ true) × OccursAt (chunk_bytes n c) s.at s.new × (fits_with n c (backwards s (chunk_bytes n c)) ≡ true) × (insert n c (backwards s (chunk_bytes n c)) ≡ m)
  chunk_back s live stands =
      let bytes = chunk_bytes m c in
      let made = forwards s bytes in
      let back = spliced_back s bytes stands in
      let now : chunk_bytes (insert m c made) c ≡ made = bytes-put m c made in
      let given : insert (insert m c made) c (backwards s made) ≡ m = ap (insert (insert m c made) c) back.1 ∙ put_back m c bytes made (there m c live) in (
        ap is_some (get-put_same m c made c refl),
        subst (λ (l : List ℕ). OccursAt l s.at s.new) (sym now) back.0,
        ap (λ (l : List ℕ). fits_with (insert m c made) c (backwards s l)) now ∙ fits_again m (insert m c made) c (backwards s made) given heap,
        ap (λ (l : List ℕ). insert (insert m c made) c (backwards s l)) now ∙ given,
      )

  patch_back : (ps : List PatchPiece) → contains_key m c ≡ true → ArePiecesOf ps (chunk_bytes m c) → fits_with m c (replicate (peak ps) 0) ≡ true
      → let n = insert m c (patched ps (chunk_bytes m c)) in
      (contains_key n c ≡ true) × ArePiecesOf (reversed_pieces ps) (chunk_bytes n c) × (fits_with n c (replicate (peak (reversed_pieces ps)) 0) ≡ true) × (insert n c (patched (reversed_pieces ps) (chunk_bytes n c)) ≡ m)
  patch_back ps live stands room =
      let bytes = chunk_bytes m c in
      let made = patched ps bytes in
      let back = patch_leads_back ps bytes stands in
      let now : chunk_bytes (insert m c made) c ≡ made = bytes-put m c made in (
        ap is_some (get-put_same m c made c refl),
        subst (ArePiecesOf (reversed_pieces ps)) (sym now) back.0,
        ap (λ (k : ℕ). fits_with (insert m c made) c (replicate k 0)) (reversed_peak ps) ∙ room_again m c made (replicate (peak ps) 0) room,
        ap (λ (l : List ℕ). insert (insert m c made) c (patched (reversed_pieces ps) l)) now ∙ ap (insert (insert m c made) c) back.1 ∙ put_back m c bytes made (there m c live),
      )

pub part_leads_back : (p : PartChange) (body : Body) → is_valid_body body ≡ true → IsExactPart p body → LeadsBack p body
part_leads_back (parts.Raw s) (Raw bytes) valid exact = raw_back s bytes (leb-true (length bytes) capacity valid) exact.holds
part_leads_back (parts.Raw s) (Heap m) valid exact = absurd exact.holds
part_leads_back (parts.RawPatch ps) (Raw bytes) valid exact = raw_patch_back ps bytes exact.takes.room exact.holds
part_leads_back (parts.RawPatch ps) (Heap m) valid exact = absurd exact.holds
part_leads_back (parts.Chunk c s) (Raw bytes) valid exact = absurd exact.holds
part_leads_back (parts.Chunk c s) (Heap m) valid exact =
    let back = chunk_back m valid c.0 s exact.takes.live exact.holds in
    (record { live = back.0; within = back.1.within; fits = back.2 }, ap Heap back.3)
part_leads_back (parts.Patch c ps runs) (Raw bytes) valid exact = absurd exact.holds
part_leads_back (parts.Patch c ps runs) (Heap m) valid exact =
    let back = patch_back m valid c.0 ps exact.takes.live exact.holds exact.takes.fits in
    (record { live = back.0; size = sym (pieces_length (reversed_pieces ps) _ back.1); fits = back.2 }, ap Heap back.3)
part_leads_back (parts.ChunkIn c content) (Raw bytes) valid exact = absurd exact.holds
part_leads_back (parts.ChunkIn c content) (Heap m) valid exact =
    (ap is_some (get-put_same m c.0 (content_bytes content) c.0 refl), ap Heap (taken_put m c.0 (content_bytes content) exact.takes.free))
part_leads_back (parts.ChunkOut c content) (Raw bytes) valid exact = absurd exact.holds
part_leads_back (parts.ChunkOut c content) (Heap m) valid exact =
    let bytes = content_bytes content in
    let given : insert (remove m c.0) c.0 bytes ≡ m = put_taken m c.0 bytes exact.holds in (
      record { handle = live_handle m c.0 valid (ap is_some exact.holds); free = get-taken_same m c.0 c.0 refl; fits = fits_again m (remove m c.0) c.0 bytes given valid },
      ap Heap given,
    )
