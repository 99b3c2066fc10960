-- A change of a valid document leaves a valid one, and the same change the other way round takes it back.
use Rattle.std.proofs.Common.{◌≡◌, ◌≢◌, ◌≤◌, ◌+◌, ℕ, List, true, false, not, length, get_or, Option, Some, None, is_some, nat_cmp, replicate, refl, sym, ap, subst, ◌∙◌, arith}
use Rattle.std.proofs.lemmas.Bool.{and_parts, leb-true, le-leb, true≢false, not-true}
use Rattle.std.proofs.lemmas.List.Elements.{All-map}
use Rattle.std.specs.Option.{option_map_or}
use Rattle.std.specs.List.{All, list_all}
use Rattle.std.specs.FinMap.{FinMap, get, insert, remove, keys, contains_key}
use Rattle.geos_model.specs.Heap.{ChunkMap, capacity, fits, fits_with, is_chunk_handle, is_heap_map}
use Rattle.geos_model.specs.Document.{Block, Document, IsValid, IsValidBlock, is_heap, is_heap_body, is_live, is_raw, is_valid_body, is_vm_handle, with_block, with_attributes, with_blocks, handles_of, without_blocks, FitAttributes, IsTyped}
use Rattle.geos_model.specs.Meaning.{chunk_at, with_chunk, without_chunk}
use Rattle.geos_model.specs.declared.command.Body.{Body}
use Rattle.geos_model.specs.declared.command.Body.TheVariants.{Raw, Heap}
use Rattle.geos_model.specs.declared.handle.ChunkHandle.{ChunkHandle}
use Rattle.geos_model.proofs.HeapEdits.{get-put_same, get-taken_same, heap-insert, heap-remove}
use Rattle.geos_model.proofs.HeapTables.{live_handle}
use Rattle.geos_model.proofs.BlockLists.{put_stands, put_valid, put_map_block}
use Rattle.geos_model.proofs.Validity.{with_block-valid}
use Rattle.geos_model.specs.declared.block.Attributes.{Attributes}
use Rattle.chunk_edits.specs.Patching.{PatchPiece, ArePiecesOf, patched, peak, reversed_pieces}
use Rattle.chunk_edits.specs.declared.runs.ArrayRuns.{ArrayRuns}
use Rattle.chunk_edits.specs.Splicing.{Splice, OccursAt, forwards, backwards}
use Rattle.chunk_edits.proofs.PatchingLemmas.{patch_leads_back, pieces_length, reversed_peak, reversed_twice}
use Rattle.chunk_edits.proofs.SplicingLemmas.{leads_back}
use Rattle.document_file.specs.Members.{imaged_block, imaged_blocks}
use Rattle.document_file.specs.declared.member.Member.{Member}
use Rattle.vm_blocks.specs.declared.change.Change.{Change}
use Rattle.vm_blocks.specs.declared.change.Change.TheVariants as changes
use Rattle.vm_blocks.specs.declared.change.Content.{Content}
use Rattle.vm_blocks.specs.declared.change.PartChange.{PartChange}
use Rattle.vm_blocks.specs.declared.change.PartChange.TheVariants as parts
use Rattle.vm_blocks.proofs.MapLemmas.{put_back, put_taken, taken_put}
use Rattle.vm_blocks.proofs.PartLemmas.{patched_few, patched_fits}
use Rattle.vm_blocks.proofs.RoomLemmas.{put_again}
use Rattle.vm_blocks.proofs.ManyBlocks.{All-from_map, taken_gone, taken_valid, in_and_out, out_and_in, out_handles}
use Rattle.vm_blocks.specs.Changes.{content_bytes, attributes_for_kind, after_part, after_change, reversed_splice, reversed_part, reversed, IsFreeHandle, AreFree, CanRemoveAll, FitsRaw, FitsRawPatch, FitsChunk, FitsPatch, FitsNewChunk, HasChunk, HasAttributes, HasMap, CanApplyPart, CanApply, ChangeLaw, ReverseLaw}
use Rattle.vm_blocks.proofs.KindLemmas.{attributes_for_kind-same}

-- A change of a document leads back.
abbrev Undone : Change → Document → Type 0
Undone c d = IsValid (after_change c d) × CanApply (reversed c) (after_change c d) × (after_change (reversed c) (after_change c d) ≡ d)

abbrev PartUndone : ℕ → PartChange → Document → Type 0
PartUndone b p d = IsValid (after_part b p d) × CanApplyPart b (reversed_part p) (after_part b p d) × (after_part b (reversed_part p) (after_part b p d) ≡ d)

-- so from the document that it makes
part_undone : (b : ℕ) (p : PartChange) (d after : Document) → after_part b p d ≡ after → IsValid after → CanApplyPart b (reversed_part p) after → after_part b (reversed_part p) after ≡ d → PartUndone b p d
part_undone b p d after is valid applies back =
    subst (λ (x : Document). IsValid x × CanApplyPart b (reversed_part p) x × (after_part b (reversed_part p) x ≡ d)) (sym is) (valid, applies, back)

-- Blocks come in or go.
module _ (d : Document) (valid : IsValid d) where
  free_not_map : (h : ℕ) → IsFreeHandle d h → d.map_block ≢ h
  free_not_map h free same =
      let some : d.map_block ≢ 0 = λ none. (let no : is_vm_handle 0 ≡ true = ap is_vm_handle (sym none ∙ same) ∙ free.handle in cc) in
      let dead : is_live d d.map_block ≡ false = ap (λ (h : ℕ). is_some (get d.blocks h)) same ∙ ap is_some free.free in
      true≢false (sym (valid.map_block some) ∙ dead)

  blocks_in_undone : (ms : List Member) → AreFree d (handles_of (imaged_blocks ms))
      → IsValid (with_blocks d (imaged_blocks ms)) × CanRemoveAll (with_blocks d (imaged_blocks ms)) (imaged_blocks ms) × (without_blocks (with_blocks d (imaged_blocks ms)) (handles_of (imaged_blocks ms)) ≡ d)
  blocks_in_undone ms are =
      let ps : List (ℕ × Block) = imaged_blocks ms in
      let free : All (λ p. IsFreeHandle d p.0) ps = All-from_map (IsFreeHandle d) (λ p. p.0) ps are.free in
      let each : All (λ m. IsFreeHandle d m.handle.0) ms = All-from_map (λ p. IsFreeHandle d p.0) (λ m. (m.handle.0, imaged_block m.block)) ms free in
      let stands = put_stands d ps are.distinct in (
        put_valid d ps valid (All-map (λ p. IsValidBlock p.0 p.1) (λ m. (m.handle.0, imaged_block m.block)) ms
            (λ i m within. record { handle = (each i m within).handle; attributes = (get_or ms i m).block.fit; body = (get_or ms i m).block.valid; typed = (get_or ms i m).block.typed })),
        record {
          go = λ i p within. record { stands = stands i p within; other = λ same. free_not_map (get_or ps i p).0 (free i p within) (sym (put_map_block d ps) ∙ same) };
          distinct = are.distinct;
        },
        in_and_out d ps (λ i p within. (free i p within).free) are.distinct,
      )

  blocks_out_undone : (ps : List (ℕ × Block)) → CanRemoveAll d ps
      → IsValid (without_blocks d (handles_of ps)) × AreFree (without_blocks d (handles_of ps)) (handles_of ps) × (with_blocks (without_blocks d (handles_of ps)) ps ≡ d)
  blocks_out_undone ps can =
      let gone = taken_gone d (handles_of ps) can.distinct in
      let handles : All (λ h. is_vm_handle h ≡ true) (handles_of ps) = All-map (λ h. is_vm_handle h ≡ true) (λ p. p.0) ps (out_handles d valid ps can) in (
        taken_valid d (handles_of ps) valid (All-map (λ h. d.map_block ≢ h) (λ p. p.0) ps (λ i p within. (can.go i p within).other)),
        record { free = λ i h within. record { handle = handles i h within; free = gone i h within }; distinct = can.distinct },
        out_and_in d ps (λ i p within. (can.go i p within).stands) can.distinct,
      )

-- A block changes in place.
module _ (d : Document) (b : ℕ) (old new : Block) (there : get d.blocks b ≡ Some old) where
  pub new_there : get (with_block d b new).blocks b ≡ Some new
  new_there = get-put_same d.blocks b new b refl

  pub old_back : with_block (with_block d b new) b old ≡ d
  old_back = ap (λ (m : FinMap nat_cmp Block). record d { blocks = m }) (put_back d.blocks b old new there)

  new_valid : IsValid d → FitAttributes new.attributes → IsTyped (is_heap_body new.body) new.attributes → is_valid_body new.body ≡ true → IsValid (with_block d b new)
  new_valid valid fit typed good = with_block-valid d b new valid (record { handle = (valid.blocks b old there).handle; attributes = fit; body = good; typed = typed })

-- Of a raw body.
abbrev raw_block : Attributes → List ℕ → Block
raw_block u bytes = record { attributes = u; body = Raw bytes }

raw_at : (d : Document) (b : ℕ) → is_raw d b ≡ true → (u : Attributes) × (bytes : List ℕ) × (get d.blocks b ≡ Some (raw_block u bytes))
raw_at d b raw = by_block (get d.blocks b) refl raw
  where
    by_body : (u : Attributes) (body : Body) → get d.blocks b ≡ Some (record { attributes = u; body = body }) → is_heap_body body ≡ false → (u : Attributes) × (bytes : List ℕ) × (get d.blocks b ≡ Some (raw_block u bytes))
    by_body u (Raw bytes) is raw = (u, bytes, is)
    by_body u (Heap m) is raw = absurd (cc raw)

    by_block : (o : Option Block) → get d.blocks b ≡ o → option_map_or (λ b. not (is_heap_body b.body)) o false ≡ true → (u : Attributes) × (bytes : List ℕ) × (get d.blocks b ≡ Some (raw_block u bytes))
    by_block None is raw = absurd (cc raw)
    by_block (Some block) is raw = by_body block.attributes block.body is (not-true (is_heap_body block.body) raw)

module _ (d : Document) (b : ℕ) (u : Attributes) (bytes : List ℕ) (there : get d.blocks b ≡ Some (raw_block u bytes)) where
  raw_made : (s : Splice) → after_part b (parts.Raw s) d ≡ with_block d b (raw_block u (forwards s bytes))
  raw_made s = rw there refl

  raw_fits : (s : Splice) → OccursAt bytes s.at s.old → length (forwards s bytes) ≤ capacity → FitsRaw d b s
  raw_fits s stands fits = record { raw = rw there refl; stands = rw there stands; fits = rw there fits }

  raw_stands : (s : Splice) → FitsRaw d b s → OccursAt bytes s.at s.old
  raw_stands s fits = rw there at fits.stands

  raw_few : (s : Splice) → FitsRaw d b s → length (forwards s bytes) ≤ capacity
  raw_few s fits = rw there at fits.fits

  raw_patched : (ps : List PatchPiece) → after_part b (parts.RawPatch ps) d ≡ with_block d b (raw_block u (patched ps bytes))
  raw_patched ps = rw there refl

  raw_patch_fits : (ps : List PatchPiece) → ArePiecesOf ps bytes → peak ps ≤ capacity → FitsRawPatch d b ps
  raw_patch_fits ps stands room = record { raw = rw there refl; stands = rw there stands; fits = room }

  raw_patch_stands : (ps : List PatchPiece) → FitsRawPatch d b ps → ArePiecesOf ps bytes
  raw_patch_stands ps fits = rw there at fits.stands

-- bytes that are spliced, and back
pub spliced_back : (s : Splice) (bytes : List ℕ) → OccursAt bytes s.at s.old → OccursAt (forwards s bytes) s.at s.new × (backwards s (forwards s bytes) ≡ bytes)
spliced_back s bytes stands = leads_back s bytes (forwards s bytes) (length s.old + length s.new) (record { stands = stands; gives = refl; holds = refl })

raw_undone : (d : Document) (b : ℕ) (s : Splice) → IsValid d → FitsRaw d b s → PartUndone b (parts.Raw s) d
raw_undone d b s valid fits =
    let found = raw_at d b fits.raw in
    let u : Attributes = found.0 in
    let bytes : List ℕ = found.1 in
    let old : Block = raw_block u bytes in
    let new : Block = raw_block u (forwards s bytes) in
    let there : get d.blocks b ≡ Some old = found.2 in
    let now : get (with_block d b new).blocks b ≡ Some new = new_there d b old new there in
    let back = spliced_back s bytes (raw_stands d b u bytes there s fits) in
    let few : length bytes ≤ capacity = leb-true (length bytes) capacity (valid.blocks b old there).body in
    part_undone b (parts.Raw s) d (with_block d b new) (raw_made d b u bytes there s)
    (new_valid d b old new there valid (valid.blocks b old there).attributes (valid.blocks b old there).typed (le-leb _ _ (raw_few d b u bytes there s fits)))
    (raw_fits (with_block d b new) b u (forwards s bytes) now (reversed_splice s) back.0 (omega (arith, few, ap length back.1)))
    (raw_made (with_block d b new) b u (forwards s bytes) now (reversed_splice s) ∙ ap (λ (x : List ℕ). with_block (with_block d b new) b (raw_block u x)) back.1 ∙ old_back d b old new there)

raw_patch_undone : (d : Document) (b : ℕ) (ps : List PatchPiece) → IsValid d → FitsRawPatch d b ps → PartUndone b (parts.RawPatch ps) d
raw_patch_undone d b ps valid fits =
    let found = raw_at d b fits.raw in
    let u : Attributes = found.0 in
    let bytes : List ℕ = found.1 in
    let made : List ℕ = patched ps bytes in
    let old : Block = raw_block u bytes in
    let new : Block = raw_block u made in
    let there : get d.blocks b ≡ Some old = found.2 in
    let now : get (with_block d b new).blocks b ≡ Some new = new_there d b old new there in
    let stands : ArePiecesOf ps bytes = raw_patch_stands d b u bytes there ps fits in
    let back = patch_leads_back ps bytes stands in
    let few : length made ≤ capacity = patched_few ps bytes (sym (pieces_length ps bytes stands)) fits.fits in
    let room : peak (reversed_pieces ps) ≤ capacity = omega (arith, reversed_peak ps, fits.fits) in
    part_undone b (parts.RawPatch ps) d (with_block d b new) (raw_patched d b u bytes there ps)
    (new_valid d b old new there valid (valid.blocks b old there).attributes (valid.blocks b old there).typed (le-leb _ _ few))
    (raw_patch_fits (with_block d b new) b u made now (reversed_pieces ps) back.0 room)
    (raw_patched (with_block d b new) b u made now (reversed_pieces ps) ∙ ap (λ (x : List ℕ). with_block (with_block d b new) b (raw_block u x)) back.1 ∙ old_back d b old new there)

-- Of a heap.
abbrev heap_block : Attributes → ChunkMap → Block
heap_block u m = record { attributes = u; body = Heap m }

heap_at : (d : Document) (b : ℕ) → is_heap d b ≡ true → (u : Attributes) × (m : ChunkMap) × (get d.blocks b ≡ Some (heap_block u m))
heap_at d b heap = by_block (get d.blocks b) refl heap
  where
    by_body : (u : Attributes) (body : Body) → get d.blocks b ≡ Some (record { attributes = u; body = body }) → is_heap_body body ≡ true → (u : Attributes) × (m : ChunkMap) × (get d.blocks b ≡ Some (heap_block u m))
    by_body u (Raw bytes) is heap = absurd (cc heap)
    by_body u (Heap m) is heap = (u, m, is)

    by_block : (o : Option Block) → get d.blocks b ≡ o → option_map_or (λ b. is_heap_body b.body) o false ≡ true → (u : Attributes) × (m : ChunkMap) × (get d.blocks b ≡ Some (heap_block u m))
    by_block None is heap = absurd (cc heap)
    by_block (Some block) is heap = by_body block.attributes block.body is heap

module _ (d : Document) (b : ℕ) (u : Attributes) (m : ChunkMap) (there : get d.blocks b ≡ Some (heap_block u m)) where
  chunk_made : (c : ℕ) (bytes : List ℕ) → with_chunk d b c bytes ≡ with_block d b (heap_block u (insert m c bytes))
  chunk_made c bytes = rw there refl

  chunk_taken : (c : ℕ) → without_chunk d b c ≡ with_block d b (heap_block u (remove m c))
  chunk_taken c = rw there refl

  splice_made : (c : ℕ) (s : Splice) (bytes : List ℕ) → get m c ≡ Some bytes → with_chunk d b c (forwards s (chunk_at d b c)) ≡ with_block d b (heap_block u (insert m c (forwards s bytes)))
  splice_made c s bytes is = rw (there, is) refl

  chunk_fits : (c : ℕ) (s : Splice) (bytes : List ℕ) → get m c ≡ Some bytes → OccursAt bytes s.at s.old → fits_with m c (forwards s bytes) ≡ true → FitsChunk d b c s
  chunk_fits c s bytes is stands fits = record { heap = rw there refl; live = rw (there, is) refl; stands = rw (there, is) stands; fits = rw (there, is) fits }

  patch_made : (c : ℕ) (ps : List PatchPiece) (bytes : List ℕ) → get m c ≡ Some bytes → with_chunk d b c (patched ps (chunk_at d b c)) ≡ with_block d b (heap_block u (insert m c (patched ps bytes)))
  patch_made c ps bytes is = rw (there, is) refl

  patch_fits : (c : ℕ) (ps : List PatchPiece) (bytes : List ℕ) → get m c ≡ Some bytes → ArePiecesOf ps bytes → fits_with m c (replicate (peak ps) 0) ≡ true → FitsPatch d b c ps
  patch_fits c ps bytes is stands fits = record { heap = rw there refl; live = rw (there, is) refl; stands = rw (there, is) stands; fits = rw there fits }

  new_chunk_fits : (c : ℕ) (bytes : List ℕ) → is_chunk_handle c ≡ true → get m c ≡ None → fits_with m c bytes ≡ true → FitsNewChunk d b c bytes
  new_chunk_fits c bytes handle free fits = record { heap = rw there refl; handle = handle; free = rw there free; fits = rw there fits }

  has_chunk : (c : ℕ) (bytes : List ℕ) → get m c ≡ Some bytes → HasChunk d b c bytes
  has_chunk c bytes is = record { heap = rw there refl; stands = rw there is }

  -- the block with other chunks, and the document from before
  module _ (n : ChunkMap) where
    heap_now : get (with_block d b (heap_block u n)).blocks b ≡ Some (heap_block u n)
    heap_now = new_there d b (heap_block u m) (heap_block u n) there

    heap_valid : IsValid d → is_heap_map n ≡ true → IsValid (with_block d b (heap_block u n))
    heap_valid valid heap = new_valid d b (heap_block u m) (heap_block u n) there valid (valid.blocks b (heap_block u m) there).attributes (λ raw. absurd (cc raw)) heap

    heap_back : (k : ChunkMap) → k ≡ m → with_block (with_block d b (heap_block u n)) b (heap_block u k) ≡ d
    heap_back k is = ap (λ (x : ChunkMap). with_block (with_block d b (heap_block u n)) b (heap_block u x)) is ∙ old_back d b (heap_block u m) (heap_block u n) there

-- a chunk put back fits where the heap it gives is one that can be
pub fits_again : (m n : ChunkMap) (c : ℕ) (bytes : List ℕ) → insert n c bytes ≡ m → is_heap_map m ≡ true → fits_with n c bytes ≡ true
unfolding fits_with is_heap_map
fits_again m n c bytes is heap = ap fits is ∙ (and_parts (list_all is_chunk_handle (keys m)) (fits m) heap).1

some_bytes : (o : Option (List ℕ)) → is_some o ≡ true → (bytes : List ℕ) × (o ≡ Some bytes)
some_bytes None h = absurd (cc h)
some_bytes (Some bytes) h = (bytes, refl)

chunk_undone : (d : Document) (b : ℕ) (c : ChunkHandle) (s : Splice) → IsValid d → FitsChunk d b c.0 s → PartUndone b (parts.Chunk c s) d
chunk_undone d b c s valid fits =
    let found = heap_at d b fits.heap in
    let u : Attributes = found.0 in
    let m : ChunkMap = found.1 in
    let there : get d.blocks b ≡ Some (heap_block u m) = found.2 in
    let heap : is_heap_map m ≡ true = (valid.blocks b (heap_block u m) there).body in
    let live : contains_key m c.0 ≡ true = rw there at fits.live in
    let chunk = some_bytes (get m c.0) live in
    let bytes : List ℕ = chunk.0 in
    let is : get m c.0 ≡ Some bytes = chunk.1 in
    let stands : OccursAt bytes s.at s.old = rw (there, is) at fits.stands in
    let room : fits_with m c.0 (forwards s bytes) ≡ true = rw (there, is) at fits.fits in
    let back = spliced_back s bytes stands in
    let n : ChunkMap = insert m c.0 (forwards s bytes) in
    let is_now : get n c.0 ≡ Some (forwards s bytes) = get-put_same m c.0 (forwards s bytes) c.0 refl in
    let given : insert n c.0 (backwards s (forwards s bytes)) ≡ m = ap (insert n c.0) back.1 ∙ put_back m c.0 bytes (forwards s bytes) is in
    let now = heap_now d b u m there n in
    part_undone b (parts.Chunk c s) d (with_block d b (heap_block u n)) (splice_made d b u m there c.0 s bytes is)
    (heap_valid d b u m there n valid (heap-insert m c.0 (forwards s bytes) heap (live_handle m c.0 heap live) room))
    (chunk_fits (with_block d b (heap_block u n)) b u n now c.0 (reversed_splice s) (forwards s bytes) is_now back.0 (fits_again m n c.0 (backwards s (forwards s bytes)) given heap))
    (splice_made (with_block d b (heap_block u n)) b u n now c.0 (reversed_splice s) (forwards s bytes) is_now ∙ heap_back d b u m there n _ given)

-- other bytes of a chunk ask for the same room
pub room_again : (m : ChunkMap) (c : ℕ) (bytes more : List ℕ) → fits_with m c more ≡ true → fits_with (insert m c bytes) c more ≡ true
unfolding fits_with
room_again m c bytes more room = ap fits (put_again m c bytes more) ∙ room

patch_undone : (d : Document) (b : ℕ) (c : ChunkHandle) (ps : List PatchPiece) (runs : ArrayRuns) → IsValid d → FitsPatch d b c.0 ps → PartUndone b (parts.Patch c ps runs) d
patch_undone d b c ps runs valid fits =
    let found = heap_at d b fits.heap in
    let u : Attributes = found.0 in
    let m : ChunkMap = found.1 in
    let there : get d.blocks b ≡ Some (heap_block u m) = found.2 in
    let heap : is_heap_map m ≡ true = (valid.blocks b (heap_block u m) there).body in
    let live : contains_key m c.0 ≡ true = rw there at fits.live in
    let chunk = some_bytes (get m c.0) live in
    let bytes : List ℕ = chunk.0 in
    let is : get m c.0 ≡ Some bytes = chunk.1 in
    let stands : ArePiecesOf ps bytes = rw (there, is) at fits.stands in
    let room : fits_with m c.0 (replicate (peak ps) 0) ≡ true = rw there at fits.fits in
    let back = patch_leads_back ps bytes stands in
    let made : List ℕ = patched ps bytes in
    let n : ChunkMap = insert m c.0 made in
    let is_now : get n c.0 ≡ Some made = get-put_same m c.0 made c.0 refl in
    let given : insert n c.0 (patched (reversed_pieces ps) made) ≡ m = ap (insert n c.0) back.1 ∙ put_back m c.0 bytes made is in
    let handle : is_chunk_handle c.0 ≡ true = live_handle m c.0 heap live in
    let room_back : fits_with n c.0 (replicate (peak (reversed_pieces ps)) 0) ≡ true =
    ap (λ (k : ℕ). fits_with n c.0 (replicate k 0)) (reversed_peak ps) ∙ room_again m c.0 made (replicate (peak ps) 0) room in
    let now = heap_now d b u m there n in
    part_undone b (parts.Patch c ps runs) d (with_block d b (heap_block u n)) (patch_made d b u m there c.0 ps bytes is)
    (heap_valid d b u m there n valid (heap-insert m c.0 made heap handle (patched_fits m c.0 ps bytes heap handle (sym (pieces_length ps bytes stands)) room)))
    (patch_fits (with_block d b (heap_block u n)) b u n now c.0 (reversed_pieces ps) made is_now back.0 room_back)
    (patch_made (with_block d b (heap_block u n)) b u n now c.0 (reversed_pieces ps) made is_now ∙ heap_back d b u m there n _ given)

chunk_in_undone : (d : Document) (b : ℕ) (c : ChunkHandle) (content : Content) → IsValid d → FitsNewChunk d b c.0 (content_bytes content) → PartUndone b (parts.ChunkIn c content) d
chunk_in_undone d b c content valid fits =
    let found = heap_at d b fits.heap in
    let u : Attributes = found.0 in
    let m : ChunkMap = found.1 in
    let there : get d.blocks b ≡ Some (heap_block u m) = found.2 in
    let heap : is_heap_map m ≡ true = (valid.blocks b (heap_block u m) there).body in
    let bytes : List ℕ = content_bytes content in
    let free : get m c.0 ≡ None = rw there at fits.free in
    let room : fits_with m c.0 bytes ≡ true = rw there at fits.fits in
    let n : ChunkMap = insert m c.0 bytes in
    let now = heap_now d b u m there n in
    part_undone b (parts.ChunkIn c content) d (with_block d b (heap_block u n)) (chunk_made d b u m there c.0 bytes)
    (heap_valid d b u m there n valid (heap-insert m c.0 bytes heap fits.handle room))
    (has_chunk (with_block d b (heap_block u n)) b u n now c.0 bytes (get-put_same m c.0 bytes c.0 refl))
    (chunk_taken (with_block d b (heap_block u n)) b u n now c.0 ∙ heap_back d b u m there n _ (taken_put m c.0 bytes free))

chunk_out_undone : (d : Document) (b : ℕ) (c : ChunkHandle) (content : Content) → IsValid d → HasChunk d b c.0 (content_bytes content) → PartUndone b (parts.ChunkOut c content) d
chunk_out_undone d b c content valid has =
    let found = heap_at d b has.heap in
    let u : Attributes = found.0 in
    let m : ChunkMap = found.1 in
    let there : get d.blocks b ≡ Some (heap_block u m) = found.2 in
    let heap : is_heap_map m ≡ true = (valid.blocks b (heap_block u m) there).body in
    let bytes : List ℕ = content_bytes content in
    let is : get m c.0 ≡ Some bytes = rw there at has.stands in
    let n : ChunkMap = remove m c.0 in
    let now = heap_now d b u m there n in
    let given = put_taken m c.0 bytes is in
    part_undone b (parts.ChunkOut c content) d (with_block d b (heap_block u n)) (chunk_taken d b u m there c.0)
    (heap_valid d b u m there n valid (heap-remove m c.0 heap))
    (new_chunk_fits (with_block d b (heap_block u n)) b u n now c.0 bytes (live_handle m c.0 heap (ap is_some is)) (get-taken_same m c.0 c.0 refl) (fits_again m n c.0 bytes given heap))
    (chunk_made (with_block d b (heap_block u n)) b u n now c.0 bytes ∙ heap_back d b u m there n _ given)

part_back : (b : ℕ) (p : PartChange) (d : Document) → IsValid d → CanApplyPart b p d → PartUndone b p d
part_back b (parts.Raw s) d valid applies = raw_undone d b s valid applies
part_back b (parts.RawPatch ps) d valid applies = raw_patch_undone d b ps valid applies
part_back b (parts.Chunk c s) d valid applies = chunk_undone d b c s valid applies
part_back b (parts.Patch c ps runs) d valid applies = patch_undone d b c ps runs valid applies
part_back b (parts.ChunkIn c content) d valid applies = chunk_in_undone d b c content valid applies
part_back b (parts.ChunkOut c content) d valid applies = chunk_out_undone d b c content valid applies

-- Attributes, and the map block.
attributes_made : (d : Document) (b : ℕ) (a : Attributes) (block : Block) → get d.blocks b ≡ Some block → with_attributes d b a ≡ with_block d b (record block { attributes = a })
attributes_made d b a block there = rw there refl

some_block : (o : Option Block) → is_some o ≡ true → (block : Block) × (o ≡ Some block)
some_block None h = absurd (cc h)
some_block (Some block) h = (block, refl)

attributes_undone : (d : Document) (b : ℕ) (old new : Attributes) → IsValid d → HasAttributes d b old new
    → IsValid (with_attributes d b new) × HasAttributes (with_attributes d b new) b new old × (with_attributes (with_attributes d b new) b old ≡ d)
attributes_undone d b old new valid has =
    let found = some_block (get d.blocks b) has.live in
    let was : Block = found.0 in
    let there : get d.blocks b ≡ Some was = found.1 in
    let had : was.attributes ≡ old = rw there at has.stands in
    let after : Block = record was { attributes = new } in
    let now : get (with_block d b after).blocks b ≡ Some after = new_there d b was after there in
    let good = valid.blocks b was there in
    subst (λ (x : Document). IsValid x × HasAttributes x b new old × (with_attributes x b old ≡ d)) (sym (attributes_made d b new was there)) (
      new_valid d b was after there valid has.fit (rw there at has.typed) good.body,
      record { live = ap is_some now; stands = rw now refl; fit = rw (← had) good.attributes; typed = rw (now, ← had) good.typed },
      attributes_made (with_block d b after) b old after now ∙ ap (λ (x : Attributes). with_block (with_block d b after) b (record was { attributes = x })) (sym had) ∙ old_back d b was after there,
    )

-- so it is of attributes that the block can have
fitted_undone : (d : Document) (b : ℕ) (old new : Attributes) → IsValid d → HasAttributes d b old new
    → let after = with_attributes d b (attributes_for_kind (is_heap d b) new) in IsValid after × HasAttributes after b new old × (with_attributes after b (attributes_for_kind (is_heap after b) old) ≡ d)
fitted_undone d b old new valid has =
    let undone = attributes_undone d b old new valid has in
    let after_change = with_attributes d b new in
    subst (λ (a : Attributes). let after = with_attributes d b a in IsValid after × HasAttributes after b new old × (with_attributes after b (attributes_for_kind (is_heap after b) old) ≡ d)) (sym (attributes_for_kind-same (is_heap d b) new has.typed))
    (undone.0, undone.1, ap (with_attributes after_change b) (attributes_for_kind-same (is_heap after_change b) old undone.1.typed) ∙ undone.2)

map_undone : (d : Document) (old new : ℕ) → IsValid d → HasMap d old new
    → IsValid (record d { map_block = new }) × HasMap (record d { map_block = new }) new old × (record d { map_block = old } ≡ d)
map_undone d old new valid has = (
  record { blocks = valid.blocks; map_block = has.live },
  record { stands = refl; live = λ some. subst (λ (h : ℕ). is_live d h ≡ true) has.stands (valid.map_block (λ none. some (sym has.stands ∙ none))) },
  ap (λ (h : ℕ). record d { map_block = h }) (sym has.stands),
)

pub change_back : ChangeLaw
change_back (changes.BlocksIn ms) d valid applies = blocks_in_undone d valid ms.list.items applies
change_back (changes.BlocksOut ms) d valid applies = blocks_out_undone d valid (imaged_blocks ms.list.items) applies
change_back (changes.Part b part) d valid applies = part_back b.0 part d valid applies
change_back (changes.Attributes b old new) d valid applies = fitted_undone d b.0 old new valid applies
change_back (changes.Map old new) d valid applies = map_undone d old.0 new.0 valid applies

pub part_twice : (p : PartChange) → reversed_part (reversed_part p) ≡ p
part_twice (parts.Raw s) = refl
part_twice (parts.RawPatch ps) = ap parts.RawPatch (reversed_twice ps)
part_twice (parts.Chunk c s) = refl
part_twice (parts.Patch c ps runs) = ap (λ (qs : List PatchPiece). parts.Patch c qs runs) (reversed_twice ps)
part_twice (parts.ChunkIn c content) = refl
part_twice (parts.ChunkOut c content) = refl

pub flip_twice : ReverseLaw
flip_twice (changes.BlocksIn ms) = refl
flip_twice (changes.BlocksOut ms) = refl
flip_twice (changes.Part b part) = ap (changes.Part b) (part_twice part)
flip_twice (changes.Attributes b old new) = refl
flip_twice (changes.Map old new) = refl
