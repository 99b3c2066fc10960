-- Plans of edits of a chunk, from what was built for them.
use Rattle.std.proofs.Common.{◌≡◌, ◌≤◌, ℕ, List, [], ◌∷◌, ◌++◌, Bool, true, false, not, cond, Option, Some, None, unwrap_or, length, max, replicate, refl, sym, ap, subst, ◌∙◌, inl, inr, arith}
use Rattle.std.proofs.lemmas.Bool.{cases_Bool, cases_lt}
use Rattle.std.proofs.lemmas.List.{length-replicate}
use Rattle.std.specs.FinMap.{contains_key}
use Rattle.geos_model.specs.Document.{Document, chunks_of, is_heap}
use Rattle.geos_model.specs.Heap.{ChunkMap, chunk_bytes, fits_with, fits_new, is_heap_map, next_chunk}
use Rattle.geos_model.specs.Meaning.{chunk_at, conditions, with_chunk, new_chunk_handle, no_place, on_chunk}
use Rattle.geos_model.specs.Refusal.{Conditions, first_refusal}
use Rattle.geos_model.specs.Scope.{Chunk, scope_of}
use Rattle.geos_model.specs.declared.command.Done.{Done}
use Rattle.geos_model.specs.declared.command.Done.TheVariants as done
use Rattle.geos_model.specs.declared.command.Edit.{Edit}
use Rattle.geos_model.specs.declared.fault.Fault.{Fault}
use Rattle.geos_model.specs.declared.fault.Fault.TheVariants.{Full}
use Rattle.geos_model.specs.declared.handle.ChunkHandle.{ChunkHandle}
use Rattle.geos_model.specs.declared.handle.VmHandle.{VmHandle}
use Rattle.geos_model.specs.declared.place.Place.TheVariants as place
use Rattle.chunk_edits.specs.Found.{IsChunkIn}
use Rattle.chunk_edits.specs.Patching.{patched, peak}
use Rattle.chunk_edits.specs.Splicing.{Splice, forwards}
use Rattle.geos_model.proofs.HeapTables.{fits_with-fewer, fits_with-same}
use Rattle.lmem_heap.proofs.PlacedLemmas.{fits_new-some, fits_new-none}
use Rattle.vm_blocks.proofs.RoomLemmas.{fits_as, fits_few}
use Rattle.vm_blocks.specs.Allowing.{AllowsNewChunk}
use Rattle.vm_blocks.specs.Changes.{content_bytes, after_part, CanApplyPart, FitsChunk, FitsPatch}
use Rattle.vm_blocks.specs.declared.change.Change.TheVariants as changes
use Rattle.vm_blocks.specs.declared.change.Content.{Content}
use Rattle.vm_blocks.specs.declared.change.PartChange.{PartChange}
use Rattle.vm_blocks.specs.declared.change.PartChange.TheVariants as parts
use Rattle.doc_edits.specs.Found.{IsHeapAt, IsChunkAt, AreLate}
use Rattle.doc_edits.specs.Building.{chunk_after, IsOfChunk, StandsIn, IsBuilt, MakesPart, MakesSplice, Creates}
use Rattle.doc_edits.specs.Planning.{Plans}
use Rattle.doc_edits.proofs.Documents.{chunks_are, heap_there}
use Rattle.doc_edits.proofs.FirstConditions.{FirstOfScope, scope_first}

-- there is room for as many bytes as there are before or after, where what is there then fits
room_between : (m : ChunkMap) (c : ℕ) (after : List ℕ) (n : ℕ) → is_heap_map m ≡ true → contains_key m c ≡ true → n ≡ max (length (chunk_bytes m c)) (length after)
    → fits_with m c after ≡ true → fits_with m c (replicate n 0) ≡ true
room_between m c after n valid live most fit = elim (cases_lt (length (chunk_bytes m c)) (length after)) [
  | inl longer ↦ fits_with-same m c (replicate n 0) after valid live (length-replicate {A = ℕ} n 0 ∙ omega arith) ∙ fit
  | inr no_longer ↦ fits_with-fewer m c (replicate n 0) valid live (omega (arith, length-replicate {A = ℕ} n 0))
]

-- A change of a part that stands in the bytes of its chunk, and leaves what fits.
module _ (d : Document) (b c : ℕ) where
  part_applies : is_heap d b ≡ true → contains_key (chunks_of d b) c ≡ true → is_heap_map (chunks_of d b) ≡ true
      → (part : PartChange) → IsOfChunk part c → StandsIn part (chunk_at d b c) → fits_with (chunks_of d b) c (chunk_after part (chunk_at d b c)) ≡ true → CanApplyPart b part d
  part_applies heap live valid (parts.Chunk h s) here stands fits = subst (λ (k : ℕ). FitsChunk d b k s) (sym here) (record { heap = heap; live = live; stands = stands; fits = fits })
  part_applies heap live valid (parts.Patch h ps runs) here leads fits =
      let room = room_between (chunks_of d b) c (patched ps (chunk_at d b c)) (peak ps) valid live leads.peak fits in
      subst (λ (k : ℕ). FitsPatch d b k ps) (sym here) (record { heap = heap; live = live; stands = leads.stands; fits = room })
  part_applies heap live valid (parts.Raw s) here stands fits = absurd here
  part_applies heap live valid (parts.RawPatch ps) here stands fits = absurd here
  part_applies heap live valid (parts.ChunkIn h content) here stands fits = absurd here
  part_applies heap live valid (parts.ChunkOut h content) here stands fits = absurd here

  part_makes : (part : PartChange) → IsOfChunk part c → after_part b part d ≡ with_chunk d b c (chunk_after part (chunk_at d b c))
  part_makes (parts.Chunk h s) here = ap (λ (k : ℕ). with_chunk d b k (forwards s (chunk_at d b k))) here
  part_makes (parts.Patch h ps runs) here = ap (λ (k : ℕ). with_chunk d b k (patched ps (chunk_at d b k))) here
  part_makes (parts.Raw s) here = absurd here
  part_makes (parts.RawPatch ps) here = absurd here
  part_makes (parts.ChunkIn h content) here = absurd here
  part_makes (parts.ChunkOut h content) here = absurd here

-- An edit of a chunk's bytes.
module _ (edit : Edit) (d : Document) (b : VmHandle) (c : ChunkHandle) where
  pub chunk_refused : scope_of edit ≡ Chunk b c → (fault : Fault) → ((rest : Conditions) → AreLate rest → first_refusal (on_chunk d b.0 c.0 ++ rest) ≡ Some fault) → first_refusal (conditions edit d) ≡ Some fault
  chunk_refused is fault refused =
      let first = subst (FirstOfScope edit) is (scope_first edit) d in
      ap first_refusal first.2 ∙ refused first.0 first.1

  module _ (m : ChunkMap) (live : IsHeapAt d b.0 m) (bytes : List ℕ) (there : IsChunkAt d b.0 c.0 bytes) where
    same : chunks_of d b.0 ≡ m
    same = chunks_are d b.0 m live

    module _ (part : PartChange) (done : Done) (makes : MakesPart edit d b c part done) where
      pub is_built : IsBuilt part (chunk_bytes m c.0)
      is_built = subst (λ (x : ChunkMap). IsBuilt part (chunk_bytes x c.0)) same makes.built

      fits_same : fits_with (chunks_of d b.0) c.0 (chunk_after part (chunk_at d b.0 c.0)) ≡ fits_with m c.0 (chunk_after part (chunk_bytes m c.0))
      fits_same = ap (λ (x : ChunkMap). fits_with x c.0 (chunk_after part (chunk_bytes x c.0))) same

      by_room : (fit : Bool) → fit ≡ fits_with m c.0 (chunk_after part (chunk_bytes m c.0)) → first_refusal (conditions edit d) ≡ cond fit None (Some Full)
      by_room fit e = makes.refusal ∙ ap (λ (t : Bool). cond t None (Some Full)) (fits_same ∙ sym e)

      pub full : false ≡ fits_with m c.0 (chunk_after part (chunk_bytes m c.0)) → first_refusal (conditions edit d) ≡ Some Full
      full e = by_room false e

      pub planned : true ≡ fits_with m c.0 (chunk_after part (chunk_bytes m c.0)) → Plans edit d (changes.Part b part) done
      planned e = record {
        accepted = by_room true e;
        applies = part_applies d b.0 c.0 (heap_there d b.0 m live) there.live there.valid part makes.chunk makes.built.stands (fits_same ∙ sym e);
        document = part_makes d b.0 c.0 part makes.chunk ∙ makes.document;
        answer = makes.answer;
        kind = sym makes.kind;
        cost = makes.cost;
        places = makes.places;
      }

    -- a splice finds room
    pub spliced : (s : Splice) → MakesSplice edit d b c s → Plans edit d (changes.Part b (parts.Chunk c s)) done.Nothing
    spliced s makes = planned (parts.Chunk c s) done.Nothing makes.part (sym makes.fits ∙ fits_same (parts.Chunk c s) done.Nothing makes.part)

    -- the heap has these bytes under the handle
    pub found_in : IsChunkIn m c.0 bytes
    found_in = subst (λ (x : ChunkMap). IsChunkIn x c.0 bytes) same (record { live = there.live; valid = there.valid; value = there.value })

-- Whether a new chunk finds a place.
module _ (m : ChunkMap) (bytes : List ℕ) where
  pub no_handle : None ≡ next_chunk m → fits_new m bytes ≡ false
  no_handle none = fits_new-none m bytes (sym none)

  module _ (k : ℕ) (next : Some k ≡ next_chunk m) where
    pub too_many : 4294967296 ≤ length bytes → fits_new m bytes ≡ false
    too_many many = elim (cases_Bool (fits_new m bytes)) [
      | inl fit ↦ let few = fits_few k bytes m (sym (fits_new-some m k bytes (sym next)) ∙ fit) in absurd (omega (arith, few, many))
      | inr none ↦ none
    ]

    as_zeros : (n : ℕ) → n ≡ length bytes → fits_with m k bytes ≡ fits_with m k (replicate n 0)
    as_zeros n is = fits_as k bytes (replicate n 0) m (sym is ∙ sym (length-replicate {A = ℕ} n 0))

    pub place_full : (n : ℕ) → n ≡ length bytes → false ≡ fits_with m k (replicate n 0) → fits_new m bytes ≡ false
    place_full n is full = fits_new-some m k bytes (sym next) ∙ as_zeros n is ∙ sym full

    pub place_fits : (n : ℕ) → n ≡ length bytes → true ≡ fits_with m k (replicate n 0) → fits_with m k bytes ≡ true
    place_fits n is fit = as_zeros n is ∙ sym fit

-- An edit that makes a chunk.
module _ (edit : Edit) (d : Document) (b : VmHandle) where
  module _ (m : ChunkMap) (live : IsHeapAt d b.0 m) where
    module _ (content : Content) (creates : Creates edit d b (content_bytes content)) where
      by_place : (fit : Bool) → fits_new m (content_bytes content) ≡ fit → first_refusal (conditions edit d) ≡ cond fit None (Some Full)
      by_place fit e =
          creates.refusal ∙ ap (λ (x : ChunkMap). first_refusal (no_place x (content_bytes content))) (chunks_are d b.0 m live) ∙ ap (λ (t : Bool). first_refusal ((Full, not t) ∷ [])) e
          ∙ decides fit
        where
          decides : (fit : Bool) → first_refusal ((Full, not fit) ∷ []) ≡ cond fit None (Some Full)
          decides true = refl
          decides false = refl

      pub new_full : fits_new m (content_bytes content) ≡ false → first_refusal (conditions edit d) ≡ Some Full
      new_full e = by_place false e

      module _ (c : ChunkHandle) (next : next_chunk m ≡ Some c.0) (allows : AllowsNewChunk m c.0 (content_bytes content)) where
        handle_is : new_chunk_handle d b.0 ≡ c.0
        handle_is = ap (λ (x : ChunkMap). unwrap_or (next_chunk x) 0) (chunks_are d b.0 m live) ∙ ap (λ (o : Option ℕ). unwrap_or o 0) next

        pub new_planned : Plans edit d (changes.Part b (parts.ChunkIn c content)) (done.Chunk c)
        new_planned = record {
          accepted = by_place true (fits_new-some m c.0 (content_bytes content) next ∙ allows.fits);
          applies = record {
            heap = heap_there d b.0 m live;
            handle = allows.handle;
            free = rw (chunks_are d b.0 m live) allows.free;
            fits = rw (chunks_are d b.0 m live) allows.fits;
          };
          document = ap (λ (k : ℕ). with_chunk d b.0 k (content_bytes content)) (sym handle_is) ∙ ap (λ p. p.0) (sym creates.does);
          answer = ap (λ (k : ℕ). done.Chunk (record { 0 = k })) (sym handle_is) ∙ ap (λ p. p.1) (sym creates.does);
          kind = sym creates.kind;
          cost = sym creates.cost;
          places = ap (λ (k : ℕ). place.Chunk b (record { 0 = k }) ∷ []) (sym handle_is) ∙ sym creates.places;
        }
