-- A chunk of which two parts change is reached by two runs, the second one told as it lies after the first.
use Rattle.std.proofs.Common.{◌≡◌, ℕ, ◌+◌, true, List, [], ◌∷◌, ◌++◌, length, take, drop, Option, Some, is_some, nat_cmp, false, refl, sym, ap, ap₂, subst, ◌∙◌, inl, inr, arith, length-append, append_assoc, take_at, drop_at}
use Rattle.std.proofs.lemmas.Bool.{cases_eq}
use Rattle.std.specs.List.{splice}
use Rattle.std.specs.Cmp.{nat_cmp_total}
use Rattle.std.specs.FinMap.{FinMap, get, insert, empty, contains_key, same_map, nat_cmp-IsAntisymmetric}
use Rattle.std.specs.Option.{option_map_or}
use Rattle.geos_model.specs.Heap.{ChunkMap}
use Rattle.geos_model.specs.Document.{Block, Document, chunks_of, chunks_of_body, attributes_of, is_heap, is_heap_body, no_attributes}
use Rattle.geos_model.specs.Meaning.{chunk_at, with_chunk}
use Rattle.geos_model.specs.declared.block.Attributes.{Attributes}
use Rattle.geos_model.specs.declared.command.Body.TheVariants.{Heap}
use Rattle.geos_model.specs.declared.handle.VmHandle.{VmHandle}
use Rattle.geos_model.specs.declared.handle.ChunkHandle.{ChunkHandle}
use Rattle.geos_model.specs.declared.place.Place.TheVariants as place
use Rattle.geos_model.proofs.HeapEdits.{get-put_same, get-put_other}
use Rattle.geos_model.proofs.PlacesOfEdits.{chunk_run, chunk_holds}
use Rattle.geos_model.proofs.Reaching.{Reaches, reaches-append}

-- what is put in last stays
put-again : {X : Type 0} (m : FinMap nat_cmp X) (h : ℕ) (x y : X) → insert (insert m h x) h y ≡ insert m h y
put-again m h x y = same_map nat_cmp_total nat_cmp-IsAntisymmetric (insert (insert m h x) h y) (insert m h y) (λ q. elim (cases_eq q h) [
  | inl e ↦ get-put_same (insert m h x) h y q e ∙ sym (get-put_same m h y q e)
  | inr other ↦ get-put_other (insert m h x) h y q other ∙ get-put_other m h x q other ∙ sym (get-put_other m h y q other)
])

module _ (d : Document) (b c : ℕ) (bytes : List ℕ) where
  abbrev block : Block
  block = record { attributes = attributes_of d b; body = Heap (insert (chunks_of d b) c bytes) }

  stands : get (with_chunk d b c bytes).blocks b ≡ Some block
  stands = get-put_same d.blocks b block b refl

  chunks-then : chunks_of (with_chunk d b c bytes) b ≡ insert (chunks_of d b) c bytes
  chunks-then = ap (λ (o : Option Block). option_map_or (λ x. chunks_of_body x.body) o empty) stands

  heap-then : is_heap (with_chunk d b c bytes) b ≡ true
  heap-then = ap (λ (o : Option Block). option_map_or (λ x. is_heap_body x.body) o false) stands

  live-then : contains_key (chunks_of (with_chunk d b c bytes) b) c ≡ true
  live-then = ap (λ (m : ChunkMap). contains_key m c) chunks-then ∙ ap is_some (get-put_same (chunks_of d b) c bytes c refl)

  attributes-then : attributes_of (with_chunk d b c bytes) b ≡ attributes_of d b
  attributes-then = ap (λ (o : Option Block). option_map_or (λ x. x.attributes) o no_attributes) stands

  -- other bytes of the chunk, put in after these
  chunk-again : (later : List ℕ) → with_chunk (with_chunk d b c bytes) b c later ≡ with_chunk d b c later
  chunk-again later =
      let mid : Document = with_chunk d b c bytes in
      let same : insert (chunks_of mid b) c later ≡ insert (chunks_of d b) c later =
      ap (λ (m : ChunkMap). insert m c later) chunks-then ∙ put-again (chunks_of d b) c bytes later in
      let last : Block = record { attributes = attributes_of d b; body = Heap (insert (chunks_of d b) c later) } in
      ap₂ (λ (a : Attributes) (m : ChunkMap). record { blocks = insert mid.blocks b (record { attributes = a; body = Heap m }); map_block = d.map_block }) attributes-then same
      ∙ ap (λ (bs : FinMap nat_cmp Block). record { blocks = bs; map_block = d.map_block }) (put-again d.blocks b block last)

-- behind the bytes G and A that stay, M becomes N
pub one_run : (d : Document) (b : VmHandle) (c : ChunkHandle) (G A M N Z : List ℕ) → is_heap d b.0 ≡ true → contains_key (chunks_of d b.0) c.0 ≡ true
    → chunk_at d b.0 c.0 ≡ G ++ (A ++ (M ++ Z))
    → Reaches (place.Run b c (length G + length A) (length M) (length N) ∷ []) d (with_chunk d b.0 c.0 (G ++ (A ++ (N ++ Z))))
one_run d b c G A M N Z heap live is =
    let old : List ℕ = chunk_at d b.0 c.0 in
    let new : List ℕ = G ++ (A ++ (N ++ Z)) in
    let at : ℕ = length G + length A in
    let front : length (G ++ A) ≡ at = length-append G A in
    let more : length ((G ++ A) ++ M) ≡ at + length M = length-append (G ++ A) M ∙ ap (λ (n : ℕ). n + length M) front in
    let split : old ≡ (G ++ A) ++ (M ++ Z) = is ∙ sym (append_assoc G A (M ++ Z)) in
    let cut : old ≡ ((G ++ A) ++ M) ++ Z = split ∙ sym (append_assoc (G ++ A) M Z) in
    let begins : take at old ≡ G ++ A = ap (take at) split ∙ take_at (G ++ A) (M ++ Z) at front in
    let ends : drop (at + length M) old ≡ Z = ap (drop (at + length M)) cut ∙ drop_at ((G ++ A) ++ M) Z (at + length M) more in
    let second : new ≡ splice old at (at + length M) N =
    sym (append_assoc G A (N ++ Z)) ∙ ap₂ (λ (l r : List ℕ). l ++ (N ++ r)) (sym begins) (sym ends) in
    let long = ap length cut ∙ length-append ((G ++ A) ++ M) Z in
    chunk_run d b c at (length M) (length N) new N heap live (omega (arith, long, more)) second refl

-- the head H becomes G, and behind the bytes A that stay M becomes N
pub two_runs : (d : Document) (b : VmHandle) (c : ChunkHandle) (H G A M N Z : List ℕ) → is_heap d b.0 ≡ true → contains_key (chunks_of d b.0) c.0 ≡ true
    → chunk_at d b.0 c.0 ≡ H ++ (A ++ (M ++ Z))
    → Reaches (place.Run b c 0 (length H) (length G) ∷ place.Run b c (length G + length A) (length M) (length N) ∷ []) d (with_chunk d b.0 c.0 (G ++ (A ++ (N ++ Z))))
two_runs d b c H G A M N Z heap live is =
    let half : List ℕ = G ++ (A ++ (M ++ Z)) in
    let new : List ℕ = G ++ (A ++ (N ++ Z)) in
    let mid : Document = with_chunk d b.0 c.0 half in
    let first : half ≡ splice (chunk_at d b.0 c.0) 0 (0 + length H) G = ap (λ (l : List ℕ). G ++ l) (sym (ap (drop (0 + length H)) is ∙ drop_at H (A ++ (M ++ Z)) (0 + length H) (omega arith))) in
    let old_long = ap length is ∙ length-append H (A ++ (M ++ Z)) in
    reaches-append (place.Run b c 0 (length H) (length G) ∷ []) (place.Run b c (length G + length A) (length M) (length N) ∷ []) d mid (with_chunk d b.0 c.0 new)
    (chunk_run d b c 0 (length H) (length G) half G heap live (omega (arith, old_long)) first refl)
    (subst (Reaches (place.Run b c (length G + length A) (length M) (length N) ∷ []) mid) (chunk-again d b.0 c.0 half new)
    (one_run mid b c G A M N Z (heap-then d b.0 c.0 half) (live-then d b.0 c.0 half) (chunk_holds d b.0 c.0 half)))
