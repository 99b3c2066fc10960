-- How long a chunk can be.
use Rattle.std.proofs.Common.{◌≡◌, ℕ, ◌+◌, ◌*◌, ◌-◌, ◌/◌, ◌≤◌, true, false, List, [], length, Option, Some, None, is_some, nat_cmp, unwrap_or, refl, sym, ap, subst, ◌∙◌, inl, inr, arith, le-leb}
use Rattle.std.proofs.lemmas.Bool.{cases_eq}
use Rattle.std.specs.Option.{option_map_or}
use Rattle.std.specs.FinMap.{get, empty, get-empty, insert}
use Rattle.geos_model.specs.Heap.{ChunkMap, is_heap_map, need, fits, fits_with, fits_new, next_chunk, chunk_bytes, longest_chunk, space_of}
use Rattle.geos_model.specs.Document.{Block, Document, IsValid, is_valid_body, chunks_of_body}
use Rattle.geos_model.specs.Meaning.{chunk_at}
use Rattle.geos_model.specs.Laws.{ChunkLaw}
use Rattle.geos_model.specs.declared.command.Body.{Body}
use Rattle.geos_model.specs.declared.command.Body.TheVariants.{Raw, Heap}
use Rattle.geos_model.proofs.Table.{table_map}
use Rattle.geos_model.proofs.Tables.{put_at, get-table_map_at, table_map-nil, table_map-put, next_chunk-table}
use Rattle.geos_model.proofs.HeapTables.{live_slot, heap_map-table, need_le, need-table, chunk_length_le, space_of_some, trimmed-nil, trimmed-put}

pub in_heap : (m : ChunkMap) (h : ℕ) (bytes : List ℕ) → is_heap_map m ≡ true → get m h ≡ Some bytes → length bytes ≤ longest_chunk
in_heap m h bytes heap there =
    let shown = heap_map-table m heap in
    let i : ℕ = (h - 16) / 2 in
    let at : h ≡ 16 + 2 * i = live_slot m h heap (ap is_some there) in
    let slot = sym (get-table_map_at (omega arith) 16 shown.0 i h at) ∙ ap (λ (x : ChunkMap). get x h) (sym shown.2) ∙ there in
    let room = subst (λ (x : ChunkMap). need x ≤ 65520) shown.2 (need_le m heap) in
    chunk_length_le shown.0 shown.1 room i bytes slot

-- so it is where there is none
in_map : (m : ChunkMap) (h : ℕ) → is_heap_map m ≡ true → length (chunk_bytes m h) ≤ longest_chunk
in_map m h heap = by_chunk (get m h) (λ bytes is. in_heap m h bytes heap is)
  where
    by_chunk : (o : Option (List ℕ)) → ((bytes : List ℕ) → o ≡ Some bytes → length bytes ≤ longest_chunk) → length (unwrap_or o []) ≤ longest_chunk
    by_chunk None short = omega arith
    by_chunk (Some bytes) short = short bytes refl

none_in_empty : (h : ℕ) → length (chunk_bytes empty h) ≤ longest_chunk
none_in_empty h = let none : length (chunk_bytes empty h) ≡ 0 = ap (λ (o : Option (List ℕ)). length (unwrap_or o [])) (get-empty nat_cmp h) in omega (arith, none)

in_document : (d : Document) (b c : ℕ) → IsValid d → length (chunk_at d b c) ≤ longest_chunk
in_document d b c valid = by_block (get d.blocks b) (λ block is. (valid.blocks b block is).body)
  where
    by_body : (body : Body) → is_valid_body body ≡ true → length (chunk_bytes (chunks_of_body body) c) ≤ longest_chunk
    by_body (Raw bytes) valid = none_in_empty c
    by_body (Heap m) valid = in_map m c valid

    by_block : (o : Option Block) → ((block : Block) → o ≡ Some block → is_valid_body block.body ≡ true)
        → length (chunk_bytes (option_map_or (λ block. chunks_of_body block.body) o empty) c) ≤ longest_chunk
    by_block None valid = none_in_empty c
    by_block (Some block) valid = by_body block.body (valid block refl)

-- a chunk alone in a heap
need-alone : (bytes : List ℕ) → need (insert empty 16 bytes) ≡ 20 + space_of (length bytes)
need-alone bytes =
    let t : List (Option (List ℕ)) = put_at [] 0 bytes in
    let shows : table_map 2 16 t ≡ insert empty 16 bytes = table_map-put (omega arith) 16 [] 0 bytes ∙ ap (λ (m : ChunkMap). insert m 16 bytes) (table_map-nil 2 16) in
    let is = need-table t (trimmed-put [] 0 bytes (trimmed-nil (List ℕ))) in
    let needed : need (table_map 2 16 t) ≡ need (insert empty 16 bytes) = ap need shows in
    omega (arith, is, needed)

alone : (bytes : List ℕ) → length bytes ≤ longest_chunk → fits_new empty bytes ≡ true
unfolding fits_new fits_with fits
alone bytes short =
    let first : next_chunk empty ≡ Some 16 = ap next_chunk (sym (table_map-nil {X = List ℕ} 2 16)) ∙ next_chunk-table [] in
    let is = need-alone bytes in
    let space : space_of (length bytes) ≤ 65500 = elim (cases_eq (length bytes) 0) [
      | inl e ↦ (let none : space_of (length bytes) ≡ 0 = ap space_of e in omega (arith, none))
      | inr e ↦ (let some = space_of_some (length bytes) (omega arith) in omega (arith, some))
    ] in
    ap (λ (o : Option ℕ). option_map_or (λ h. fits_with empty h bytes) o false) first ∙ le-leb (need (insert empty 16 bytes)) 65520 (omega (arith, is, space))

pub chunk_law : ChunkLaw
chunk_law = record { in_heap = in_heap; in_document = in_document; alone = alone }
