-- What more chunks and more blocks add.
use Rattle.std.proofs.Common.{◌≡◌, ℕ, Bool, true, false, cond, List, [], ◌∷◌, ◌++◌, map, refl, sym, ap, subst, ◌∙◌, append-nil, ◌==◌}
use Rattle.std.proofs.lemmas.List.Elements.{filter-append}
use Rattle.std.proofs.lemmas.List.Concat.{flat_map-append}
use Rattle.std.proofs.lemmas.List.{map-append}
use Rattle.std.specs.List.{filter}
use Rattle.std.specs.BTreeMap.{get as value_at}
use Rattle.std.specs.Ordering.{nat_cmp}
use Rattle.std.specs.FinMap.{entries}
use Rattle.geos_model.specs.Heap.{ChunkMap}
use Rattle.geos_model.specs.declared.block.Attributes.{Attributes}
use Rattle.geos_model.specs.declared.command.Body.TheVariants.{Raw, Heap}
use Rattle.document_stat.specs.Arrays.{is_kind, kind_of_array}
use Rattle.document_stat.specs.Counted.{AddsArray, AddsBlocks, AddsChunks, Blocks, Chunks, IsCount, all_array_items, all_chunk_items, array_item, array_items, block_item, chunk_items, heap_items, if_so, raw_items, tally_of, typed_items}
use Rattle.document_stat.specs.Tallies.{AddsItems, AddsIfAny}
use Rattle.lmem_heap.specs.declared.known.ArrayKind.{ArrayKind}
use Rattle.document_stat.specs.declared.blocks.BlockStat.{BlockStat}
use Rattle.document_stat.specs.declared.chunks.ArrayStat.{ArrayStat}
use Rattle.document_stat.specs.declared.chunks.ChunkStat.{ChunkStat}
use Rattle.document_stat.specs.declared.tally.Item.{Item}
use Rattle.document_stat.specs.declared.tally.Tally.{Tally}
use Rattle.document_stat.proofs.HeapChunks.{entries-empty}
use Rattle.document_stat.proofs.Tallies.{adds_if_any_more, adds_if_any_none, adds_if_any_same, adds_more, adds_none, adds_same}

-- what is made of those that pass
kept-append : {X : Type 0} (f : X → Item) (p : X → Bool) (xs ys : List X) → map f (filter p xs) ++ map f (filter p ys) ≡ map f (filter p (xs ++ ys))
kept-append f p xs ys = sym (map-append f (filter p xs) (filter p ys)) ∙ ap (map f) (sym (filter-append p xs ys))

pub kept_one : {X : Type 0} (f : X → Item) (b : Bool) (x : X) → if_so b (f x) ≡ map f (cond b (x ∷ []) [])
kept_one f true x = refl
kept_one f false x = refl

-- Chunks.

pub adds_no_chunk : (block : ℕ) (s : ChunkStat) → AddsChunks block [] s s
adds_no_chunk block s = record { all = adds_none s.all; arrays = λ kind. adds_none (tally_of kind s.arrays) }

pub adds_more_chunks : (block : ℕ) (cs ds : Chunks) (a b c : ChunkStat) → AddsChunks block cs a b → AddsChunks block ds b c → AddsChunks block (cs ++ ds) a c
adds_more_chunks block cs ds a b c first then = record {
  all = adds_same _ _ a.all c.all (sym (map-append _ cs ds)) (adds_more (chunk_items block cs) (chunk_items block ds) a.all b.all c.all first.all then.all);
  arrays = λ kind.
      adds_same _ _ (tally_of kind a.arrays) (tally_of kind c.arrays) (kept-append (array_item block) (λ x. is_kind kind (kind_of_array x.1)) cs ds)
      (adds_more (array_items kind block cs) (array_items kind block ds) (tally_of kind a.arrays) (tally_of kind b.arrays) (tally_of kind c.arrays) (first.arrays kind) (then.arrays kind));
}

pub adds_same_chunks : (block : ℕ) (cs ds : Chunks) (a b : ChunkStat) → cs ≡ ds → AddsChunks block cs a b → AddsChunks block ds a b
adds_same_chunks block cs ds a b same adds = subst (λ (l : Chunks). AddsChunks block l a b) same adds

-- an array or none, of a chunk
pub adds_chunk_array : (block c : ℕ) (bytes : List ℕ) (a b : ArrayStat) → AddsArray (kind_of_array bytes) (array_item block (c, bytes)) a b
    → (kind : ArrayKind) → AddsItems (array_items kind block ((c, bytes) ∷ [])) (tally_of kind a) (tally_of kind b)
adds_chunk_array block c bytes a b adds kind =
    adds_same _ _ (tally_of kind a) (tally_of kind b) (kept_one (array_item block) (is_kind kind (kind_of_array bytes)) (c, bytes)) (adds.each kind)

-- Blocks.

pub adds_no_block : (s : BlockStat) → AddsBlocks [] s s
adds_no_block s = record {
  raw = adds_none s.raw;
  heaps = adds_none s.heaps;
  types = λ t. adds_if_any_none (value_at nat_cmp s.types t);
  chunks = adds_none s.chunks.all;
  arrays = λ kind. adds_none (tally_of kind s.chunks.arrays);
}

pub adds_more_blocks : (xs ys : Blocks) (a b c : BlockStat) → AddsBlocks xs a b → AddsBlocks ys b c → AddsBlocks (xs ++ ys) a c
adds_more_blocks xs ys a b c first then = record {
  raw = adds_same _ _ a.raw c.raw (kept-append block_item _ xs ys) (adds_more (raw_items xs) (raw_items ys) a.raw b.raw c.raw first.raw then.raw);
  heaps = adds_same _ _ a.heaps c.heaps (kept-append block_item _ xs ys) (adds_more (heap_items xs) (heap_items ys) a.heaps b.heaps c.heaps first.heaps then.heaps);
  types = λ t.
      adds_if_any_same _ _ (value_at nat_cmp a.types t) (value_at nat_cmp c.types t) (kept-append block_item _ xs ys)
      (adds_if_any_more (typed_items t xs) (typed_items t ys) (value_at nat_cmp a.types t) (value_at nat_cmp b.types t) (value_at nat_cmp c.types t) (first.types t) (then.types t));
  chunks = adds_same _ _ a.chunks.all c.chunks.all (sym (flat_map-append _ xs ys)) (adds_more (all_chunk_items xs) (all_chunk_items ys) a.chunks.all b.chunks.all c.chunks.all first.chunks then.chunks);
  arrays = λ kind.
      adds_same _ _ (tally_of kind a.chunks.arrays) (tally_of kind c.chunks.arrays) (sym (flat_map-append _ xs ys))
      (adds_more (all_array_items kind xs) (all_array_items kind ys) (tally_of kind a.chunks.arrays) (tally_of kind b.chunks.arrays) (tally_of kind c.chunks.arrays) (first.arrays kind) (then.arrays kind));
}

pub counted_more : (xs ys : Blocks) (a b : BlockStat) → IsCount xs a → AddsBlocks ys a b → IsCount (xs ++ ys) b
counted_more xs ys a b is adds = record { first = is.first; none = is.none; adds = adds_more_blocks xs ys is.first a b is.adds adds }

-- a raw block has no chunks
pub raw_adds : (h : ℕ) (attributes : Attributes) (bytes : List ℕ) (old new : BlockStat) → AddsItems (block_item (h, record { attributes = attributes; body = Raw bytes }) ∷ []) old.raw new.raw → new.heaps ≡ old.heaps → new.types ≡ old.types → new.chunks ≡ old.chunks
    → AddsBlocks ((h, record { attributes = attributes; body = Raw bytes }) ∷ []) old new
raw_adds h attributes bytes old new raw heaps types chunks = record {
  raw = raw;
  heaps = subst (λ (t : Tally). AddsItems [] old.heaps t) (sym heaps) (adds_none old.heaps);
  types = λ t. subst (λ m. AddsIfAny [] (value_at nat_cmp old.types t) (value_at nat_cmp m t)) (sym types) (adds_if_any_none (value_at nat_cmp old.types t));
  chunks =
      adds_same _ _ old.chunks.all new.chunks.all (ap (λ (cs : Chunks). chunk_items h cs ++ []) (sym entries-empty))
      (subst (λ (s : ChunkStat). AddsItems [] old.chunks.all s.all) (sym chunks) (adds_none old.chunks.all));
  arrays = λ kind.
      adds_same _ _ (tally_of kind old.chunks.arrays) (tally_of kind new.chunks.arrays) (ap (λ (cs : Chunks). array_items kind h cs ++ []) (sym entries-empty))
      (subst (λ (s : ChunkStat). AddsItems [] (tally_of kind old.chunks.arrays) (tally_of kind s.arrays)) (sym chunks) (adds_none (tally_of kind old.chunks.arrays)));
}

pub heap_adds : (h : ℕ) (attributes : Attributes) (m : ChunkMap) (old new : BlockStat) → new.raw ≡ old.raw → AddsItems (block_item (h, record { attributes = attributes; body = Heap m }) ∷ []) old.heaps new.heaps
    → ((t : ℕ) → AddsIfAny (if_so (attributes.heap_type == t) (block_item (h, record { attributes = attributes; body = Heap m }))) (value_at nat_cmp old.types t) (value_at nat_cmp new.types t)) → AddsChunks h (entries m) old.chunks new.chunks
    → AddsBlocks ((h, record { attributes = attributes; body = Heap m }) ∷ []) old new
heap_adds h attributes m old new raw heaps types chunks = record {
  raw = subst (λ (t : Tally). AddsItems [] old.raw t) (sym raw) (adds_none old.raw);
  heaps = heaps;
  types = λ t.
      adds_if_any_same _ _ (value_at nat_cmp old.types t) (value_at nat_cmp new.types t) (kept_one block_item (attributes.heap_type == t) (h, record { attributes = attributes; body = Heap m })) (types t);
  chunks = adds_same _ _ old.chunks.all new.chunks.all (sym (append-nil (chunk_items h (entries m)))) chunks.all;
  arrays = λ kind. adds_same _ _ (tally_of kind old.chunks.arrays) (tally_of kind new.chunks.arrays) (sym (append-nil (array_items kind h (entries m)))) (chunks.arrays kind);
}
