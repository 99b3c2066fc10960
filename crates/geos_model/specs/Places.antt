-- Places: what a step changes of a document, and the document with holes there.
use Rattle.std.specs.Prelude.{◌≡◌, ℕ, ◌+◌, ◌-◌, ◌*◌, List, [], ◌∷◌, ◌++◌, ◌==◌, ◌&&◌, if◌then◌else◌, length, map, take, drop, replicate, reverse, min, Option, Some, None, IfSome, unwrap_or}
use Rattle.std.specs.List.{splice, flat_map}
use Rattle.std.specs.FinMap.{get}
use Rattle.std.specs.Option.{option_map, option_and_then}
use Rattle.geos_model.specs.Bytes.{same_bytes}
use Rattle.geos_model.specs.Array.{Array, array_start}
use Rattle.geos_model.specs.ArrayEdits.{array_in}
use Rattle.geos_model.specs.ElementEdits.{token_added}
use Rattle.geos_model.specs.NameEdits.{name_token_added}
use Rattle.geos_model.specs.Document.{Document, next_handle, raw_bytes_of}
use Rattle.geos_model.specs.Chain.{chain_blocks, new_handles}
use Rattle.geos_model.specs.ChangedBlocks.{created_blocks, inserted_blocks, set_blocks, deleted_blocks}
use Rattle.geos_model.specs.Meaning.{effect, chunk_at, new_chunk_handle}
use Rattle.geos_model.specs.declared.block.Attributes.{Attributes}
use Rattle.geos_model.specs.declared.command.Body.{Body}
use Rattle.geos_model.specs.declared.command.Body.TheVariants.{Raw, Heap}
use Rattle.geos_model.specs.declared.command.Edit.{Edit}
use Rattle.geos_model.specs.declared.command.Edit.TheVariants as edits
use Rattle.geos_model.specs.declared.handle.VmHandle.{VmHandle}
use Rattle.geos_model.specs.declared.handle.ChunkHandle.{ChunkHandle}
use Rattle.geos_model.specs.declared.place.Place.{Place}
use Rattle.geos_model.specs.declared.place.Place.TheVariants as place

-- What a document has, each under its name: the map block; under a handle attributes, or none where no block is there;
-- under a handle and a part a text, or none. Part 0 of a raw block is its body, and of a heap each chunk is a part.

abbrev pub part_of_body : Body → ℕ → Option (List ℕ)
part_of_body (Raw bytes) c = if c == 0 then Some bytes else None
part_of_body (Heap m) c = get m c

abbrev pub attributes_under : Document → ℕ → Option Attributes
attributes_under d b = option_map (λ x. x.attributes) (get d.blocks b)

abbrev pub text_under : Document → ℕ → ℕ → Option (List ℕ)
text_under d b c = option_and_then (λ x. part_of_body x.body c) (get d.blocks b)

-- A document with holes: None is a hole, in a text for each byte.
pub record Holed : Type 0 where
  pub map_block : Option ℕ
  pub attributes : ℕ → Option (Option Attributes)
  pub text : ℕ → ℕ → Option (Option (List (Option ℕ)))

abbrev pub without_holes : Document → Holed
without_holes d = record {
  map_block = Some d.map_block;
  attributes = λ b. Some (attributes_under d b);
  text = λ b c. Some (option_map (map Some) (text_under d b c));
}

-- with the hole that a place is; a run moves what lies behind it
abbrev pub with_hole : Place → Holed → Holed
with_hole place.All h = record { map_block = None; attributes = λ b. None; text = λ b c. None }
with_hole place.MapBlock h = record h { map_block = None }
with_hole (place.Attributes b) h = record h { attributes = λ x. if x == b.0 then None else h.attributes x }
with_hole (place.Block b) h = record h {
  attributes = λ x. if x == b.0 then None else h.attributes x;
  text = λ x y. if x == b.0 then None else h.text x y;
}
with_hole (place.Chunk b c) h = record h { text = λ x y. if x == b.0 && y == c.0 then None else h.text x y }
with_hole (place.Run b c at before after) h = record h {
  text = λ x y. if x == b.0 && y == c.0
      then option_map (option_map (λ t. splice t at (at + before) (replicate after None))) (h.text x y)
      else h.text x y;
}

abbrev pub with_holes : List Place → Holed → Holed
with_holes [] h = h
with_holes (p ∷ ps) h = with_holes ps (with_hole p h)

-- these bytes, as many, but for the holes
abbrev pub AreBytes : List (Option ℕ) → List ℕ → Type 0
AreBytes [] [] = Unit {0}
AreBytes [] (x ∷ xs) = ⊥
AreBytes (t ∷ ts) [] = ⊥
AreBytes (t ∷ ts) (x ∷ xs) = IfSome t (λ y. x ≡ y) × AreBytes ts xs

abbrev pub IsText : Option (List (Option ℕ)) → Option (List ℕ) → Type 0
IsText None None = Unit {0}
IsText None (Some bytes) = ⊥
IsText (Some t) None = ⊥
IsText (Some t) (Some bytes) = AreBytes t bytes

-- What is no hole stands in the document, at the same place.
pub record Stands (h : Holed) (d : Document) : Type 0 where
  pub map_block : IfSome h.map_block (λ m. d.map_block ≡ m)
  pub attributes : (b : ℕ) → IfSome (h.attributes b) (λ a. attributes_under d b ≡ a)
  pub text : (b c : ℕ) → IfSome (h.text b c) (λ t. IsText t (text_under d b c))

-- From one document to another nothing changes but at these places, one after another.
abbrev pub ChangesAt : List Place → Document → Document → Type 0
ChangesAt ps old new = Stands (with_holes ps (without_holes old)) new

-- The places of an edit.

abbrev pub block_place : ℕ → Place
block_place b = place.Block (record { 0 = b })

-- those of these blocks, as of a large array
abbrev pub large_places : List ℕ → List Place
large_places changed = map block_place changed

-- those of a new block, and of a new chunk
abbrev pub at_new_block : Document → List Place
at_new_block d = block_place (unwrap_or (next_handle d) 0) ∷ []

abbrev pub at_new_chunk : Document → VmHandle → List Place
at_new_chunk d b = place.Chunk b (record { 0 = new_chunk_handle d b.0 }) ∷ []

-- the run of a raw block
abbrev pub raw_run : VmHandle → ℕ → ℕ → ℕ → List Place
raw_run b at before after = place.Run b (record { 0 = 0 }) at before after ∷ []

-- What an edit of an array changes that puts others, so many, in the place of the elements from one to another.

-- how many bytes elements have together
abbrev pub total_length : List (List ℕ) → ℕ
total_length elements = length (flat_map (λ x. x) elements)

-- how many bytes lie before the elements of an array, if it has so many of them
abbrev pub head_length : Array → ℕ → ℕ
head_length a count = array_start a + (if a.size == 0 then 2 * count else 0)

-- The bytes before the elements, where they change; and those of the elements, in the coordinates after that.
abbrev pub array_places : VmHandle → ChunkHandle → List ℕ → List ℕ → ℕ → ℕ → ℕ → List Place
array_places b c old new from to others =
    let a = array_in old in
    let before = total_length (take from a.elements) in
    let behind = total_length (drop to a.elements) in
    let head = head_length a (length a.elements) in
    let new_head = head_length a (from + others + length (drop to a.elements)) in
    let at = new_head + before in
    (if same_bytes (take head old) (take new_head new) then [] else place.Run b c 0 head new_head ∷ [])
    ++ place.Run b c at (length old - head - before - behind) (length new - at - behind) ∷ []

-- that of an edit of a document in which the chunk has become another
abbrev pub at_elements : Edit → Document → VmHandle → ChunkHandle → ℕ → ℕ → ℕ → List Place
at_elements e d b c from to others =
    array_places b c (chunk_at d b.0 c.0) (chunk_at (effect e d).0 b.0 c.0) from to others

-- Those of an edit that nothing refuses.
abbrev pub places_of : Edit → Document → List Place
places_of (edits.NewRaw uid size) d = at_new_block d
places_of (edits.NewHeap uid) d = at_new_block d
places_of (edits.FreeBlock b) d = place.Block b ∷ []
places_of (edits.CopyBlock b) d = at_new_block d
places_of (edits.WriteRaw b at bytes) d = raw_run b at (length bytes) (length bytes)
places_of (edits.SpliceRaw b at n bytes) d = raw_run b at n (length bytes)
places_of (edits.Attach b bytes) d = raw_run b 0 (length (raw_bytes_of d b.0)) (length bytes)
places_of (edits.SetUserId b uid) d = place.Attributes b ∷ []
places_of (edits.SetType b heap_type) d = place.Attributes b ∷ []
places_of (edits.SetMap b) d = place.MapBlock ∷ []
places_of (edits.Alloc b n) d = at_new_chunk d b
places_of (edits.Free b c) d = place.Chunk b c ∷ []
places_of (edits.Resize b c n) d =
    let old = length (chunk_at d b.0 c.0) in place.Run b c (min n old) (old - n) (n - old) ∷ []
places_of (edits.Insert b c at n) d = place.Run b c at 0 n ∷ []
places_of (edits.Delete b c at n) d = place.Run b c at n 0 ∷ []
places_of (edits.Write b c at bytes) d = place.Run b c at (length bytes) (length bytes) ∷ []
places_of (edits.Splice b c at n bytes) d = place.Run b c at n (length bytes) ∷ []
places_of (edits.CreateArray b size extra) d = at_new_chunk d b
places_of (edits.InsertElement b c i element) d = at_elements (edits.InsertElement b c i element) d b c i i 1
places_of (edits.SetElement b c i element) d = at_elements (edits.SetElement b c i element) d b c i (i + 1) 1
places_of (edits.ResizeElement b c i n) d = at_elements (edits.ResizeElement b c i n) d b c i (i + 1) 1
places_of (edits.DeleteElements b c i k) d = at_elements (edits.DeleteElements b c i k) d b c i (i + k) 0
places_of (edits.ZeroArray b c) d =
    at_elements (edits.ZeroArray b c) d b c 0 (length (array_in (chunk_at d b.0 c.0)).elements) 0
places_of (edits.CreateElementArray b size) d = at_new_chunk d b
places_of (edits.AddElement b c element) d =
    let t = token_added (chunk_at d b.0 c.0) element in at_elements (edits.AddElement b c element) d b c t (t + 1) 1
places_of (edits.AddReference b c t) d = at_elements (edits.AddReference b c t) d b c t.0 (t.0 + 1) 1
places_of (edits.RemoveReference b c t) d = at_elements (edits.RemoveReference b c t) d b c t.0 (t.0 + 1) 1
places_of (edits.DeleteElement b c t) d = at_elements (edits.DeleteElement b c t) d b c t.0 (t.0 + 1) 1
places_of (edits.ChangeElement b c t element) d = at_elements (edits.ChangeElement b c t element) d b c t.0 (t.0 + 1) 1
places_of (edits.CreateNameArray b part) d = at_new_chunk d b
places_of (edits.AddName b c text part replace) d =
    let t = name_token_added (chunk_at d b.0 c.0) text part replace in
    at_elements (edits.AddName b c text part replace) d b c t (t + 1) 1
places_of (edits.ChangeName b c t text) d = at_elements (edits.ChangeName b c t text) d b c t.0 (t.0 + 1) 1
places_of (edits.SetNamePart b c t part) d = at_elements (edits.SetNamePart b c t part) d b c t.0 (t.0 + 1) 1
places_of (edits.RemoveName b c t) d = at_elements (edits.RemoveName b c t) d b c t.0 (t.0 + 1) 1
places_of (edits.CopyChain b) d = map block_place (new_handles d (length (chain_blocks d b.0)))
places_of (edits.FreeChain b) d = map block_place (chain_blocks d b.0)
places_of (edits.CreateLarge uid size) d = large_places (created_blocks d)
places_of (edits.InsertLarge b i bytes) d = large_places (inserted_blocks d b.0 i.0 bytes)
places_of (edits.SetLarge b i bytes) d = large_places (set_blocks d b.0 i.0 bytes)
places_of (edits.DeleteLarge b i n) d = large_places (deleted_blocks d b.0 i.0 n.0)

-- The places of taking a step back: in the other order, and with the lengths exchanged.
abbrev pub inverse : Place → Place
inverse (place.Run b c at before after) = place.Run b c at after before
inverse p = p

abbrev pub taken_back : List Place → List Place
taken_back ps = reverse (map inverse ps)
