-- What the image of a body says of the body.
use Rattle.std.proofs.Common.{◌≡◌, ℕ, ◌≤◌, true, List, ◌∷◌, ◌++◌, length, sym, ap, ◌∙◌, arith, append_assoc, flat_map}
use Rattle.std.specs.FinMap.{keys, values}
use Rattle.geos_model.specs.Document.{is_valid_body}
use Rattle.geos_model.specs.Heap.{ChunkMap, is_heap_map, need, table_len}
use Rattle.geos_model.specs.Image.{handles_to, image, size_word}
use Rattle.geos_model.specs.Words.{word, word_at}
use Rattle.geos_model.specs.declared.command.Body.{Body}
use Rattle.geos_model.specs.declared.command.Body.TheVariants.{Raw, Heap}
use Rattle.geos_model.proofs.HeapTables.{need_le}
use Rattle.geos_model.proofs.Images.{image-injective_body, word-reads_back}

-- the table has no more entries than fill the heap
pub table_len_le : (m : ChunkMap) → is_heap_map m ≡ true → table_len (keys m) ≤ 32752
unfolding need
table_len_le m heap =
    let room = need_le m heap in
    omega (arith, room)

-- the length of the table stands in an image
pub image-table_len : (m : ChunkMap) → is_heap_map m ≡ true → word_at (image (Heap m)) 1 ≡ table_len (keys m)
unfolding image
image-table_len m heap =
    let t = table_len (keys m) in
    let sizes = flat_map (size_word m) (handles_to t) in
    let chunks = flat_map (λ (bytes : List ℕ). bytes) (values m) in
    ap (λ (l : List ℕ). word_at (1 ∷ l) 1) (append_assoc (word t) sizes chunks) ∙ word-reads_back t (sizes ++ chunks) (omega (arith, table_len_le m heap))

pub length_image-heap : (m : ChunkMap) → 3 ≤ length (image (Heap m))
unfolding image
length_image-heap m = omega arith

-- no image is empty
pub image-not_empty : (body : Body) → 1 ≤ length (image body)
unfolding image
image-not_empty (Raw xs) = omega arith
image-not_empty (Heap m) = let long = length_image-heap m in omega (arith, long)

-- that of a heap is of no other body
pub heap_image : (body : Body) (m : ChunkMap) (bytes : List ℕ) → is_valid_body body ≡ true → is_heap_map m ≡ true → image body ≡ bytes → image (Heap m) ≡ bytes
    → body ≡ Heap m
heap_image body m bytes valid heap same other = image-injective_body body (Heap m) valid heap (same ∙ sym other)
