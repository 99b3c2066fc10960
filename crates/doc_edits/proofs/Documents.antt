-- The body that is found in a document.
use Rattle.std.proofs.Common.{◌≡◌, ℕ, true, false, Option, Some, None, is_some, refl, sym, ap, ◌∙◌}
use Rattle.std.specs.Option.{option_map, option_map_or}
use Rattle.std.specs.FinMap.{get}
use Rattle.geos_model.specs.Heap.{ChunkMap}
use Rattle.geos_model.specs.Document.{Block, Document, chunks_of, attributes_of, is_heap, is_heap_body, is_live}
use Rattle.geos_model.specs.declared.command.Body.{Body}
use Rattle.geos_model.specs.declared.command.Body.TheVariants.{Heap}
use Rattle.doc_edits.specs.Found.{IsBodyAt, IsHeapAt}

-- a heap is live
pub heap_live : (d : Document) (h : ℕ) → is_heap d h ≡ true → is_live d h ≡ true
heap_live d h heap = by_block (get d.blocks h) heap
  where
    by_block : (o : Option Block) → option_map_or (λ (b : Block). is_heap_body b.body) o false ≡ true → is_some o ≡ true
    by_block None heap = absurd (cc heap)
    by_block (Some b) heap = refl

pub body_at : (d : Document) (h : ℕ) (body : Body) → option_map (λ (b : Block). b.body) (get d.blocks h) ≡ Some body → IsBodyAt d h body
body_at d h body is = by_block (get d.blocks h) refl is
  where
    by_block : (o : Option Block) → get d.blocks h ≡ o → option_map (λ (b : Block). b.body) o ≡ Some body → IsBodyAt d h body
    by_block None live e = absurd (cc e)
    by_block (Some b) live e = rw live (let same : b.body ≡ body = cc e in ap (λ (x : Body). Some (record { attributes = b.attributes; body = x })) same)

module _ (d : Document) (h : ℕ) (m : ChunkMap) (live : IsHeapAt d h m) where
  pub chunks_are : chunks_of d h ≡ m
  chunks_are = rw live refl

  pub heap_there : is_heap d h ≡ true
  heap_there = rw live refl

  pub heap_here : IsHeapAt d h (chunks_of d h)
  heap_here = live ∙ ap (λ (x : ChunkMap). Some (record { attributes = attributes_of d h; body = Heap x })) (sym chunks_are)
