-- Which bytes are the image of a heap.
use Rattle.std.specs.Prelude.{◌≡◌, ◌≤◌, ℕ, true, List, ◌∷◌, ◌++◌, drop}
use Rattle.geos_model.specs.Heap.{ChunkMap, is_heap_map}
use Rattle.geos_model.specs.Image.{image}
use Rattle.geos_model.specs.Words.{word}
use Rattle.geos_model.specs.declared.command.Body.TheVariants as bodies
use Rattle.geos_model.proofs.Table.{IsTrimmed}
use Rattle.heap_images.specs.Packed.{IsPackedTable, slots_in}
use Rattle.heap_images.specs.Slots.{need_in}

-- the image of a heap that fits
unfoldable pub IsHeapImage : List ℕ → Type 0
IsHeapImage bytes = (m : ChunkMap) × (is_heap_map m ≡ true) × (image (bodies.Heap m) ≡ bytes)

-- the same, by the table of n slots that the image holds
pub record HasHeapTable (n : ℕ) (bytes : List ℕ) : Type 0 where
  pub begins : bytes ≡ 1 ∷ word n ++ drop 3 bytes
  pub table : IsPackedTable n (drop 3 bytes)
  pub trimmed : IsTrimmed (slots_in n (drop 3 bytes))
  pub fits : need_in (slots_in n (drop 3 bytes)) ≤ 65520
