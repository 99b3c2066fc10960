-- Where edits of large arrays change a document.
use Rattle.std.specs.Prelude.{◌≡◌, ℕ, List, true, None}
use Rattle.geos_model.specs.Refusal.{first_refusal}
use Rattle.geos_model.specs.ElementArray.{all_distinct}
use Rattle.geos_model.specs.Document.{Document}
use Rattle.geos_model.specs.Places.{ChangesAt, large_places}
use Rattle.geos_model.specs.ChangedBlocks.{created_blocks, inserted_blocks, set_blocks, deleted_blocks}
use Rattle.geos_model.specs.LargeEdits.{large_created, large_inserted, large_set, large_deleted, create_large_conditions, insert_large_conditions, set_large_conditions, delete_large_conditions}

-- The document changes in these blocks, each told once, and nowhere else.
pub record ChangesBlocks (changed : List ℕ) (old new : Document) : Type 0 where
  pub places : ChangesAt (large_places changed) old new
  pub once : all_distinct changed ≡ true

pub record LargePlacesLaw : Type 0 where
  pub create : (d : Document) (uid size : ℕ) → first_refusal (create_large_conditions d size) ≡ None
      → ChangesBlocks (created_blocks d) d (large_created d uid size)
  pub insert : (d : Document) (b i : ℕ) (bytes : List ℕ) → first_refusal (insert_large_conditions d b i bytes) ≡ None
      → ChangesBlocks (inserted_blocks d b i bytes) d (large_inserted d b i bytes)
  pub set : (d : Document) (b i : ℕ) (bytes : List ℕ) → first_refusal (set_large_conditions d b i bytes) ≡ None
      → ChangesBlocks (set_blocks d b i bytes) d (large_set d b i bytes)
  pub delete : (d : Document) (b i n : ℕ) → first_refusal (delete_large_conditions d b i n) ≡ None
      → ChangesBlocks (deleted_blocks d b i n) d (large_deleted d b i n)
