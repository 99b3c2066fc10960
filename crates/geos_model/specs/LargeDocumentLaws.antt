-- What edits of large arrays do to any document, also where branches are damaged that they don't look at.
use Rattle.std.specs.Prelude.{◌≡◌, ◌<◌, ◌+◌, ◌==◌, ◌∷◌, ℕ, List, [], true, if◌then◌else◌, None}
use Rattle.std.specs.List.{Contains}
use Rattle.std.specs.FinMap.{get}
use Rattle.geos_model.specs.Refusal.{first_refusal}
use Rattle.geos_model.specs.Document.{Document, IsValid, is_live}
use Rattle.geos_model.specs.Places.{attributes_under}
use Rattle.geos_model.specs.Pieces.{BranchPiece}
use Rattle.geos_model.specs.LargeBlocks.{root_at, pieces_at, handles_at}
use Rattle.geos_model.specs.LargeWindow.{looked_at}
use Rattle.geos_model.specs.LargeEdits.{cut_elements, element_count, run_places, large_created, large_inserted, large_set, large_deleted, create_large_conditions, insert_large_conditions, set_large_conditions, delete_large_conditions}

-- What nothing refuses leaves a valid document valid; an array is made with a word as its user ID.
pub record LargeValidityLaw : Type 0 where
  pub create : (d : Document) (uid size : ℕ) → IsValid d → uid < 65536
      → first_refusal (create_large_conditions d size) ≡ None → IsValid (large_created d uid size)
  pub insert : (d : Document) (b i : ℕ) (bytes : List ℕ) → IsValid d
      → first_refusal (insert_large_conditions d b i bytes) ≡ None → IsValid (large_inserted d b i bytes)
  pub set : (d : Document) (b i : ℕ) (bytes : List ℕ) → IsValid d
      → first_refusal (set_large_conditions d b i bytes) ≡ None → IsValid (large_set d b i bytes)
  pub delete : (d : Document) (b i n : ℕ) → IsValid d
      → first_refusal (delete_large_conditions d b i n) ≡ None → IsValid (large_deleted d b i n)

-- All blocks that there are stay as they are, but these; and which is the map block.
pub record StaysBeside (old new : Document) (changed : List ℕ) : Type 0 where
  pub map_block : new.map_block ≡ old.map_block
  pub blocks : (h : ℕ) → is_live old h ≡ true → (Contains changed h → ⊥) → get new.blocks h ≡ get old.blocks h

-- Only the root changes, and of its branches those at these places. The root keeps its attributes.
pub record ChangesArray (old new : Document) (b : ℕ) (ks : List ℕ) : Type 0 where
  pub stays : StaysBeside old new (b ∷ handles_at (root_at old b) ks)
  pub attributes : attributes_under new b ≡ attributes_under old b

-- the branches that an edit looks at: of others in the place of elements, and of a set
abbrev pub replacing_looks : Document → ℕ → ℕ → ℕ → BranchPiece → List ℕ
replacing_looks d b i j new = let r = root_at d b in looked_at r.size (pieces_at d r) i j new

abbrev pub set_looks : Document → ℕ → ℕ → List ℕ → List ℕ
set_looks d b i bytes =
    let r = root_at d b in
    if r.size == 0 then replacing_looks d b i (i + 1) (bytes ∷ []) else run_places r i (element_count r.size bytes)

-- What nothing refuses changes no block that there is but the root and branches that it looks at.
pub record LargeStaysLaw : Type 0 where
  pub create : (d : Document) (uid size : ℕ) → first_refusal (create_large_conditions d size) ≡ None
      → StaysBeside d (large_created d uid size) []
  pub insert : (d : Document) (b i : ℕ) (bytes : List ℕ) → first_refusal (insert_large_conditions d b i bytes) ≡ None
      → ChangesArray d (large_inserted d b i bytes) b (replacing_looks d b i i (cut_elements (root_at d b).size bytes))
  pub set : (d : Document) (b i : ℕ) (bytes : List ℕ) → first_refusal (set_large_conditions d b i bytes) ≡ None
      → ChangesArray d (large_set d b i bytes) b (set_looks d b i bytes)
  pub delete : (d : Document) (b i n : ℕ) → first_refusal (delete_large_conditions d b i n) ≡ None
      → ChangesArray d (large_deleted d b i n) b (replacing_looks d b i (i + n) [])
