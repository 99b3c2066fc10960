-- What edits of large arrays come to.
use Rattle.std.specs.Prelude.{◌≡◌, ◌<◌, ◌+◌, ℕ, List, [], true, false, get_or, None}
use Rattle.std.specs.List.{Contains, splice}
use Rattle.std.specs.FinMap.{get}
use Rattle.geos_model.specs.Refusal.{Conditions, first_refusal}
use Rattle.geos_model.specs.Document.{Document, IsValid, is_live, attributes_of}
use Rattle.geos_model.specs.Chain.{chain_blocks, new_handles}
use Rattle.geos_model.specs.Pieces.{BranchPiece, are_spread}
use Rattle.geos_model.specs.LargeBlocks.{root_at, pieces_at, IsLargeArray}
use Rattle.geos_model.specs.LargeEdits.{cut_elements, element_count, large_created, large_inserted, large_set, large_deleted, create_large_conditions, insert_large_conditions, set_large_conditions, delete_large_conditions}

-- A valid document in which the blocks from a root on are this array. Blocks that weren't of the array stay as they
-- are, one that comes is of it, and one that is of it no longer is gone. The root keeps its user ID, and elements that
-- were well spread still are.
pub record IsEdited (old new : Document) (b size : ℕ) (elements : BranchPiece) : Type 0 where
  pub valid : IsValid new
  pub array : IsLargeArray new b size elements
  pub stays : (h : ℕ) → is_live old h ≡ true → (Contains (chain_blocks old b) h → ⊥)
      → get new.blocks h ≡ get old.blocks h
  pub comes : (h : ℕ) → is_live old h ≡ false → is_live new h ≡ true → Contains (chain_blocks new b) h
  pub goes : (h : ℕ) → Contains (chain_blocks old b) h → (Contains (chain_blocks new b) h → ⊥)
      → is_live new h ≡ false
  pub map_block : new.map_block ≡ old.map_block
  pub attributes : attributes_of new b ≡ attributes_of old b
  pub spread : are_spread size (pieces_at old (root_at old b)) ≡ true
      → are_spread size (pieces_at new (root_at new b)) ≡ true

-- A valid document in which an array without elements begins under a handle, with this user ID. Its blocks are new, and
-- all others are as they were.
pub record IsCreated (old new : Document) (b uid size : ℕ) : Type 0 where
  pub valid : IsValid new
  pub array : IsLargeArray new b size []
  pub fresh : (h : ℕ) → Contains (chain_blocks new b) h → is_live old h ≡ false
  pub others : (h : ℕ) → (Contains (chain_blocks new b) h → ⊥) → get new.blocks h ≡ get old.blocks h
  pub map_block : new.map_block ≡ old.map_block
  pub attributes : attributes_of new b ≡ record { user_id = uid; heap_type = 0 }
  pub spread : are_spread size (pieces_at new (root_at new b)) ≡ true

-- What an edit comes to where nothing refuses it.
abbrev pub Edits : Conditions → Document → ℕ → ℕ → Document → BranchPiece → Type 0
Edits own old b size new elements = first_refusal own ≡ None → IsEdited old new b size elements

-- An array is made without elements, its user ID being a word. Each edit of an array is the list's edit.
pub record LargeEditsLaw : Type 0 where
  pub create : (d : Document) (uid size : ℕ) → IsValid d → uid < 65536
      → first_refusal (create_large_conditions d size) ≡ None
      → IsCreated d (large_created d uid size) (get_or (new_handles d 2) 0 0) uid size
  pub insert : (d : Document) (b size : ℕ) (elements : BranchPiece) (i : ℕ) (bytes : List ℕ) → IsValid d
      → IsLargeArray d b size elements
      → Edits (insert_large_conditions d b i bytes) d b size (large_inserted d b i bytes)
      (splice elements i i (cut_elements size bytes))
  pub set : (d : Document) (b size : ℕ) (elements : BranchPiece) (i : ℕ) (bytes : List ℕ) → IsValid d
      → IsLargeArray d b size elements
      → Edits (set_large_conditions d b i bytes) d b size (large_set d b i bytes)
      (splice elements i (i + element_count size bytes) (cut_elements size bytes))
  pub delete : (d : Document) (b size : ℕ) (elements : BranchPiece) (i n : ℕ) → IsValid d
      → IsLargeArray d b size elements
      → Edits (delete_large_conditions d b i n) d b size (large_deleted d b i n) (splice elements i (i + n) [])
