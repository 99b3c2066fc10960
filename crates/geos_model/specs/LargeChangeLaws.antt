-- How many branches an edit changes.
use Rattle.std.specs.Prelude.{◌≡◌, ◌≢◌, ◌≤◌, ℕ, List, true, length, None}
use Rattle.std.specs.List.{Contains}
use Rattle.geos_model.specs.ElementArray.{all_distinct}
use Rattle.geos_model.specs.Refusal.{first_refusal}
use Rattle.geos_model.specs.Document.{Document, IsValid, raw_bytes_of}
use Rattle.geos_model.specs.Pieces.{BranchPiece}
use Rattle.geos_model.specs.LargeBlocks.{root_at, IsLargeArray}
use Rattle.geos_model.specs.LargeEdits.{large_inserted, large_set, large_deleted, insert_large_conditions, set_large_conditions, delete_large_conditions}

-- A branch that the array has before and after it, with other bytes.
pub record HasOtherBytes (old new : Document) (b h : ℕ) : Type 0 where
  pub was : Contains (root_at old b).branches h
  pub stays : Contains (root_at new b).branches h
  pub other : raw_bytes_of new h ≢ raw_bytes_of old h

-- there are three such at most
abbrev pub FewChange : Document → Document → ℕ → Type 0
FewChange old new b =
    (hs : List ℕ) → all_distinct hs ≡ true → ((h : ℕ) → Contains hs h → HasOtherBytes old new b h) → length hs ≤ 3

-- An insertion, a deletion, and an element that is set where sizes vary.
pub record FewChangeLaw : Type 0 where
  pub insert : (d : Document) (b size : ℕ) (elements : BranchPiece) (i : ℕ) (bytes : List ℕ) → IsValid d
      → IsLargeArray d b size elements → first_refusal (insert_large_conditions d b i bytes) ≡ None
      → FewChange d (large_inserted d b i bytes) b
  pub set : (d : Document) (b : ℕ) (elements : BranchPiece) (i : ℕ) (bytes : List ℕ) → IsValid d
      → IsLargeArray d b 0 elements → first_refusal (set_large_conditions d b i bytes) ≡ None
      → FewChange d (large_set d b i bytes) b
  pub delete : (d : Document) (b size : ℕ) (elements : BranchPiece) (i n : ℕ) → IsValid d
      → IsLargeArray d b size elements → first_refusal (delete_large_conditions d b i n) ≡ None
      → FewChange d (large_deleted d b i n) b
