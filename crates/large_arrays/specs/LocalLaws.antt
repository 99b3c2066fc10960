-- Branches that an edit doesn't look at play no part in it.
use Rattle.std.specs.Prelude.{◌≡◌, ◌<◌, ◌≤◌, ◌+◌, ℕ, List, [], length}
use Rattle.std.specs.List.{Contains}
use Rattle.geos_model.specs.Document.{Document, is_live, is_raw, raw_bytes_of}
use Rattle.geos_model.specs.Pieces.{BranchPiece}
use Rattle.geos_model.specs.LargeLayout.{total_count}
use Rattle.geos_model.specs.LargeBlocks.{root_at}
use Rattle.geos_model.specs.LargeWindow.{window}
use Rattle.geos_model.specs.LargeEdits.{cut_elements, run_places, insert_large_conditions, set_large_conditions, delete_large_conditions}
use Rattle.geos_model.specs.LargeBlocks.{handles_at}
use Rattle.geos_model.specs.LargeDocumentLaws.{replacing_looks, set_looks}
use Rattle.large_arrays.specs.WrittenPieces.{written_pieces}

-- In two documents the same handles are live, the map block is the same, and the same root is under a handle; and the
-- blocks of its branches at these places are raw in both or in neither, with the same bytes.
pub record AreAlike (d e : Document) (b : ℕ) (ks : List ℕ) : Type 0 where
  pub live : (h : ℕ) → is_live e h ≡ is_live d h
  pub map_block : e.map_block ≡ d.map_block
  pub root_raw : is_raw e b ≡ is_raw d b
  pub root : raw_bytes_of e b ≡ raw_bytes_of d b
  pub raw : (h : ℕ) → Contains (handles_at (root_at d b) ks) h → is_raw e h ≡ is_raw d h
  pub bytes : (h : ℕ) → Contains (handles_at (root_at d b) ks) h → raw_bytes_of e h ≡ raw_bytes_of d h

-- Where two documents are alike in what an edit looks at, it replaces the same blocks by the same, with the same
-- pieces, or writes over elements to the same pieces; and the same refuses it.
pub record LocalLaw : Type 0 where
  pub window : (d e : Document) (b i j : ℕ) (new : BranchPiece) → i ≤ j → AreAlike d e b (replacing_looks d b i j new)
      → window e b i j new ≡ window d b i j new
  pub written : (d e : Document) (b i : ℕ) (new : BranchPiece) → 0 < length new
      → i + length new ≤ total_count (root_at d b) → AreAlike d e b (run_places (root_at d b) i (length new))
      → written_pieces e b i new ≡ written_pieces d b i new
  pub insert : (d e : Document) (b i : ℕ) (bytes : List ℕ)
      → AreAlike d e b (replacing_looks d b i i (cut_elements (root_at d b).size bytes))
      → insert_large_conditions e b i bytes ≡ insert_large_conditions d b i bytes
  pub set : (d e : Document) (b i : ℕ) (bytes : List ℕ) → AreAlike d e b (set_looks d b i bytes)
      → set_large_conditions e b i bytes ≡ set_large_conditions d b i bytes
  pub delete : (d e : Document) (b i n : ℕ) → AreAlike d e b (replacing_looks d b i (i + n) [])
      → delete_large_conditions e b i n ≡ delete_large_conditions d b i n
