-- Blocks of large arrays in memory, and why one isn't brought there.
use Rattle.std.specs.Prelude.{◌≡◌, ◌⊎◌, ℕ, Option, None, Some, true, if◌then◌else◌}
use Rattle.geos_model.specs.Document.{Document, is_raw, raw_bytes_of}
use Rattle.geos_model.specs.declared.fault.Fault.{Fault}
use Rattle.geos_model.specs.declared.fault.Fault.TheVariants.{NotArray}
use Rattle.vm_blocks.specs.State.{CacheState}
use Rattle.vm_blocks.specs.Keeping.{is_loaded}
use Rattle.vm_blocks.specs.Kinds.{IsWrongBlock}
use Rattle.geos_model.specs.Pieces.{BranchPiece}
use Rattle.geos_model.specs.LargeLayout.{root_of, branch_of}
use Rattle.geos_model.specs.LargeBlocks.{root_at}

-- A raw block is in memory.
pub record IsRawLoaded {S : Type 0} (s : CacheState S) (h : ℕ) : Type 0 where
  pub loaded : is_loaded s h ≡ true
  pub raw : is_raw s.document h ≡ true

-- The root of a large array is.
pub record IsRootLoaded {S : Type 0} (s : CacheState S) (b : ℕ) : Type 0 where
  pub loaded : is_loaded s b ≡ true
  pub raw : is_raw s.document b ≡ true
  pub root : root_of (raw_bytes_of s.document b) ≡ Some (root_at s.document b)

-- the elements of the branch under a handle, if its block has so many of this size
abbrev pub branch_under : Document → ℕ → ℕ → ℕ → Option BranchPiece
branch_under d h size count = if is_raw d h then branch_of size count (raw_bytes_of d h) else None

-- why a root isn't brought in, over any store: its handle, or its bytes
abbrev pub IsRootRefusal : (Fault → Type 0) → Document → ℕ → Fault → Type 0
IsRootRefusal lacks d b fault = lacks fault ⊎ (IsWrongBlock is_raw d b fault ⊎ (fault ≡ NotArray))
