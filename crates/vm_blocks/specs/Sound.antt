-- What always holds of the blocks of a file.
use Rattle.std.specs.Prelude.{◌≤◌, ℕ, IsTrue, List}
use Rattle.geos_model.specs.Document.{IsValid}
use Rattle.vm_store.specs.Facts.{StoreFacts}
use Rattle.document_file.specs.Disk.{FileState}
use Rattle.vm_blocks.specs.Frames.{AreFramesOf, shown}
use Rattle.vm_blocks.specs.State.{CacheState}
use Rattle.vm_blocks.specs.declared.frame.Frame.{Frame}

-- Over an honest store the document is valid, and there is a frame.
pub record IsValidState {S : Type 0} (facts : S → StoreFacts) (state : CacheState S) : Type 0 where
  pub valid : IsTrue (facts state.disk.store).honest → IsValid state.document
  pub room : 1 ≤ state.frames

-- The frames are of blocks of the file, and what callers see of both is valid.
pub record AreBlocksOf {S : Type 0} (facts : S → StoreFacts) (file : FileState S) (es : List (ℕ × Frame)) (cap : ℕ)
    : Type 0 where
  pub kept : AreFramesOf (facts file.disk.store).honest file.document es
  pub state : IsValidState facts (shown file es cap)
