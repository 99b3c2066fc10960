-- Blocks that changes bring in, which are put in before all else that is done in memory.
use Rattle.std.specs.Prelude.{◌≡◌, ◌≢◌, ℕ, List, [], ◌∷◌, false}
use Rattle.std.specs.List.{All}
use Rattle.geos_model.specs.Document.{Block, Document, handles_of, is_live, with_block, with_blocks, without_blocks}
use Rattle.vm_store.specs.Facts.{StoreFacts}
use Rattle.chunk_edits.specs.Directions.{opposite}
use Rattle.chunk_edits.specs.declared.direction.Direction.{Direction}
use Rattle.document_file.specs.Disk.{SameUnlessCorrupt, KeepsCommitted}
use Rattle.vm_blocks.specs.State.{CacheState, KeepsLocks}
use Rattle.vm_blocks.specs.Changes.{directed, directed_all, incoming_blocks, AreFree}
use Rattle.vm_blocks.specs.InMemory.{outgoing}
use Rattle.vm_blocks.specs.Keeping.{IsEnvironmentFault}
use Rattle.vm_blocks.specs.Preparing.{CanRemoveByHandle}
use Rattle.vm_blocks.specs.declared.change.Change.{Change}
use Rattle.vm_blocks.specs.declared.change.Change.TheVariants as changes
use Rattle.vm_blocks.specs.declared.in_memory.Obstacle.{Obstacle}
use Rattle.vm_blocks.specs.declared.in_memory.Obstacle.TheVariants as obstacles

-- why changes aren't carried out in memory: what bringing a block there, or into the file, may be refused for, or no
-- fault at all
abbrev pub IsObstacle : {S : Type 0} → (S → StoreFacts) → S → S → Obstacle → Type 0
IsObstacle facts old new (obstacles.Fault fault) = IsEnvironmentFault facts old new fault
IsObstacle facts old new obstacles.NotInMemory = Unit {0}

-- the changes without those that bring blocks in
abbrev pub with_other : Change → List Change → List Change
with_other (changes.BlocksIn ms) cs = cs
with_other (changes.BlocksOut ms) cs = changes.BlocksOut ms ∷ cs
with_other (changes.Part b part) cs = changes.Part b part ∷ cs
with_other (changes.Attributes b old new) cs = changes.Attributes b old new ∷ cs
with_other (changes.Map old new) cs = changes.Map old new ∷ cs

abbrev pub others : List Change → List Change
others [] = []
others (c ∷ cs) = with_other c (others cs)

-- a document with the blocks that changes bring in
abbrev pub with_incoming : List Change → Document → Document
with_incoming [] d = d
with_incoming (c ∷ cs) d = with_incoming cs (with_blocks d (incoming_blocks c))

-- blocks come in one after another, each under a handle that isn't live by then
abbrev pub CanComeIn : List (ℕ × Block) → Document → Type 0
CanComeIn [] d = Unit {0}
CanComeIn (p ∷ ps) d = (is_live d p.0 ≡ false) × CanComeIn ps (with_block d p.0 p.1)

-- so do those of changes, while none goes
abbrev pub CanAllComeIn : List Change → Document → Type 0
CanAllComeIn [] d = Unit {0}
CanAllComeIn (c ∷ cs) d = CanComeIn (incoming_blocks c) d × CanAllComeIn cs (with_blocks d (incoming_blocks c))

-- What changes brought in in a direction can be taken out again, what the first of them brought in first, and the
-- document without it.

abbrev pub brought : Direction → Change → List ℕ
brought direction c = outgoing (directed (opposite direction) c)

abbrev pub CanGoAgain : Direction → List Change → Document → Type 0
CanGoAgain direction [] d = Unit {0}
CanGoAgain direction (c ∷ cs) d =
    CanRemoveByHandle d (brought direction c) × CanGoAgain direction cs (without_blocks d (brought direction c))

abbrev pub without_again : Direction → List Change → Document → Document
without_again direction [] d = d
without_again direction (c ∷ cs) d = without_again direction cs (without_blocks d (brought direction c))

-- Blocks were put in: nothing was committed, and they can be taken out again.
pub record IsBroughtIn {S : Type 0} (facts : S → StoreFacts) (ps : List (ℕ × Block)) (old new : CacheState S)
    : Type 0 where
  pub passes : KeepsCommitted facts old.disk new.disk
  pub free : AreFree old.document (handles_of ps)
  pub map_block : All (λ h. old.document.map_block ≢ h) (handles_of ps)
  pub document : SameUnlessCorrupt (facts old.disk.store).honest (with_blocks old.document ps) new.document
  pub frames : new.frames ≡ old.frames
  pub locks : KeepsLocks old.resident new.resident

-- Nothing was committed, and without what these changes brought in the document is the one from before.
pub record LeadsBack {S : Type 0} (facts : S → StoreFacts) (direction : Direction) (cs : List Change)
    (old new : CacheState S) : Type 0 where
  pub passes : KeepsCommitted facts old.disk new.disk
  pub leave : CanGoAgain direction cs new.document
  pub document : SameUnlessCorrupt (facts old.disk.store).honest old.document
      (without_again direction cs new.document)
  pub frames : new.frames ≡ old.frames
  pub locks : KeepsLocks old.resident new.resident

-- All blocks were put in that changes bring in in a direction.
pub record AreBroughtIn {S : Type 0} (facts : S → StoreFacts) (direction : Direction) (cs : List Change)
    (old new : CacheState S) : Type 0 where
  pub free : CanAllComeIn (directed_all direction cs) old.document
  pub document : SameUnlessCorrupt (facts old.disk.store).honest
      (with_incoming (directed_all direction cs) old.document) new.document
  pub back : LeadsBack facts direction cs old new
