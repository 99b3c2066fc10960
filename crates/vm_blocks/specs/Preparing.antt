-- What making a change needs, and what it leaves. Half of what lets a change be made is known by handles, attributes
-- and the map block alone, over any store; the other half is what the body of a block has, which can be tested while
-- the block is in memory.
use Rattle.std.specs.Prelude.{◌≡◌, ◌≢◌, ◌⊎◌, ℕ, Bool, List, [], ◌∷◌, true, Result, Err, IsOk, IfErr, OnOk, OnErr}
use Rattle.std.specs.List.{All}
use Rattle.geos_model.specs.Document.{Document, block_at, is_live, handles_of}
use Rattle.geos_model.specs.ElementArray.{all_distinct}
use Rattle.geos_model.specs.declared.fault.Fault.{Fault}
use Rattle.geos_model.specs.declared.fault.Fault.TheVariants.{Damaged, CacheFull}
use Rattle.vm_store.specs.Facts.{StoreFacts}
use Rattle.document_file.specs.Disk.{SameUnlessCorrupt, KeepsCommitted}
use Rattle.vm_blocks.specs.State.{CacheState, ResidentBlock, locks_of, KeepsLocks}
use Rattle.vm_blocks.specs.Changes.{after_change, incoming_blocks, CanApply, AreFree, HasMap}
use Rattle.vm_blocks.specs.Keeping.{KeepsBlocks, IsHonest, IsEnvironmentFault, is_loaded, has_no_frame_for}
use Rattle.document_file.specs.Members.{imaged_blocks}
use Rattle.vm_blocks.specs.Parts.{AllowsPart}
use Rattle.vm_blocks.specs.declared.change.Change.{Change}
use Rattle.vm_blocks.specs.declared.change.Change.TheVariants as changes

-- these blocks are live, none of them is the map block, and no two of them are the same
pub record CanRemoveByHandle (d : Document) (hs : List ℕ) : Type 0 where
  pub live : All (λ h. is_live d h ≡ true) hs
  pub others : All (λ h. d.map_block ≢ h) hs
  pub distinct : all_distinct hs ≡ true

-- What is known by handles, attributes and the map block: blocks come in under free handles, those that go or change
-- are there.
abbrev pub CanApplyByHandle : Change → Document → Type 0
CanApplyByHandle (changes.BlocksIn ms) d = AreFree d (handles_of (imaged_blocks ms.list.items))
CanApplyByHandle (changes.BlocksOut ms) d = CanRemoveByHandle d (handles_of (imaged_blocks ms.list.items))
CanApplyByHandle (changes.Part b part) d = is_live d b.0 ≡ true
CanApplyByHandle (changes.Attributes b old new) d = is_live d b.0 ≡ true
CanApplyByHandle (changes.Map old new) d = HasMap d old.0 new.0

-- What is tested: the body takes the change of a part. No other change asks anything of a body.
abbrev pub AllowsChange : Change → Document → Type 0
AllowsChange (changes.BlocksIn ms) d = Unit {0}
AllowsChange (changes.BlocksOut ms) d = Unit {0}
AllowsChange (changes.Part b part) d = AllowsPart part (block_at d b.0).body
AllowsChange (changes.Attributes b old new) d = Unit {0}
AllowsChange (changes.Map old new) d = Unit {0}

-- the blocks that go, if any do, aren't locked
abbrev pub AreUnlocked : Change → List ResidentBlock → Type 0
AreUnlocked (changes.BlocksIn ms) residents = Unit {0}
AreUnlocked (changes.BlocksOut ms) residents =
    All (λ h. locks_of residents h ≡ 0) (handles_of (imaged_blocks ms.list.items))
AreUnlocked (changes.Part b part) residents = Unit {0}
AreUnlocked (changes.Attributes b old new) residents = Unit {0}
AreUnlocked (changes.Map old new) residents = Unit {0}

-- the block whose body changes can't be brought into memory, if there is one
abbrev pub IsShutOut : {S : Type 0} → Change → CacheState S → Type 0
IsShutOut (changes.BlocksIn ms) state = ⊥
IsShutOut (changes.BlocksOut ms) state = ⊥
IsShutOut (changes.Part b part) state = has_no_frame_for state b.0 ≡ true
IsShutOut (changes.Attributes b old new) state = ⊥
IsShutOut (changes.Map old new) state = ⊥

-- the block whose body changes is in memory, if there is one
abbrev pub IsInMemory : {S : Type 0} → Change → CacheState S → Type 0
IsInMemory (changes.BlocksIn ms) state = Unit {0}
IsInMemory (changes.BlocksOut ms) state = Unit {0}
IsInMemory (changes.Part b part) state = is_loaded state b.0 ≡ true
IsInMemory (changes.Attributes b old new) state = Unit {0}
IsInMemory (changes.Map old new) state = Unit {0}

-- It is known by handles, and its body, in memory, takes it: all but memory for blocks that come in.
pub record CanCarryOut {S : Type 0} (change : Change) (state : CacheState S) : Type 0 where
  pub listed : CanApplyByHandle change state.document
  pub takes : AllowsChange change state.document
  pub in_memory : IsInMemory change state

-- A change was made: nothing was committed, the document is the one that the change makes of the one before, as far as
-- the store gives back what it has, and each block is locked as often as before.
pub record IsApplied {S : Type 0} (facts : S → StoreFacts) (change : Change) (old new : CacheState S) : Type 0 where
  pub passes : KeepsCommitted facts old.disk new.disk
  pub document : SameUnlessCorrupt (facts old.disk.store).honest (after_change change old.document) new.document
  pub in_memory : IsInMemory change new
  pub frames : new.frames ≡ old.frames
  pub locks : KeepsLocks old.resident new.resident

-- Why a change isn't made: what bringing a block into memory, or blocks into the document, may be refused for; or the
-- body doesn't take it, as it didn't before, if the store gives back what it has; or the block is shut out.
abbrev pub CantPrepare : {S : Type 0} → (S → StoreFacts) → Change → CacheState S → CacheState S → Fault → Type 0
CantPrepare facts change old new fault =
    IsEnvironmentFault facts old.disk.store new.disk.store fault
    ⊎ (((fault ≡ Damaged) × (IsHonest facts old.disk.store → AllowsChange change old.document → ⊥))
    ⊎ ((fault ≡ CacheFull) × IsShutOut change old))

-- What a call leaves that makes a change or is refused. It is sure where no block comes in, and the one that changes is
-- in memory and takes it: then the store isn't called, and over any store the document is the one that the change
-- makes.
pub record AppliesChange {S : Type 0} (facts : S → StoreFacts) (change : Change) (old new : CacheState S)
    (result : Result (Unit {0}) Fault) : Type 0 where
  pub ok : OnOk result (IsApplied facts change old new)
  pub err : OnErr result (KeepsBlocks facts old new)
  pub refusals : IfErr result (CantPrepare facts change old new)
  pub sure : incoming_blocks change ≡ [] → IsInMemory change old → AllowsChange change old.document
      → IsOk result × (new.disk ≡ old.disk) × (new.document ≡ after_change change old.document)
  pub shut : IsShutOut change old → (result ≡ Err CacheFull) × (new ≡ old)

-- A change that applies is one of the first kind, and its body takes it.
abbrev pub HalvesLaw : Type 0
HalvesLaw = (c : Change) (d : Document) → CanApply c d → CanApplyByHandle c d × AllowsChange c d

-- what changes make of a document, one after another
abbrev pub after_changes : List Change → Document → Document
after_changes [] d = d
after_changes (c ∷ cs) d = after_changes cs (after_change c d)

-- each of them is known by handles alone, one after another
abbrev pub CanApplyAllByHandle : List Change → Document → Type 0
CanApplyAllByHandle [] d = Unit {0}
CanApplyAllByHandle (c ∷ cs) d = CanApplyByHandle c d × CanApplyAllByHandle cs (after_change c d)

-- What is known by handles alone stays known in a document that drifts from the first, over any store.
abbrev pub ByHandleLaw : Type 0
ByHandleLaw =
    (honest : Bool) (cs : List Change) (old new : Document) → SameUnlessCorrupt honest old new
    → CanApplyAllByHandle cs old → CanApplyAllByHandle cs new

-- each can be made, one after another
abbrev pub CanApplyAll : List Change → Document → Type 0
CanApplyAll [] d = Unit {0}
CanApplyAll (c ∷ cs) d = CanApply c d × CanApplyAll cs (after_change c d)

-- none of them brings blocks in
abbrev pub NoneComesIn : List Change → Type 0
NoneComesIn [] = Unit {0}
NoneComesIn (c ∷ cs) = (incoming_blocks c ≡ []) × NoneComesIn cs

-- each block whose body one of them changes is in memory
abbrev pub AreInMemory : {S : Type 0} → List Change → CacheState S → Type 0
AreInMemory [] state = Unit {0}
AreInMemory (c ∷ cs) state = IsInMemory c state × AreInMemory cs state

-- the body of each takes it, one after another
abbrev pub AllowAll : List Change → Document → Type 0
AllowAll [] d = Unit {0}
AllowAll (c ∷ cs) d = AllowsChange c d × AllowAll cs (after_change c d)

-- Changes were made one after another: nothing was committed, and the document is the one that they make of the one
-- before, as far as the store gives back what it has.
pub record AreApplied {S : Type 0} (facts : S → StoreFacts) (changes : List Change) (old new : CacheState S)
    : Type 0 where
  pub passes : KeepsCommitted facts old.disk new.disk
  pub document : SameUnlessCorrupt (facts old.disk.store).honest (after_changes changes old.document) new.document
  pub frames : new.frames ≡ old.frames
  pub locks : KeepsLocks old.resident new.resident

-- Why they aren't made: what bringing a block into memory, or blocks into the file, may be refused for; or a body
-- doesn't take one, as it didn't before, if the store gives back what it has.
abbrev pub CantPrepareAll : {S : Type 0} → (S → StoreFacts) → List Change → CacheState S → CacheState S → Fault → Type 0
CantPrepareAll facts changes old new fault =
    IsEnvironmentFault facts old.disk.store new.disk.store fault
    ⊎ ((fault ≡ Damaged) × (IsHonest facts old.disk.store → AllowAll changes old.document → ⊥))
