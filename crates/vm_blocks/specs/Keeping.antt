-- What a call leaves that may bring blocks into memory, and why one may be refused. Crates above know these words by
-- their laws alone.
use Rattle.std.specs.Prelude.{◌≡◌, ◌⊎◌, ◌&&◌, ◌==◌, ℕ, Bool, true, IsTrue}
use Rattle.vm_store.specs.Facts.{StoreFacts, FailedSince}
use Rattle.geos_model.specs.Document.{is_live}
use Rattle.geos_model.specs.declared.fault.Fault.{Fault}
use Rattle.geos_model.specs.declared.fault.Fault.TheVariants.{File, Memory, CacheFull}
use Rattle.document_file.specs.Effects.{IsDamage}
use Rattle.vm_blocks.specs.State.{CacheState, is_resident, locks_of, all_frames_locked, KeepsLocks, KeepsDocument}

-- nothing is committed, the document stays, as far as the store gives back what it has, and each block is locked as
-- often as before
unfoldable pub KeepsBlocks : {S : Type 0} → (S → StoreFacts) → CacheState S → CacheState S → Type 0
KeepsBlocks facts old new = KeepsDocument facts old new × KeepsLocks old.resident new.resident

-- the store is honest, so that a document stays whatever is brought into memory
unfoldable pub IsHonest : {S : Type 0} → (S → StoreFacts) → S → Type 0
IsHonest facts store = IsTrue (facts store).honest

-- What no rule of the document decides: memory ran out, the store failed in this very call, or what was read is no
-- body, which an honest store never gives.
unfoldable pub IsEnvironmentFault : {S : Type 0} → (S → StoreFacts) → S → S → Fault → Type 0
IsEnvironmentFault facts old new fault =
    (fault ≡ Memory) ⊎ (((fault ≡ File) × FailedSince (facts old) (facts new)) ⊎ IsDamage (facts old).honest fault)

-- the block is in memory, and live, as each that is in memory is
unfoldable pub is_loaded : {S : Type 0} → CacheState S → ℕ → Bool
is_loaded state h = is_resident state.resident h && is_live state.document h

-- each frame has a locked block, so that no other one can be brought into memory
unfoldable pub is_full : {S : Type 0} → CacheState S → Bool
is_full state = all_frames_locked state.frames state.resident

-- nor this one: it isn't locked
unfoldable pub has_no_frame_for : {S : Type 0} → CacheState S → ℕ → Bool
has_no_frame_for state h = is_full state && (locks_of state.resident h == 0)

-- the fault for that
abbrev pub IsCacheFull : {S : Type 0} → CacheState S → ℕ → Fault → Type 0
IsCacheFull state h fault = (fault ≡ CacheFull) × (has_no_frame_for state h ≡ true)
