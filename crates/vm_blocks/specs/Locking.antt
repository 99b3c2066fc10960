-- What locking and unlocking a block leaves, and why either is refused.
use Rattle.std.specs.Prelude.{◌≡◌, ◌≢◌, ◌⊎◌, ◌<◌, ◌+◌, ◌-◌, ℕ, true, false, nat_eq}
use Rattle.std.specs.Map.{set_value}
use Rattle.vm_store.specs.Facts.{StoreFacts}
use Rattle.geos_model.specs.Document.{is_live}
use Rattle.geos_model.specs.declared.fault.Fault.{Fault}
use Rattle.geos_model.specs.declared.fault.Fault.TheVariants.{NoBlock, NotLocked, LockLimit}
use Rattle.vm_blocks.specs.State.{CacheState, locks_of, KeepsDocument}
use Rattle.vm_blocks.specs.Keeping.{is_loaded, IsCacheFull}

-- A block is in memory and locked once more, and every other one as often as before. Otherwise it is as after a load.
pub record GainsLock {S : Type 0} (facts : S → StoreFacts) (h : ℕ) (old new : CacheState S) : Type 0 where
  pub stays : KeepsDocument facts old new
  pub loaded : is_loaded new h ≡ true
  pub one : locks_of new.resident h ≡ locks_of old.resident h + 1
  pub others : (k : ℕ) → k ≢ h → locks_of new.resident k ≡ locks_of old.resident k

-- A block that was locked is so once less, and every other one as often as before. Nothing else has changed, not even
-- the order of use.
pub record LosesLock {S : Type 0} (h : ℕ) (old new : CacheState S) : Type 0 where
  pub was : 0 < locks_of old.resident h
  pub is : new ≡ record old { resident = set_value (nat_eq h) old.resident (locks_of old.resident h - 1) }
  pub one : locks_of new.resident h ≡ locks_of old.resident h - 1
  pub others : (k : ℕ) → k ≢ h → locks_of new.resident k ≡ locks_of old.resident k

-- why a block isn't locked, which is known without its body: it isn't live, or it is locked as often as it can be, or
-- it is shut out
abbrev pub CantLock : {S : Type 0} → CacheState S → ℕ → Fault → Type 0
CantLock state h fault =
    ((fault ≡ NoBlock) × (is_live state.document h ≡ false))
    ⊎ (((fault ≡ LockLimit) × (is_live state.document h ≡ true) × (locks_of state.resident h ≡ 255))
    ⊎ ((is_live state.document h ≡ true) × IsCacheFull state h fault))

-- why there is no lock to be taken away or used: the block isn't live, or it isn't locked
abbrev pub HasNoLock : {S : Type 0} → CacheState S → ℕ → Fault → Type 0
HasNoLock state h fault = ((fault ≡ NoBlock) × (is_live state.document h ≡ false))
    ⊎ ((fault ≡ NotLocked) × (is_live state.document h ≡ true) × (locks_of state.resident h ≡ 0))
