-- A run of bytes that is replaced in its block once that is in memory.
use Rattle.std.specs.Prelude.{◌≡◌, ◌⊎◌, ℕ, Bool, true, false, MatchOption, MatchResult, Option, None, Some, Result, Err, IsOk, IfErr, OnOk}
use Rattle.geos_model.specs.Document.{Document, block_at, is_heap, is_raw, is_valid_body}
use Rattle.geos_model.specs.declared.fault.Fault.{Fault}
use Rattle.geos_model.specs.declared.fault.Fault.TheVariants.{CacheFull}
use Rattle.geos_model.specs.declared.handle.ChunkHandle.{ChunkHandle}
use Rattle.vm_store.specs.Facts.{StoreFacts}
use Rattle.vm_blocks.specs.InPlace.{used_last}
use Rattle.vm_blocks.specs.Keeping.{IsCacheFull, IsEnvironmentFault, KeepsBlocks, has_no_frame_for, is_loaded}
use Rattle.vm_blocks.specs.Kinds.{IsWrongBlock}
use Rattle.vm_blocks.specs.Runs.{TriesRun}
use Rattle.vm_blocks.specs.State.{CacheState}
use Rattle.vm_blocks.specs.declared.change.Change.{Change}
use Rattle.vm_blocks.specs.declared.run.Run.{Run}

-- What bringing a block into memory comes to that has to be of a kind.
pub record LoadsKind {S : Type 0} (facts : S → StoreFacts) (is_kind : Document → ℕ → Bool) (h : ℕ)
    (old new : CacheState S) (result : Result (Unit {0}) Fault) : Type 0 where
  pub keeps : KeepsBlocks facts old new
  pub ok : OnOk result ((is_loaded new h ≡ true) × (is_kind new.document h ≡ true))
  pub err : IfErr result (λ fault. IsEnvironmentFault facts old.disk.store new.disk.store fault
      ⊎ (IsWrongBlock is_kind new.document h fault ⊎ IsCacheFull old h fault))
  -- when the answer is known beforehand
  pub already : is_loaded old h ≡ true → is_kind old.document h ≡ true
      → IsOk result × (new.disk ≡ old.disk) × (new.document ≡ old.document)
  pub early : (fault : Fault) → IsWrongBlock is_kind old.document h fault → (result ≡ Err fault) × (new ≡ old)
  pub shut : is_kind old.document h ≡ true → has_no_frame_for old h ≡ true
      → (result ≡ Err CacheFull) × (new ≡ old)

-- of the kind in which a run lies: a heap where it has a chunk
abbrev pub is_kind_of_run : Option ChunkHandle → Document → ℕ → Bool
is_kind_of_run None d h = is_raw d h
is_kind_of_run (Some c) d h = is_heap d h

-- A run is replaced where its block is in memory, which is the one that was used last then. Where it isn't nothing
-- changes.
abbrev pub TriesRunInMemory : {S R : Type 0} → (S → StoreFacts) → (R → Change → R → Type 0) → (R → R → Type 0) → Run
    → CacheState S → CacheState S → R → R → Option (Result (Unit {0}) Fault) → Type 0
TriesRunInMemory facts records keeps run old new log log' result =
    MatchOption result
    ((is_loaded old run.block.0 ≡ false) × (new ≡ old) × (log' ≡ log))
    (λ tried. (is_loaded old run.block.0 ≡ true)
    × TriesRun facts records keeps run (used_last old run.block.0) new log log' tried)

-- What replacing a run comes to in any block: it is brought into memory, and then that is tried, in a body that can be.
pub record LoadsAndReplaces {S R : Type 0} (facts : S → StoreFacts) (records : R → Change → R → Type 0)
    (keeps : R → R → Type 0) (run : Run) (old new : CacheState S) (log log' : R) (result : Result (Unit {0}) Fault)
    : Type 0 where
  pub loaded : CacheState S
  pub load : Result (Unit {0}) Fault
  pub loads : LoadsKind facts (is_kind_of_run run.chunk) run.block.0 old loaded load
  pub replaces : MatchResult load
      (λ _. TriesRun facts records keeps run loaded new log log' result
      × (is_valid_body (block_at loaded.document run.block.0).body ≡ true))
      (λ fault. (result ≡ Err fault) × (new ≡ loaded) × (log' ≡ log))
