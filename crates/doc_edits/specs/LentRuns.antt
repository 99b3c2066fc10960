-- Elements of one size of a large array, lent where they lie in the block of a branch.
use Rattle.std.specs.Prelude.{◌≡◌, ◌⊎◌, ◌∷◌, ℕ, Bool, [], true, false, Some, Result, IfOk, IfErr, MatchResult}
use Rattle.std.specs.Result.{IsErrAnd}
use Rattle.geos_model.specs.Document.{Document}
use Rattle.geos_model.specs.LargeEdits.{read_large_conditions}
use Rattle.geos_model.specs.Refusal.{first_refusal}
use Rattle.geos_model.specs.declared.fault.Fault.{Fault}
use Rattle.geos_model.specs.declared.fault.Fault.TheVariants.{CacheFull, NotArray, NoElement, Range}
use Rattle.vm_store.specs.Facts.{StoreFacts}
use Rattle.vm_blocks.specs.State.{CacheState}
use Rattle.vm_blocks.specs.Keeping.{KeepsBlocks, IsEnvironmentFault, IsHonest, is_full}
use Rattle.large_arrays.specs.LentRuns.{IsRunLoaded, IsRunPlace}
use Rattle.large_arrays.specs.declared.lent_runs.RunPlace.{RunPlace}
use Rattle.doc_edits.specs.LookUps.{IsArrayRootFault}
use Rattle.doc_edits.specs.Room.{IsChainRefusal, IsRefusedUnseen}

-- what may be refused for its root, or its branch, over any store
abbrev pub IsRunFault : (Fault → Type 0) → Bool → Document → ℕ → Fault → Type 0
IsRunFault lacks full d b fault =
    IsChainRefusal lacks (IsArrayRootFault (NotArray ∷ NoElement ∷ Range ∷ []) d b) full fault

-- What finding elements that are to be lent comes to: the file is kept, their branch is in memory, and, if the store
-- gives back what it has, they stand there, or are refused as a look-up of the first of them as a run is. Where each
-- frame has a locked block, or the root is no raw block, nothing changes.
pub record FindsRun {S : Type 0} (facts : S → StoreFacts) (old new : CacheState S) (b i : ℕ)
    (result : Result RunPlace Fault) : Type 0 where
  pub keeps : KeepsBlocks facts old new
  pub value : IsHonest facts old.disk.store → MatchResult result (IsRunPlace new.document b i)
      (λ fault. IsEnvironmentFault facts old.disk.store new.disk.store fault
      ⊎ (first_refusal ((CacheFull, is_full old) ∷ read_large_conditions new.document b i 1) ≡ Some fault))
  pub ready : IfOk result (IsRunLoaded new)
  pub room : IfOk result (λ _. is_full old ≡ false)
  pub shut : is_full old ≡ true → (new ≡ old) × IsErrAnd result
      (λ fault. first_refusal ((CacheFull, true) ∷ read_large_conditions old.document b i 1) ≡ Some fault)
  pub unseen : IsRefusedUnseen (read_large_conditions old.document b i 1) → (new ≡ old)
      × IsErrAnd result (λ fault. first_refusal (read_large_conditions old.document b i 1) ≡ Some fault)
  pub refusals : IfErr result
      (IsRunFault (IsEnvironmentFault facts old.disk.store new.disk.store) (is_full old) old.document b)
