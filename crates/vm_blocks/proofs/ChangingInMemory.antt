-- Changes that are carried out after blocks were brought into memory.
use Rattle.std.proofs.Common.{◌≡◌, Bool, List, inl, inr, sym, subst, ◌∙◌}
use Rattle.geos_model.specs.Document.{Document, without_blocks}
use Rattle.geos_model.specs.declared.fault.Fault.{Fault}
use Rattle.vm_store.specs.Facts.{StoreFacts}
use Rattle.document_file.specs.Disk.{Disk, SameUnlessCorrupt, KeepsCommitted}
use Rattle.document_file.proofs.PassingLemmas.{KeepsCommitted-trans, SameUnlessCorrupt-trans}
use Rattle.vm_blocks.specs.State.{CacheState, KeepsLocks}
use Rattle.vm_blocks.specs.InMemory.{all_in_place, all_outgoing}
use Rattle.vm_blocks.specs.Keeping.{KeepsBlocks}
use Rattle.vm_blocks.specs.Preparing.{after_changes, AllowAll, AreApplied, CanApplyAllByHandle, CantPrepareAll, NoneComesIn}
use Rattle.vm_blocks.specs.declared.change.Change.{Change}
use Rattle.vm_blocks.proofs.ChangingAll.{made_all_on}
use Rattle.vm_blocks.proofs.InMemory.{all_settled}
use Rattle.vm_blocks.proofs.KeepingLaws.{keeps-frames, keeps-locks, keeps-passes, keeps-same, keeps-steady, keeps-unless_corrupt, lacks-later}
use Rattle.vm_blocks.proofs.Preparing.{all_listed_on}

module _ {S : Type 0} (facts : S → StoreFacts) (all : List Change) (old mid : CacheState S) (keeps : KeepsBlocks facts old mid) where
  pub listed_then : CanApplyAllByHandle all old.document → CanApplyAllByHandle all mid.document
  listed_then listed = all_listed_on (facts old.disk.store).honest all old.document mid.document (keeps-unless_corrupt facts old mid keeps) listed

  -- they were made from there
  pub applied_since : (new : CacheState S) → AreApplied facts all mid new → AreApplied facts all old new
  applied_since new made =
      let honest : Bool = (facts old.disk.store).honest in
      let passes = keeps-passes facts old mid keeps in
      let locks = keeps-locks facts old mid keeps in
      record {
        passes = KeepsCommitted-trans facts old.disk mid.disk new.disk passes made.passes;
        document = SameUnlessCorrupt-trans honest (after_changes all old.document) (after_changes all mid.document) new.document
            (made_all_on all honest old.document mid.document (keeps-unless_corrupt facts old mid keeps))
            (subst (λ (t : Bool). SameUnlessCorrupt t (after_changes all mid.document) new.document) passes.honest made.document);
        frames = made.frames ∙ keeps-frames facts old mid keeps;
        locks = record { each = λ h. made.locks.each h ∙ locks.each h; count = made.locks.count ∙ locks.count };
      }

  -- in place, and then the blocks that go
  pub applied_in_memory : (new : CacheState S) → CanApplyAllByHandle all old.document → NoneComesIn all → new.disk ≡ mid.disk
      → new.document ≡ without_blocks (all_in_place all mid.document) (all_outgoing all) → new.frames ≡ mid.frames → KeepsLocks mid.resident new.resident → AreApplied facts all old new
  applied_in_memory new listed none disk document frames locks =
      let is : new.document ≡ after_changes all mid.document = document ∙ all_settled all mid.document (listed_then listed) none in
      let honest : Bool = (facts old.disk.store).honest in
      let were = keeps-locks facts old mid keeps in
      record {
        passes = subst (λ (d : Disk S). KeepsCommitted facts old.disk d) (sym disk) (keeps-passes facts old mid keeps);
        document = subst (λ (d : Document). SameUnlessCorrupt honest (after_changes all old.document) d) (sym is) (made_all_on all honest old.document mid.document (keeps-unless_corrupt facts old mid keeps));
        frames = frames ∙ keeps-frames facts old mid keeps;
        locks = record { each = λ h. locks.each h ∙ were.each h; count = locks.count ∙ were.count };
      }

  -- they can't be made from there
  pub cant_since : (new : CacheState S) (fault : Fault) → CantPrepareAll facts all mid new fault → CantPrepareAll facts all old new fault
  cant_since new fault cant = elim cant as (λ _. CantPrepareAll facts all old new fault) [
    | inl lacks ↦ inl (lacks-later facts old mid new.disk.store fault keeps lacks)
    | inr damaged ↦ inr (damaged.0, λ steady takes. damaged.1 (keeps-steady facts old mid keeps steady) (subst (AllowAll all) (sym (keeps-same facts old mid keeps steady)) takes))
  ]
