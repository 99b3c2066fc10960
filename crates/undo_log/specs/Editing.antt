-- An edit of a session, over any store, and one that calls no store.
use Rattle.std.specs.Prelude.{◌≡◌, ◌≢◌, ◌⊎◌, Bool, true, Result, Err, IfOk, IfErr, OnOk, OnErr}
use Rattle.std.specs.Result.{IsErrAnd}
use Rattle.geos_model.specs.Machine.{edit_needs, is_barred, kind_of}
use Rattle.geos_model.specs.Meaning.{conditions, effect}
use Rattle.geos_model.specs.Reply.{reply_by, reply_of_done}
use Rattle.geos_model.specs.declared.command.Command.TheVariants as commands
use Rattle.geos_model.specs.declared.command.Done.{Done}
use Rattle.geos_model.specs.declared.command.Edit.{Edit}
use Rattle.geos_model.specs.declared.command.Kind.TheVariants.{In, Made}
use Rattle.geos_model.specs.declared.fault.Fault.{Fault}
use Rattle.geos_model.specs.declared.fault.Fault.TheVariants.{Locked, Memory}
use Rattle.geos_model.specs.declared.handle.VmHandle.{VmHandle}
use Rattle.vm_store.specs.Facts.{StoreFacts}
use Rattle.document_file.specs.Disk.{KeepsCommitted}
use Rattle.vm_blocks.specs.Keeping.{IsEnvironmentFault, is_loaded}
use Rattle.doc_edits.specs.Planning.{IsManyBlocksFault, RefusesEdit, RefusesInMemory}
use Rattle.doc_edits.specs.Room.{lacks_frames, IsRefusedUnseen, ReadsNothing}
use Rattle.undo_log.specs.Locking.{IsBarred}
use Rattle.undo_log.specs.Sessions.{SessionState, IsStep, KeepsSession, PushesEdit, cache_of, machine_of}

-- Over any store it is what it means of the document as it was, or a refusal that leaves that: by a lock, for lack of
-- memory or by the rules.
pub record EditsInMemory {S : Type 0} (edit : Edit) (old new : SessionState S) (result : Result Done Fault)
    : Type 0 where
  pub disk : new.disk ≡ old.disk
  pub ok : IfOk result (λ done. (new.document ≡ (effect edit old.document).0) × (done ≡ (effect edit old.document).1))
  pub err : IfErr result (λ fault. (new.document ≡ old.document)
      × (IsBarred edit old fault ⊎ RefusesInMemory edit old.document fault))

-- What an edit comes to.
pub record EditsSession {S : Type 0} (facts : S → StoreFacts) (edit : Edit) (old new : SessionState S)
    (result : Result Done Fault) : Type 0 where
  -- What is done.
  pub step : IsStep facts old new (commands.Edit edit) (reply_by reply_of_done result)
  pub ok : IfOk result (λ done. PushesEdit facts edit done old new)
  pub err : OnErr result (KeepsSession facts old new)
  -- Refusals.
  pub refusals : IfErr result (λ fault. IsBarred edit old fault
      ⊎ (RefusesEdit (IsEnvironmentFault facts old.disk.store new.disk.store)
      (lacks_frames (cache_of old) (edit_needs edit)) edit new.document fault
      ⊎ IsManyBlocksFault edit old.document fault))
  pub locked : ((target : Bool) → is_barred edit (machine_of target old) ≡ true) → (result ≡ Err Locked) × (new ≡ old)
  pub shut : lacks_frames (cache_of old) (edit_needs edit) ≡ true → (new ≡ old)
      × IsErrAnd result (λ fault. IsBarred edit old fault ⊎ RefusesEdit (λ f. f ≡ Memory) true edit old.document fault)
  pub unseen : IsRefusedUnseen (conditions edit old.document) → (new ≡ old)
      × IsErrAnd result (λ fault. IsBarred edit old fault ⊎ RefusesInMemory edit old.document fault)
  -- What is in memory afterwards.
  pub in_memory : OnOk result ((b : VmHandle) → kind_of edit ≡ In b → is_loaded (cache_of new) b.0 ≡ true)
  -- What stays.
  pub passes : KeepsCommitted facts old.disk new.disk
  -- When the answer is known beforehand: no store is called where no block comes in and no body has to be read.
  pub already : kind_of edit ≢ Made → ReadsNothing (cache_of old) (edit_needs edit) (conditions edit old.document)
      → EditsInMemory edit old new result
