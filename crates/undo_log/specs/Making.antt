-- An edit that was planned, and whose change was made.
use Rattle.std.specs.Prelude.{◌≡◌, ◌≢◌, ◌⊎◌, ◌<◌, ◌∷◌, true, false, IsTrue, List, Some, length, Result, Ok, Err, IfErr, IfOk, MatchResult, OnErr}
use Rattle.std.specs.Result.{IsErrAnd}
use Rattle.geos_model.specs.Document.{Document}
use Rattle.geos_model.specs.Machine.{edit_needs, kind_of}
use Rattle.geos_model.specs.Meaning.{conditions, effect}
use Rattle.geos_model.specs.Refusal.{first_refusal}
use Rattle.geos_model.specs.declared.command.Done.{Done}
use Rattle.geos_model.specs.declared.command.Edit.{Edit}
use Rattle.geos_model.specs.declared.command.Kind.TheVariants.{Made, Plain}
use Rattle.geos_model.specs.declared.fault.Fault.{Fault}
use Rattle.geos_model.specs.declared.fault.Fault.TheVariants.{CacheFull}
use Rattle.vm_store.specs.Facts.{StoreFacts}
use Rattle.document_file.specs.Disk.{SameUnlessCorrupt}
use Rattle.vm_blocks.specs.State.{CacheState}
use Rattle.vm_blocks.specs.Keeping.{IsEnvironmentFault, KeepsBlocks}
use Rattle.vm_blocks.specs.Preparing.{CanApplyAllByHandle, CanApplyByHandle, AreApplied, IsApplied}
use Rattle.vm_blocks.specs.declared.change.Change.{Change}
use Rattle.doc_edits.specs.Planning.{is_of_chain, kind_of_change, IsManyBlocksFault, Plans, PlansAll, RefusesEdit, RefusesInMemory}
use Rattle.doc_edits.specs.Room.{lacks_frames, IsRefusedUnseen, ReadsNothing}
use Rattle.undo_log.specs.Logging.{Log, with_change}

-- What a change means that was made, over any store: the edit, of the document as it was held once its block was
-- loaded, and the answer. Where no block comes in, the document from then on is just what the edit makes of that one.
pub record IsMeant {S : Type 0} (facts : S → StoreFacts) (edit : Edit) (old new : CacheState S)
    (change : Change) (done : Done) : Type 0 where
  pub loaded : Document
  pub unless_corrupt : SameUnlessCorrupt (facts old.disk.store).honest old.document loaded
  pub plans : Plans edit loaded change done
  pub document : kind_of edit ≢ Made → new.document ≡ (effect edit loaded).0

-- There was room for what the edit needed, and its change was made and means it; that of a chain over an honest store.
pub record IsEditApplied {S : Type 0} (facts : S → StoreFacts) (edit : Edit) (old new : CacheState S)
    (change : Change) (done : Done) : Type 0 where
  pub listed : CanApplyByHandle change old.document
  pub makes : IsApplied facts change old new
  pub room : lacks_frames old (edit_needs edit) ≡ false
  pub kind : kind_of_change change ≡ kind_of edit
  pub meant : (is_of_chain edit ≡ true → IsTrue (facts old.disk.store).honest) → IsMeant facts edit old new change done

-- There was room for what the edit of a large array needed, and its changes, one at least, were made one after another;
-- over an honest store they mean it.
pub record IsLargeApplied {S : Type 0} (facts : S → StoreFacts) (edit : Edit) (old new : CacheState S)
    (changes : List Change) : Type 0 where
  pub listed : CanApplyAllByHandle changes old.document
  pub some : 0 < length changes
  pub makes : AreApplied facts changes old new
  pub room : lacks_frames old (edit_needs edit) ≡ false
  pub meant : IsTrue (facts old.disk.store).honest → PlansAll edit old.document changes

-- What making an edit that no lock bars comes to: its change was made and means it, or the document is kept, and the
-- edit is refused for what the call lacked, by the rules of the document as it is held from then on, or, over a store
-- that isn't honest, for what a chain may be refused for. Where there is no room for what it needs, or it is refused
-- for its block, nothing changes. Where no block comes in and no body has to be read no store is called, and the
-- document before decides alone.
pub record MakesEdit {S : Type 0} (facts : S → StoreFacts) (edit : Edit) (old new : CacheState S)
    (result : Result (Change × Done) Fault) : Type 0 where
  pub ok : IfOk result (λ p. IsEditApplied facts edit old new p.0 p.1)
  pub err : OnErr result (KeepsBlocks facts old new)
  pub refusals : IfErr result (λ fault.
      RefusesEdit (IsEnvironmentFault facts old.disk.store new.disk.store) (lacks_frames old (edit_needs edit)) edit
      new.document fault
      ⊎ IsManyBlocksFault edit old.document fault)
  pub rules : IsTrue (facts old.disk.store).honest
      → IfErr result (RefusesEdit (IsEnvironmentFault facts old.disk.store new.disk.store)
      (lacks_frames old (edit_needs edit)) edit new.document)
  pub plain : kind_of edit ≡ Plain → (new.disk ≡ old.disk) × IfErr result (RefusesInMemory edit new.document)
  pub shut : lacks_frames old (edit_needs edit) ≡ true → (new ≡ old)
      × IsErrAnd result (λ fault. first_refusal ((CacheFull, true) ∷ conditions edit old.document) ≡ Some fault)
  pub unseen : IsRefusedUnseen (conditions edit old.document)
      → (new ≡ old) × IsErrAnd result (RefusesInMemory edit old.document)
  pub already : kind_of edit ≢ Made → ReadsNothing old (edit_needs edit) (conditions edit old.document)
      → (new.disk ≡ old.disk)
      × MatchResult result
      (λ p. (new.document ≡ (effect edit old.document).0) × (p.1 ≡ (effect edit old.document).1))
      (λ fault. (new.document ≡ old.document) × RefusesInMemory edit old.document fault)

-- Its change was made and means it, and is the newest of the log.
pub record RecordsEdit {S : Type 0} (facts : S → StoreFacts) (edit : Edit) (old new : CacheState S)
    (log log' : Log) (done : Done) : Type 0 where
  pub change : Change
  pub makes : MakesEdit facts edit old new (Ok (change, done))
  pub newest : log' ≡ with_change change log

-- what making an edit with its record comes to: where it is refused the log stays
abbrev pub MakesRecorded : {S : Type 0} → (S → StoreFacts) → Edit → CacheState S → CacheState S → Log → Log
    → Result Done Fault → Type 0
MakesRecorded facts edit old new log log' result =
    MatchResult result
    (RecordsEdit facts edit old new log log')
    (λ fault. MakesEdit facts edit old new (Err fault) × (log' ≡ log))
