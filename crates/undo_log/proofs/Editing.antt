-- What an edit comes to: it is barred, refused, or made by one change or by several.
use Rattle.std.proofs.Common.{◌≡◌, ◌⊎◌, ◌∙◌, true, false, Ok, Err, IsTrue, map, inl, inr, refl, sym, subst}
use Rattle.std.specs.Prelude.{◌≢◌, Result}
use Rattle.std.specs.Result.{IsErrAnd}
use Rattle.std.proofs.lemmas.Bool.{true≢false}
use Rattle.geos_model.specs.ElementArray.{all_distinct}
use Rattle.geos_model.specs.Machine.{edit_needs, kind_of}
use Rattle.geos_model.specs.Meaning.{conditions, effect}
use Rattle.geos_model.specs.declared.command.Done.{Done}
use Rattle.geos_model.specs.declared.command.Edit.{Edit}
use Rattle.geos_model.specs.declared.command.Kind.TheVariants.{Made, Plain}
use Rattle.geos_model.specs.declared.fault.Fault.{Fault}
use Rattle.geos_model.specs.declared.fault.Fault.TheVariants.{Locked, Memory}
use Rattle.vm_store.specs.Facts.{StoreFacts}
use Rattle.document_file.specs.Disk.{IsFileDocument}
use Rattle.document_file.proofs.PassingLemmas.{KeepsCommitted-refl}
use Rattle.vm_blocks.specs.Keeping.{IsEnvironmentFault}
use Rattle.vm_blocks.specs.State.{CacheState}
use Rattle.vm_blocks.specs.declared.change.Change.{Change}
use Rattle.chunk_edits.specs.declared.direction.Direction.TheVariants.{Backwards}
use Rattle.vm_blocks.proofs.KeepingLaws.{keeps-passes, lacks-memory}
use Rattle.doc_edits.specs.Planning.{IsManyBlocksFault, RefusesEdit, RefusesInMemory}
use Rattle.doc_edits.specs.Room.{lacks_frames, IsRefusedUnseen, ReadsNothing}
use Rattle.undo_log.specs.Editing.{EditsSession}
use Rattle.undo_log.specs.Locking.{bars}
use Rattle.undo_log.specs.Logging.{Log, to_redo, to_undo, with_change}
use Rattle.undo_log.specs.Making.{IsEditApplied, MakesEdit, MakesRecorded}
use Rattle.undo_log.specs.Sessions.{SessionState, CanApplyBothByHandle, KeepsSession, cache_of}
use Rattle.undo_log.proofs.Edited.{barred_fault, barred_step, edit_step, edit_refused, made_at_hand, not_barred}
use Rattle.undo_log.proofs.Forgetting.{changed_listed}
use Rattle.undo_log.proofs.Keeping.{Holds, keeps_refl, kept_invariant, none_marked}
use Rattle.undo_log.proofs.Listing.{drifted, edited_listed}
use Rattle.undo_log.proofs.LookUps.{same_session}

module _ {S : Type 0} (facts : S → StoreFacts) where
  -- a lock bars it
  pub edit_barred : (s : SessionState S) (edit : Edit) → all_distinct (map (λ x. x.0) s.resident) ≡ true → bars s.resident edit ≡ true → EditsSession facts edit s s (Err Locked)
  edit_barred s edit distinct barred =
      let fault = barred_fault facts s edit distinct barred in
      record {
        step = barred_step facts s edit distinct barred;
        ok = tt;
        err = keeps_refl facts s;
        refusals = inl fault;
        locked = λ _. (refl, refl);
        shut = λ _. (refl, inl fault);
        unseen = λ _. (refl, inl fault);
        in_memory = tt;
        passes = KeepsCommitted-refl facts s.disk;
        already = λ _ _. record { disk = refl; ok = tt; err = (refl, inl fault) };
      }

  module _ (old new : SessionState S) (edit : Edit) (distinct : all_distinct (map (λ x. x.0) old.resident) ≡ true) (free : bars old.resident edit ≡ false) where
    -- Why it is refused where no lock bars it.
    pub record Refuses (fault : Fault) : Type 0 where
      pub rules : IsTrue (facts old.disk.store).honest → RefusesEdit (IsEnvironmentFault facts old.disk.store new.disk.store) (lacks_frames (cache_of old) (edit_needs edit)) edit new.document fault
      pub refusals : RefusesEdit (IsEnvironmentFault facts old.disk.store new.disk.store) (lacks_frames (cache_of old) (edit_needs edit)) edit new.document fault ⊎ IsManyBlocksFault edit old.document fault
      pub plain : kind_of edit ≡ Plain → RefusesInMemory edit new.document fault
      pub shut : lacks_frames (cache_of old) (edit_needs edit) ≡ true → (new ≡ old) × RefusesEdit (λ f. f ≡ Memory) true edit old.document fault
      pub unseen : IsRefusedUnseen (conditions edit old.document) → (new ≡ old) × RefusesInMemory edit old.document fault
      pub already : kind_of edit ≢ Made → ReadsNothing (cache_of old) (edit_needs edit) (conditions edit old.document) → (new.disk ≡ old.disk) × ((new.document ≡ old.document) × RefusesInMemory edit old.document fault)

    -- for want of memory, where nothing came in that needn't
    pub lacks_memory : (lacks_frames (cache_of old) (edit_needs edit) ≡ true → new ≡ old)
        → (IsRefusedUnseen (conditions edit old.document) → new ≡ old)
        → (kind_of edit ≢ Made → ReadsNothing (cache_of old) (edit_needs edit) (conditions edit old.document) → (new.disk ≡ old.disk) × (new.document ≡ old.document)) → Refuses Memory
    lacks_memory kept unseen read = record {
      rules = λ _. inl (lacks-memory facts old.disk.store new.disk.store);
      refusals = inl (inl (lacks-memory facts old.disk.store new.disk.store));
      plain = λ _. inl refl;
      shut = λ out. (kept out, inl refl);
      unseen = λ unread. (unseen unread, inl refl);
      already = λ other nothing. let same = read other nothing in (same.0, (same.1, inl refl));
    }

    -- as making it by one change was
    pub not_made : (fault : Fault) → MakesEdit facts edit (cache_of old) (cache_of new) (Err fault) → new.log ≡ old.log → Refuses fault
    not_made fault made log = record {
      rules = made.rules;
      refusals = made.refusals;
      plain = λ is. (made.plain is).1;
      shut = λ out. let kept = made.shut out in (same_session (cache_of old) (cache_of new) old.log new.log kept.0 log, inr kept.1);
      unseen = λ unread. let kept = made.unseen unread in (same_session (cache_of old) (cache_of new) old.log new.log kept.0 log, kept.1);
      already = made.already;
    }

    pub edit_fails : (fault : Fault) → KeepsSession facts old new → Refuses fault → EditsSession facts edit old new (Err fault)
    edit_fails fault keeps why = record {
      step = edit_refused facts old new edit distinct free fault keeps why.rules why.plain;
      ok = tt;
      err = keeps;
      refusals = inr why.refusals;
      locked = λ barred. absurd (not_barred old edit distinct free barred);
      shut = λ out. let kept = why.shut out in (kept.0, inr kept.1);
      unseen = λ unread. let kept = why.unseen unread in (kept.0, inr kept.1);
      in_memory = tt;
      passes = keeps-passes facts (cache_of old) (cache_of new) keeps.blocks;
      already = λ other nothing. let kept = why.already other nothing in record { disk = kept.0; ok = tt; err = (kept.1.0, inr kept.1.1) };
    }

    -- made by one change
    pub edit_done : (change : Change) (done : Done) → IsEditApplied facts edit (cache_of old) (cache_of new) change done → new.log ≡ with_change change old.log
        → (IsRefusedUnseen (conditions edit old.document) → ⊥)
        → (kind_of edit ≢ Made → ReadsNothing (cache_of old) (edit_needs edit) (conditions edit old.document) → (new.disk ≡ old.disk) × ((new.document ≡ (effect edit old.document).0) × (done ≡ (effect edit old.document).1)))
        → EditsSession facts edit old new (Ok done)
    edit_done change done made log seen already = record {
      step = edit_step facts old new edit distinct free change done made log;
      ok = inl (record { change = change; made = made; log = log });
      err = tt;
      refusals = tt;
      locked = λ barred. absurd (not_barred old edit distinct free barred);
      shut = λ out. absurd (true≢false (sym out ∙ made.room));
      unseen = λ unread. absurd (seen unread);
      in_memory = made_at_hand facts change (kind_of edit) (cache_of new) made.kind made.makes.in_memory;
      passes = made.makes.passes;
      already = λ other nothing. let unchanged = already other nothing in record { disk = unchanged.0; ok = unchanged.1; err = tt };
    }

    -- made with its record, or refused
    pub edited : (result : Result Done Fault) → MakesRecorded facts edit (cache_of old) (cache_of new) old.log new.log result → EditsSession facts edit old new result
    edited (Ok done) records = edit_done records.change done records.makes.ok records.newest (λ unread. (records.makes.unseen unread).1) records.makes.already
    edited (Err fault) refused = edit_fails fault (record { blocks = refused.0.err; log = refused.1 }) (not_made fault refused.0 refused.1)

-- All changes of the log can be tried still.
pub edited_holds : {S : Type 0} (facts : S → StoreFacts) (edit : Edit) (old new : CacheState S) (log log' : Log) (result : Result Done Fault) → IsFileDocument (facts old.disk.store).honest old.document
    → MakesRecorded facts edit old new log log' result → Holds old log → Holds new log'
edited_holds facts edit old new log log' (Ok done) known records holds =
    let applied = records.makes.ok in let change = records.change in
    let honest = (facts old.disk.store).honest in (
      subst (λ (l : Log). CanApplyBothByHandle Backwards new.document (to_undo l) (to_redo l)) (sym records.newest)
          (changed_listed log change new.document
          (edited_listed honest old.document new.document change (to_undo log) (to_redo log) known (drifted honest _ new.document applied.makes.document) applied.listed holds.0)),
      none_marked _ old.disk.marked new.disk.marked holds.1 applied.makes.passes.marked,
    )
edited_holds facts edit old new log log' (Err fault) known refused holds =
    subst (λ (l : Log). Holds new l) (sym refused.1) (kept_invariant facts old new log refused.0.err holds)

-- The fault that `?` hands on, of a session that is seen to be another one.
pub carried : {S : Type 0} {facts : S → StoreFacts} {edit : Edit} {old s new : SessionState S} → old ≡ s → (fault : Fault) (r : Result Done Fault) → IsErrAnd r (λ x. x ≡ fault) → EditsSession facts edit old new (Err fault) → EditsSession facts edit s new r
carried is fault (Ok done) never edits = absurd never
carried {S} {facts} {edit} {old} {s} {new} is fault (Err e) same edits = subst (λ (x : SessionState S). EditsSession facts edit x new (Err e)) is (subst (λ (f : Fault). EditsSession facts edit old new (Err f)) (sym same) edits)
