-- What an edit of a large array comes to.
use Rattle.std.proofs.Common.{◌≡◌, ◌∙◌, ◌++◌, Bool, true, false, Ok, Err, IsTrue, Vec, Global, List, [], ◌∷◌, map, reverse, inl, inr, refl, sym, ap, subst}
use Rattle.std.specs.Prelude.{nat_lt}
use Rattle.std.proofs.lemmas.Bool.{true≢false}
use Rattle.geos_model.specs.Document.{Document, IsValid}
use Rattle.geos_model.specs.ElementArray.{all_distinct}
use Rattle.geos_model.specs.Machine.{ManyBodies, Needs, edit_needs, kind_of}
use Rattle.geos_model.specs.Meaning.{conditions, effect}
use Rattle.geos_model.specs.Reply.{reply_of_done}
use Rattle.geos_model.specs.Targets.{large_edit}
use Rattle.geos_model.specs.declared.command.Command.TheVariants as commands
use Rattle.geos_model.specs.declared.command.Done.TheVariants.{Nothing}
use Rattle.geos_model.specs.declared.command.Edit.{Edit}
use Rattle.geos_model.specs.declared.command.Kind.TheVariants.{Group, In, Plain}
use Rattle.geos_model.specs.declared.fault.Fault.{Fault}
use Rattle.geos_model.specs.declared.fault.Fault.TheVariants.{Memory}
use Rattle.geos_model.specs.declared.handle.VmHandle.{VmHandle}
use Rattle.geos_model.specs.declared.target.LargeEdit.{LargeEdit}
use Rattle.geos_model.specs.declared.target.LargeEdit.TheVariants as large_edits
use Rattle.vm_store.specs.Facts.{StoreFacts}
use Rattle.document_file.specs.Disk.{IsFileDocument, SameUnlessCorrupt}
use Rattle.document_file.proofs.PassingLemmas.{KeepsCommitted-trans, SameUnlessCorrupt-trans}
use Rattle.vm_blocks.specs.State.{CacheState, ResidentBlock, locked_count}
use Rattle.vm_blocks.specs.Changes.{after_change}
use Rattle.vm_blocks.specs.Keeping.{IsEnvironmentFault, IsHonest, KeepsBlocks, is_full}
use Rattle.vm_blocks.specs.Preparing.{AllowAll, AreApplied, CanApplyAll, CanApplyAllByHandle, CantPrepareAll, after_changes}
use Rattle.vm_blocks.specs.declared.change.Change.{Change}
use Rattle.chunk_edits.specs.declared.direction.Direction.TheVariants.{Backwards, Forwards}
use Rattle.vm_blocks.proofs.KeepingLaws.{honest-steady, keeps-frames, keeps-locks, keeps-passes, keeps-same, keeps-steady, keeps-unless_corrupt, lacks-damaged, lacks-later}
use Rattle.vm_blocks.proofs.Preparing.{applies_takes, made_on}
use Rattle.doc_edits.specs.Planning.{PlansAll, PlansLarge}
use Rattle.doc_edits.specs.Room.{lacks_frames, IsRefusedUnseen, ReadsNothing}
use Rattle.undo_log.specs.Editing.{EditsSession}
use Rattle.undo_log.specs.Locking.{bars}
use Rattle.undo_log.specs.Logging.{Log, after_all, to_redo, to_undo, with_changes}
use Rattle.undo_log.specs.Making.{IsLargeApplied}
use Rattle.undo_log.specs.Sessions.{SessionState, AreSteps, CanApplyAllDirected, CanApplyBothByHandle, IsStep, KeepsSession, cache_of, machine_of}
use Rattle.undo_log.proofs.Editing.{edit_fails, lacks_memory}
use Rattle.undo_log.proofs.Edited.{not_barred}
use Rattle.undo_log.proofs.Forgetting.{all_changed_listed, all_changed_steps}
use Rattle.undo_log.proofs.Keeping.{Holds, machine_with, none_marked, passed_machine}
use Rattle.undo_log.proofs.LargeAnswers.{large_answers}
use Rattle.undo_log.proofs.Listing.{Alike, alike-back, all_listed_alike, drifted, edited_all_listed, forwards}
use Rattle.undo_log.proofs.Locks.{has_no_room-is, is_barred-is}
use Rattle.undo_log.proofs.LookUps.{same_session}
use Rattle.undo_log.proofs.Steps.{all_back, edited_all_steps}

-- It looks into many bodies, is charged as a group is, answers nothing, and any lock bars it.
pub record IsLarge (edit : Edit) : Type 0 where
  pub needs : edit_needs edit ≡ ManyBodies
  pub kind : kind_of edit ≡ Group
  pub answer : (d : Document) → (effect edit d).1 ≡ Nothing
  pub bars_is : (residents : List ResidentBlock) → bars residents edit ≡ nat_lt 0 (locked_count residents)

pub large_is : (b : VmHandle) (edit : LargeEdit) → IsLarge (large_edit b edit)
large_is b (large_edits.Insert i bytes) = record { needs = refl; kind = refl; answer = λ _. refl; bars_is = λ _. refl }
large_is b (large_edits.Set i bytes) = record { needs = refl; kind = refl; answer = λ _. refl; bars_is = λ _. refl }
large_is b (large_edits.Delete i n) = record { needs = refl; kind = refl; answer = λ _. refl; bars_is = λ _. refl }

module _ {S : Type 0} (edit : Edit) (large : IsLarge edit) (state : CacheState S) where
  -- where each frame has a locked block
  pub full_is : lacks_frames state (edit_needs edit) ≡ is_full state
  full_is = ap (lacks_frames state) large.needs

  pub reads_many : {P : Type 0} → ReadsNothing state (edit_needs edit) (conditions edit state.document) → P
  reads_many nothing = absurd (subst (λ (needs : Needs). ReadsNothing state needs (conditions edit state.document)) large.needs nothing)

pub never_plain : {P : Type 0} (edit : Edit) → IsLarge edit → kind_of edit ≡ Plain → P
never_plain edit large is = let no : Group ≡ Plain = sym large.kind ∙ is in absurd (cc no)

module _ {S : Type 0} (facts : S → StoreFacts) (old new : SessionState S) (edit : Edit) (large : IsLarge edit) (distinct : all_distinct (map (λ x. x.0) old.resident) ≡ true) (free : bars old.resident edit ≡ false)
    (keeps : KeepsSession facts old new) where
  -- it isn't planned
  pub large_unplanned : (fault : Fault) → PlansLarge facts (cache_of old) (cache_of new) edit (Err fault) → EditsSession facts edit old new (Err fault)
  large_unplanned fault plan =
      let full = full_is edit large (cache_of old) in
      edit_fails facts old new edit distinct free fault keeps (record {
        rules = λ so. rw full (plan.planned (honest-steady facts old.disk.store so));
        refusals = rw full plan.refusals;
        plain = never_plain edit large;
        shut = λ out. let kept = plan.shut (sym full ∙ out) in (same_session (cache_of old) (cache_of new) old.log new.log kept.0 keeps.log, inr kept.1);
        unseen = λ unread. let kept = plan.unseen unread in (same_session (cache_of old) (cache_of new) old.log new.log kept.0 keeps.log, inr kept.1);
        already = λ _ nothing. reads_many edit large (cache_of old) nothing;
      })

  -- memory runs out later
  pub large_unserved : is_full (cache_of old) ≡ false → (IsRefusedUnseen (conditions edit old.document) → ⊥) → EditsSession facts edit old new (Err Memory)
  large_unserved room seen =
      edit_fails facts old new edit distinct free Memory keeps (lacks_memory facts old new edit distinct free
      (λ out. absurd (true≢false (sym out ∙ full_is edit large (cache_of old) ∙ room))) (λ unread. absurd (seen unread)) (λ _ nothing. reads_many edit large (cache_of old) nothing))

-- Changes that are made one after another, the first one first.

after_forwards : (cs : List Change) (d : Document) → after_all Forwards cs d ≡ after_changes cs d
after_forwards cs d = ap (λ (xs : List Change). after_changes xs d) (forwards cs)

can_forwards : (cs : List Change) (d : Document) → CanApplyAll cs d → CanApplyAllDirected Forwards cs d
can_forwards [] d can = tt
can_forwards (c ∷ cs) d can = (can.0, can_forwards cs (after_change c d) can.1)

allow_all : (cs : List Change) (d : Document) → CanApplyAll cs d → AllowAll cs d
allow_all [] d can = tt
allow_all (c ∷ cs) d can = (applies_takes c d can.0, allow_all cs (after_change c d) can.1)

made_all_on : (cs : List Change) (honest : Bool) (old new : Document) → SameUnlessCorrupt honest old new → SameUnlessCorrupt honest (after_changes cs old) (after_changes cs new)
made_all_on [] honest old new same = same
made_all_on (c ∷ cs) honest old new same = made_all_on cs honest (after_change c old) (after_change c new) (made_on c honest old new same)

module _ (cs : List Change) (d : Document) (can : CanApplyAll cs d) where
  -- they lead back
  pub all_led_back : IsValid d → after_all Backwards (reverse cs) (after_changes cs d) ≡ d
  all_led_back valid =
      sym (ap (λ (x : Document). after_all Backwards (reverse cs) x) (after_forwards cs d)) ∙ (all_back Forwards cs d valid (can_forwards cs d can)).gives

  pub all_made_steps : (log : Log) → AreSteps Backwards d (to_undo log) (to_redo log) → AreSteps Backwards (after_changes cs d) (to_undo (with_changes cs log)) (to_redo (with_changes cs log))
  all_made_steps log are =
      all_changed_steps log cs (after_changes cs d)
      (subst (λ (x : Document). AreSteps Backwards x (reverse cs ++ to_undo log) []) (after_forwards cs d) (edited_all_steps d (to_undo log) (to_redo log) cs are (can_forwards cs d can)))

module _ {S : Type 0} (facts : S → StoreFacts) (old mid : CacheState S) (keeps : KeepsBlocks facts old mid) (cs : List Change) where
  -- Changes that were planned after blocks were brought into memory.
  pub all_make_later : (new : CacheState S) → AreApplied facts cs mid new → AreApplied facts cs old new
  all_make_later new makes =
      let passes = keeps-passes facts old mid keeps in
      record {
        passes = KeepsCommitted-trans facts old.disk mid.disk new.disk passes makes.passes;
        document = SameUnlessCorrupt-trans _ _ _ _ (made_all_on cs _ old.document mid.document (keeps-unless_corrupt facts old mid keeps)) (subst (λ (honest : Bool). SameUnlessCorrupt honest (after_changes cs mid.document) new.document) passes.honest makes.document);
        frames = makes.frames ∙ keeps-frames facts old mid keeps;
        locks = let first = keeps-locks facts old mid keeps in record { each = λ h. makes.locks.each h ∙ first.each h; count = makes.locks.count ∙ first.count };
      }

  pub all_listed_before : CanApplyAllByHandle cs mid.document → CanApplyAllByHandle cs old.document
  all_listed_before listed =
      all_listed_alike cs mid.document old.document (alike-back old.document mid.document (drifted (facts old.disk.store).honest old.document mid.document (keeps-unless_corrupt facts old mid keeps))) listed

  -- why those that can be made aren't
  pub all_lacking : (new : CacheState S) (fault : Fault) → (IsHonest facts old.disk.store → CanApplyAll cs mid.document) → CantPrepareAll facts cs mid new fault → IsEnvironmentFault facts old.disk.store new.disk.store fault
  all_lacking new fault can why = elim why as (λ _. IsEnvironmentFault facts old.disk.store new.disk.store fault) [
    | inl lacks ↦ lacks-later facts old mid new.disk.store fault keeps lacks
    | inr damaged ↦
        subst (λ (f : Fault). IsEnvironmentFault facts old.disk.store new.disk.store f) (sym damaged.0)
        (lacks-damaged facts old.disk.store new.disk.store (λ steady. damaged.1 (keeps-steady facts old mid keeps steady) (allow_all cs mid.document (can steady))))
  ]

module _ {S : Type 0} (facts : S → StoreFacts) (old new : SessionState S) (mid : CacheState S) (edit : Edit) (large : IsLarge edit) (distinct : all_distinct (map (λ x. x.0) old.resident) ≡ true)
    (free : bars old.resident edit ≡ false) (changes : Vec Change Global) (plan : PlansLarge facts (cache_of old) mid edit (Ok changes)) where
  -- they aren't made
  pub large_unmade : (fault : Fault) → KeepsSession facts old new → CantPrepareAll facts changes.items mid (cache_of new) fault → EditsSession facts edit old new (Err fault)
  large_unmade fault keeps why =
      let lacks = all_lacking facts (cache_of old) mid plan.keeps changes.items (cache_of new) fault (λ steady. (plan.planned steady).applies) why in
      edit_fails facts old new edit distinct free fault keeps (record {
        rules = λ _. inl lacks;
        refusals = inl (inl lacks);
        plain = never_plain edit large;
        shut = λ out. absurd (true≢false (sym out ∙ full_is edit large (cache_of old) ∙ plan.room));
        unseen = λ unread. absurd (plan.unseen unread).1;
        already = λ _ nothing. reads_many edit large (cache_of old) nothing;
      })

  large_applied : AreApplied facts changes.items mid (cache_of new) → IsLargeApplied facts edit (cache_of old) (cache_of new) changes.items
  large_applied makes = record {
    listed = all_listed_before facts (cache_of old) mid plan.keeps changes.items plan.listed;
    some = plan.some;
    makes = all_make_later facts (cache_of old) mid plan.keeps changes.items (cache_of new) makes;
    room = full_is edit large (cache_of old) ∙ plan.room;
    meant = λ so.
        let steady = honest-steady facts old.disk.store so in
        subst (λ (d : Document). PlansAll edit d changes.items) (keeps-same facts (cache_of old) mid plan.keeps steady) (plan.planned steady);
  }

  -- they are
  module _ (makes : AreApplied facts changes.items mid (cache_of new)) (log : new.log ≡ with_changes changes.items old.log) where
    large_step : IsStep facts old new (commands.Edit edit) (reply_of_done Nothing)
    large_step = λ exact.
        let so = exact.honest in let cs = changes.items in
        let made = large_applied makes in
        let plans = made.meant so in
        let document : new.document ≡ after_changes cs old.document = made.makes.document.same so in
        let steps = all_made_steps cs old.document plans.applies old.log exact.steps in (
          record {
            honest = subst IsTrue (sym made.makes.passes.honest) so;
            steps = subst (λ (d : Document). AreSteps Backwards d (to_undo new.log) (to_redo new.log)) (sym document)
                (subst (λ (l : Log). AreSteps Backwards (after_changes cs old.document) (to_undo l) (to_redo l)) (sym log) steps);
          },
          λ target.
              let m = machine_of target old in
              let same : machine_of target new ≡ machine_with m new.document new.log = passed_machine facts old new target so made.makes.passes made.makes.frames made.makes.locks in
              inl (rw (same, document, log)
              (large_answers m edit old.document old.log cs large.kind (large.answer old.document) plans (all_led_back cs old.document plans.applies exact.steps.valid)
              (is_barred-is old distinct target edit ∙ free) (has_no_room-is old distinct target (edit_needs edit) ∙ made.room))),
        )

    pub large_made : EditsSession facts edit old new (Ok Nothing)
    large_made =
        let made = large_applied makes in
        record {
          step = large_step;
          ok = inr (record { changes = changes.items; made = made; log = log; answer = refl });
          err = tt;
          refusals = tt;
          locked = λ barred. absurd (not_barred old edit distinct free barred);
          shut = λ out. absurd (true≢false (sym out ∙ made.room));
          unseen = λ unread. absurd (plan.unseen unread).1;
          in_memory = λ b is. (let no : Group ≡ In b = sym large.kind ∙ is in absurd (cc no));
          passes = made.makes.passes;
          already = λ _ nothing. reads_many edit large (cache_of old) nothing;
        }

  -- what is known by handles stays known
  pub large_holds : AreApplied facts changes.items mid (cache_of new) → IsFileDocument (facts old.disk.store).honest old.document → new.log ≡ with_changes changes.items old.log → Holds (cache_of old) old.log → Holds (cache_of new) new.log
  large_holds makes known log holds =
      let made = large_applied makes in let cs = changes.items in let honest = (facts old.disk.store).honest in
      let alike : Alike (after_all Forwards cs old.document) new.document = subst (λ (d : Document). Alike d new.document) (sym (after_forwards cs old.document)) (drifted honest (after_changes cs old.document) new.document made.makes.document) in
      let listed = subst (λ (xs : List Change). CanApplyAllByHandle xs old.document) (sym (forwards cs)) made.listed in (
        subst (λ (l : Log). CanApplyBothByHandle Backwards new.document (to_undo l) (to_redo l)) (sym log)
            (all_changed_listed old.log cs new.document (edited_all_listed honest old.document new.document cs (to_undo old.log) (to_redo old.log) known alike listed holds.0)),
        none_marked honest old.disk.marked new.disk.marked holds.1 made.makes.passes.marked,
      )
