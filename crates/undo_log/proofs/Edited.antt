-- An edit that was made, or refused, is a step of the machine.
use Rattle.std.proofs.Common.{◌≡◌, ◌⊎◌, Result, Ok, Err, IsOk, ℕ, Bool, true, false, IsTrue, All, List, [], ◌∷◌, map, Some, inl, inr, refl, sym, ap, subst, ◌∙◌, arith, ltb-false}
use Rattle.geos_model.specs.Document.{Document}
use Rattle.std.specs.Option.{option_map_or}
use Rattle.std.specs.Prelude.{◌≢◌}
use Rattle.std.specs.Result.{IsErrAnd}
use Rattle.std.proofs.lemmas.Bool.{true≢false}
use Rattle.std.proofs.lemmas.List.Elements.{All-cons, All-nil, All-same}
use Rattle.geos_model.specs.ElementArray.{all_distinct}
use Rattle.geos_model.specs.Machine as machine
use Rattle.geos_model.specs.Machine.{Machine, Step, Answers, Needs, NoBody, edit_needs, is_barred, is_of_no_body, kind_of}
use Rattle.geos_model.specs.Meaning.{conditions, effect}
use Rattle.geos_model.specs.Refusal.{Conditions, first_refusal}
use Rattle.geos_model.specs.Reply.{Refused, reply_of_done}
use Rattle.geos_model.specs.Targets.{array_edit}
use Rattle.geos_model.specs.declared.command.Command.TheVariants as commands
use Rattle.geos_model.specs.declared.command.Done.{Done}
use Rattle.geos_model.specs.declared.command.Edit.{Edit}
use Rattle.geos_model.specs.declared.command.Edit.TheVariants as edits
use Rattle.geos_model.specs.declared.command.Kind.{Kind}
use Rattle.geos_model.specs.declared.command.Kind.TheVariants.{Plain, In, Made, Freed, Group}
use Rattle.geos_model.specs.declared.fault.Fault.{Fault}
use Rattle.geos_model.specs.declared.fault.Fault.TheVariants.{CacheFull, Locked, Memory}
use Rattle.geos_model.specs.declared.handle.ChunkHandle.{ChunkHandle}
use Rattle.geos_model.specs.declared.handle.VmHandle.{VmHandle}
use Rattle.geos_model.specs.declared.target.ArrayEdit.{ArrayEdit}
use Rattle.vm_store.specs.Facts.{StoreFacts}
use Rattle.document_file.specs.Disk.{SameUnlessCorrupt}
use Rattle.document_file.proofs.PassingLemmas.{KeepsCommitted-trans, SameUnlessCorrupt-trans}
use Rattle.geos_model.proofs.FirstRefusals.{edit-judged, edit-locked, edit-passed}
use Rattle.vm_blocks.specs.State.{CacheState, ResidentBlock, KeepsLocks, locks_of}
use Rattle.vm_blocks.specs.Changes.{after_change, incoming_blocks}
use Rattle.vm_blocks.specs.Keeping.{IsHonest, KeepsBlocks, IsEnvironmentFault, is_loaded}
use Rattle.vm_blocks.specs.Preparing.{AreUnlocked, AllowsChange, IsInMemory, CanCarryOut, IsApplied}
use Rattle.vm_blocks.specs.declared.change.Change.{Change}
use Rattle.vm_blocks.specs.declared.change.Change.TheVariants as changes
use Rattle.chunk_edits.specs.declared.direction.Direction.TheVariants.{Backwards}
use Rattle.vm_blocks.proofs.KeepingLaws.{honest-steady, keeps-passes, keeps-unless_corrupt, keeps-frames, keeps-locks}
use Rattle.vm_blocks.proofs.Preparing.{made_on}
use Rattle.doc_edits.specs.Marking.{IsJustEdited}
use Rattle.doc_edits.specs.Planning.{freed_by, is_chain, is_of_chain, kind_of_change, Plans, RefusesEdit, RefusesInMemory}
use Rattle.doc_edits.specs.Room.{lacks_frames, ReadsNothing}
use Rattle.doc_edits.proofs.Targets.{array_scope}
use Rattle.undo_log.specs.Locking.{IsBarred, bars}
use Rattle.undo_log.specs.Editing.{EditsInMemory}
use Rattle.undo_log.specs.Making.{IsEditApplied}
use Rattle.undo_log.specs.Logging.{Log, to_redo, to_undo, with_change}
use Rattle.undo_log.specs.Sessions.{SessionState, cache_of, machine_of, failed_since, AreSteps, IsStep, KeepsSession}
use Rattle.undo_log.proofs.Answers.{edit_answers}
use Rattle.undo_log.proofs.Forgetting.{changed_steps}
use Rattle.undo_log.proofs.Keeping.{gives_up, kept_exact, kept_machine, kept_document, machine_with, passed_machine}
use Rattle.undo_log.proofs.Listing.{listed_before}
use Rattle.undo_log.proofs.Locks.{has_no_room-is, is_barred-is, none_of_count}
use Rattle.undo_log.proofs.Steps.{edited_steps}

-- The blocks that go by an edit that no lock bars aren't locked.

freed_unlocked : (edit : Edit) (hs : List ℕ) (old mid : List ResidentBlock) → KeepsLocks old mid → bars old edit ≡ false → Freed ≡ kind_of edit → ((b : VmHandle) → edit ≡ edits.FreeBlock b → hs ≡ b.0 ∷ [])
    → All (λ h. locks_of mid h ≡ 0) hs
freed_unlocked (edits.FreeBlock b) hs old mid keeps free kind alone =
    let few = ltb-false 0 (locks_of old b.0) free in
    let none : locks_of mid b.0 ≡ 0 = keeps.each b.0 ∙ omega (arith, few) in
    All-same (λ h. locks_of mid h ≡ 0) hs (b.0 ∷ []) (alone b refl) (All-cons (λ h. locks_of mid h ≡ 0) b.0 [] none (All-nil (λ h. locks_of mid h ≡ 0)))
freed_unlocked (edits.FreeChain b) hs old mid keeps free kind alone = λ i d within. keeps.each _ ∙ none_of_count old free _
freed_unlocked _ hs old mid keeps free kind alone = absurd (cc kind)

pub unlocked_change : (edit : Edit) (c : Change) (old mid : List ResidentBlock) → KeepsLocks old mid → bars old edit ≡ false → kind_of_change c ≡ kind_of edit
    → ((b : VmHandle) → edit ≡ edits.FreeBlock b → freed_by c ≡ b.0 ∷ []) → AreUnlocked c mid
unlocked_change edit (changes.BlocksIn ms) old mid keeps free kind alone = tt
unlocked_change edit (changes.BlocksOut ms) old mid keeps free kind alone = freed_unlocked edit (freed_by (changes.BlocksOut ms)) old mid keeps free kind alone
unlocked_change edit (changes.Part b part) old mid keeps free kind alone = tt
unlocked_change edit (changes.Attributes b was is) old mid keeps free kind alone = tt
unlocked_change edit (changes.Map was is) old mid keeps free kind alone = tt

-- an edit of a user ID, a type or the map block needs no body
plain_needs : (edit : Edit) → kind_of edit ≡ Plain → edit_needs edit ≡ NoBody
plain_needs (edits.FreeBlock b) kind = absurd (cc kind)
plain_needs (edits.CopyBlock b) kind = absurd (cc kind)
plain_needs (edits.CopyChain b) kind = absurd (cc kind)
plain_needs (edits.FreeChain b) kind = absurd (cc kind)
plain_needs (edits.SetUserId b uid) kind = refl
plain_needs (edits.SetType b heap_type) kind = refl
plain_needs (edits.SetMap b) kind = refl
plain_needs _ kind = absurd (cc kind)

-- blocks come in by no edit but one that makes some
pub none_come_in : (c : Change) (k : Kind) → kind_of_change c ≡ k → k ≢ Made → incoming_blocks c ≡ []
none_come_in (changes.BlocksIn ms) k kind other = absurd (other (sym kind))
none_come_in (changes.BlocksOut ms) k kind other = refl
none_come_in (changes.Part b part) k kind other = refl
none_come_in (changes.Attributes b was is) k kind other = refl
none_come_in (changes.Map was is) k kind other = refl

-- for an edit of a chain bodies are read
pub reads_chain : {S : Type 0} (state : CacheState S) (edit : Edit) (own : Conditions) → ReadsNothing state (edit_needs edit) own → is_of_chain edit ≡ true → ⊥
reads_chain state (edits.CopyChain b) own nothing chain = nothing
reads_chain state (edits.FreeChain b) own nothing chain = nothing
reads_chain state _ own nothing chain = absurd (cc chain)

-- the change is made and no store called
abbrev pub IsSurelyMade : {S : Type 0} → Change → CacheState S → CacheState S → Result (Unit {0}) Fault → Type 0
IsSurelyMade c mid new result = incoming_blocks c ≡ [] → IsOk result × (new.disk ≡ mid.disk) × (new.document ≡ after_change c mid.document)

-- so that it isn't refused
pub never_refused : {S : Type 0} (edit : Edit) (c : Change) (mid new : CacheState S) (fault : Fault) (result : Result (Unit {0}) Fault) → result ≡ Err fault → kind_of_change c ≡ kind_of edit → kind_of edit ≢ Made
    → IsSurelyMade c mid new result → ⊥
never_refused edit c mid new fault result was kind other sure =
    not_both result was (sure (none_come_in c (kind_of edit) kind other)).0
  where
    not_both : (r : Result (Unit {0}) Fault) → r ≡ Err fault → IsOk r → ⊥
    not_both (Ok u) is accepted = cc is
    not_both (Err e) is accepted = cc accepted

module _ {S : Type 0} (facts : S → StoreFacts) where
  -- A change that is made after its block was brought into memory.
  module _ (old mid : CacheState S) (keeps : KeepsBlocks facts old mid) where
    pub makes_later : (c : Change) (new : CacheState S) → IsApplied facts c mid new → IsApplied facts c old new
    makes_later c new makes =
        let passes = keeps-passes facts old mid keeps in
        record {
          passes = KeepsCommitted-trans facts old.disk mid.disk new.disk passes makes.passes;
          document = SameUnlessCorrupt-trans _ _ _ _ (made_on c _ old.document mid.document (keeps-unless_corrupt facts old mid keeps)) (subst (λ (honest : Bool). SameUnlessCorrupt honest (after_change c mid.document) new.document) passes.honest makes.document);
          in_memory = makes.in_memory;
          frames = makes.frames ∙ keeps-frames facts old mid keeps;
          locks = let first = keeps-locks facts old mid keeps in record { each = λ h. makes.locks.each h ∙ first.each h; count = makes.locks.count ∙ first.count };
        }

    -- what was planned for the document as it was held then
    pub made_of_plan : (edit : Edit) (c : Change) (done : Done) (new : CacheState S) (result : Result (Unit {0}) Fault) → CanCarryOut c mid → lacks_frames old (edit_needs edit) ≡ false → kind_of_change c ≡ kind_of edit
        → ((is_of_chain edit ≡ true → IsHonest facts old.disk.store) → Plans edit mid.document c done) → IsSurelyMade c mid new result → IsApplied facts c mid new → IsEditApplied facts edit old new c done
    made_of_plan edit c done new result ready room kind plans sure makes = record {
      listed = listed_before c (facts old.disk.store).honest old.document mid.document (keeps-unless_corrupt facts old mid keeps) ready.listed;
      makes = makes_later c new makes;
      room = room;
      kind = kind;
      meant = λ so.
          let planned = plans (λ chain. honest-steady facts old.disk.store (so chain)) in
          record {
            loaded = mid.document;
            unless_corrupt = keeps-unless_corrupt facts old mid keeps;
            plans = planned;
            document = λ other. (sure (none_come_in c (kind_of edit) kind other)).2 ∙ planned.document;
          };
    }

    -- where that is the document before, nothing else is
    pub made_at_rest : (edit : Edit) (c : Change) (done : Done) (new : CacheState S) (result : Result (Unit {0}) Fault) → mid.disk ≡ old.disk → mid.document ≡ old.document → kind_of edit ≢ Made
        → Plans edit mid.document c done → IsSurelyMade c mid new result
        → (new.disk ≡ old.disk) × ((new.document ≡ (effect edit old.document).0) × (done ≡ (effect edit old.document).1))
    made_at_rest edit c done new result disk document other plans sure =
        let is = sure (none_come_in c (kind_of edit) plans.kind other) in
        (is.1 ∙ disk, (is.2 ∙ plans.document ∙ ap (λ (d : Document). (effect edit d).0) document, plans.answer ∙ ap (λ (d : Document). (effect edit d).1) document))

  -- A user ID or the map block is changed without memory.
  pub plain_sure : (c : Change) (state : CacheState S) → kind_of_change c ≡ Plain → (incoming_blocks c ≡ []) × IsInMemory c state × AllowsChange c state.document
  plain_sure (changes.BlocksIn ms) state plain = absurd (cc plain)
  plain_sure (changes.BlocksOut ms) state plain = absurd (cc plain)
  plain_sure (changes.Part b part) state plain = absurd (cc plain)
  plain_sure (changes.Attributes b old new) state plain = (refl, tt, tt)
  plain_sure (changes.Map old new) state plain = (refl, tt, tt)

  -- the block of a part is in memory where the change was made
  pub made_at_hand : (c : Change) (k : Kind) (state : CacheState S) → kind_of_change c ≡ k → IsInMemory c state → (b : VmHandle) → k ≡ In b → is_loaded state b.0 ≡ true
  made_at_hand (changes.BlocksIn ms) k state kind in_memory b is = absurd (cc (kind ∙ is))
  made_at_hand (changes.BlocksOut ms) k state kind in_memory b is = absurd (cc (kind ∙ is))
  made_at_hand (changes.Part h part) k state kind in_memory b is = let same : In h ≡ In b = kind ∙ is in subst (λ (x : VmHandle). is_loaded state x.0 ≡ true) (cc same) in_memory
  made_at_hand (changes.Attributes h old new) k state kind in_memory b is = absurd (cc (kind ∙ is))
  made_at_hand (changes.Map old new) k state kind in_memory b is = absurd (cc (kind ∙ is))

  module _ (old new : SessionState S) (edit : Edit) (distinct : all_distinct (map (λ s. s.0) old.resident) ≡ true) (free : bars old.resident edit ≡ false) where
    pub edit_step : (c : Change) (done : Done) → IsEditApplied facts edit (cache_of old) (cache_of new) c done → new.log ≡ with_change c old.log → IsStep facts old new (commands.Edit edit) (reply_of_done done)
    edit_step c done is log = λ exact.
        let so = exact.honest in
        let meant = is.meant (λ _. so) in
        let plans : Plans edit old.document c done = subst (λ (d : Document). Plans edit d c done) (meant.unless_corrupt.same so) meant.plans in
        let document : new.document ≡ after_change c old.document = is.makes.document.same so in
        let steps : AreSteps Backwards (after_change c old.document) (to_undo (with_change c old.log)) (to_redo (with_change c old.log)) =
        changed_steps old.log c (after_change c old.document) (edited_steps old.document (to_undo old.log) (to_redo old.log) c exact.steps plans.applies) in (
          record {
            honest = subst IsTrue (sym is.makes.passes.honest) so;
            steps = subst (λ (d : Document). AreSteps Backwards d (to_undo new.log) (to_redo new.log)) (sym document)
                (subst (λ (l : Log). AreSteps Backwards (after_change c old.document) (to_undo l) (to_redo l)) (sym log) steps);
          },
          λ target.
              let m = machine_of target old in
              let same : machine_of target new ≡ machine_with m new.document new.log = passed_machine facts old new target so is.makes.passes is.makes.frames is.makes.locks in
              inl (rw (same, document, log) (edit_answers m edit old.document old.log (to_undo old.log) (to_redo old.log) c done exact.steps plans (is_barred-is old distinct target edit ∙ free) (has_no_room-is old distinct target (edit_needs edit) ∙ is.room))),
        )

    module _ (fault : Fault) (keeps : KeepsSession facts old new) where
      -- the machine's: no lock bars the edit, and there is room or none as for the blocks
      record Judges (m new_m : Machine) : Type 0 where
        same : new_m ≡ m
        document : m.document ≡ old.document
        unbarred : is_barred edit m ≡ false
        room : machine.has_no_room m (edit_needs edit) ≡ lacks_frames (cache_of old) (edit_needs edit)

      module _ (m new_m : Machine) (judges : Judges m new_m) (so : IsTrue (facts old.disk.store).honest) where
        -- the first refusal is its own
        refused_first : first_refusal ((CacheFull, lacks_frames (cache_of old) (edit_needs edit)) ∷ conditions edit new.document) ≡ Some fault → Answers m (Some (commands.Edit edit)) (Refused fault) m
        refused_first first =
            let judged : first_refusal (machine.command_conditions (commands.Edit edit) m) ≡ Some fault =
            edit-judged edit m judges.unbarred
            ∙ ap (λ r. first_refusal ((CacheFull, r) ∷ conditions edit m.document)) judges.room
            ∙ ap (λ (d : Document). first_refusal ((CacheFull, lacks_frames (cache_of old) (edit_needs edit)) ∷ conditions edit d)) (judges.document ∙ sym (kept_document facts old new keeps so))
            ∙ first in
            ap (λ o. option_map_or (λ f. Some (Refused f, m)) o (machine.done_by (commands.Edit edit) m)) judged

        refused_alone : lacks_frames (cache_of old) (edit_needs edit) ≡ false → first_refusal (conditions edit new.document) ≡ Some fault → Answers m (Some (commands.Edit edit)) (Refused fault) m
        refused_alone room first = rw (edit-passed edit m judges.unbarred (judges.room ∙ room), judges.document, ← kept_document facts old new keeps so, first) refl

        refused_in : (k : Kind) → kind_of edit ≡ k → is_of_no_body k ≡ false
            → RefusesEdit (IsEnvironmentFault facts old.disk.store new.disk.store) (lacks_frames (cache_of old) (edit_needs edit)) edit new.document fault
            → Step (failed_since (facts old.disk.store) (facts new.disk.store)) m (Some (commands.Edit edit)) (Refused fault) new_m
        refused_in k kind body refuses = elim refuses as (λ _. Step (failed_since (facts old.disk.store) (facts new.disk.store)) m (Some (commands.Edit edit)) (Refused fault) new_m) [
          | inl lacks ↦ gives_up facts old.disk.store new.disk.store m new_m (commands.Edit edit) fault so lacks judges.same refl (rw (kind, body) refl)
          | inr first ↦ inl (rw judges.same (refused_first first))
        ]

        refused_plain : kind_of edit ≡ Plain → RefusesInMemory edit new.document fault → Step (failed_since (facts old.disk.store) (facts new.disk.store)) m (Some (commands.Edit edit)) (Refused fault) new_m
        refused_plain kind refuses = elim refuses as (λ _. Step (failed_since (facts old.disk.store) (facts new.disk.store)) m (Some (commands.Edit edit)) (Refused fault) new_m) [
          | inl memory ↦ inr (record { fault = Memory; may = refl; says = ap Refused memory; stays = judges.same })
          | inr first ↦ inl (rw judges.same (refused_alone (ap (lacks_frames (cache_of old)) (plain_needs edit kind)) first))
        ]

        by_kind : (k : Kind) → kind_of edit ≡ k → RefusesEdit (IsEnvironmentFault facts old.disk.store new.disk.store) (lacks_frames (cache_of old) (edit_needs edit)) edit new.document fault
            → (kind_of edit ≡ Plain → RefusesInMemory edit new.document fault) → Step (failed_since (facts old.disk.store) (facts new.disk.store)) m (Some (commands.Edit edit)) (Refused fault) new_m
        by_kind Plain kind refuses plain = refused_plain kind (plain kind)
        by_kind (In b) kind refuses plain = refused_in (In b) kind refl refuses
        by_kind Made kind refuses plain = refused_in Made kind refl refuses
        by_kind Freed kind refuses plain = refused_in Freed kind refl refuses
        by_kind Group kind refuses plain = refused_in Group kind refl refuses

      pub edit_refused : (IsTrue (facts old.disk.store).honest → RefusesEdit (IsEnvironmentFault facts old.disk.store new.disk.store) (lacks_frames (cache_of old) (edit_needs edit)) edit new.document fault)
          → (kind_of edit ≡ Plain → RefusesInMemory edit new.document fault) → IsStep facts old new (commands.Edit edit) (Refused fault)
      edit_refused refuses plain = λ exact. (
        kept_exact facts old new keeps exact,
        λ target.
            let m = machine_of target old in let new_m = machine_of target new in
            let judges : Judges m new_m = record {
              same = kept_machine facts old new keeps target exact;
              document = refl;
              unbarred = is_barred-is old distinct target edit ∙ free;
              room = has_no_room-is old distinct target (edit_needs edit);
            } in
            by_kind m new_m judges exact.honest (kind_of edit) refl (refuses exact.honest) plain,
      )

-- A lock bars the edit.
module _ {S : Type 0} (facts : S → StoreFacts) (s : SessionState S) (edit : Edit) (distinct : all_distinct (map (λ x. x.0) s.resident) ≡ true) (barred : bars s.resident edit ≡ true) where
  pub barred_step : IsStep facts s s (commands.Edit edit) (Refused Locked)
  barred_step = λ exact. (exact, λ target. inl (rw (edit-locked edit (machine_of target s) (is_barred-is s distinct target edit ∙ barred)) refl))

  pub barred_fault : IsBarred edit s Locked
  barred_fault = (refl, λ target. is_barred-is s distinct target edit ∙ barred)

-- It doesn't.
pub not_barred : {S : Type 0} (s : SessionState S) (edit : Edit) → all_distinct (map (λ x. x.0) s.resident) ≡ true → bars s.resident edit ≡ false → ((target : Bool) → is_barred edit (machine_of target s) ≡ true) → ⊥
not_barred s edit distinct free all = true≢false (sym (all true) ∙ is_barred-is s distinct true edit ∙ free)

-- An edit for which no store is called, refused.
module _ {S : Type 0} (edit : Edit) (old new : SessionState S) (disk : new.disk ≡ old.disk) where
  pub refused_at_hand : (fault : Fault) (result : Result Done Fault) → IsErrAnd result (λ e. e ≡ fault) → new.document ≡ old.document → IsBarred edit old fault ⊎ RefusesInMemory edit old.document fault → EditsInMemory edit old new result
  refused_at_hand fault (Ok done) is document why = absurd is
  refused_at_hand fault (Err e) is document why = record { disk = disk; ok = tt; err = (document, subst (λ (f : Fault). IsBarred edit old f ⊎ RefusesInMemory edit old.document f) (sym is) why) }

-- the fault that `?` hands on
pub carried_fault : {A : Type 0} (result : Result A Fault) (P : Fault → Type 0) (fault : Fault) → IsErrAnd result (λ e. e ≡ fault) → P fault → IsErrAnd result P
carried_fault (Ok x) P fault is holds = absurd is
carried_fault (Err e) P fault is holds = subst P (sym is) holds

-- An edit of an array that was made leaves one: the document is what it makes of another.
pub leaves_array : {S : Type 0} (facts : S → StoreFacts) (edit : Edit) (old new : CacheState S) (c : Change) (done : Done) → IsEditApplied facts edit old new c done
    → (b : VmHandle) (k : ChunkHandle) (array : ArrayEdit) → edit ≡ array_edit b k array → IsJustEdited edit b new
leaves_array facts edit old new c done applied b k array is =
    let of = array_scope b k array in
    let inside : kind_of edit ≡ In b = ap kind_of is ∙ of.1 in
    let no_chain : is_of_chain edit ≡ false = ap is_of_chain is ∙ ap is_chain of.0 in
    let meant = applied.meant (λ chain. absurd (true≢false (sym chain ∙ no_chain))) in
    record {
      loaded = made_at_hand facts c (kind_of edit) new applied.kind applied.makes.in_memory b inside;
      made = record { before = meant.loaded; accepted = meant.plans.accepted; document = meant.document (λ made. let no : In b ≡ Made = sym inside ∙ made in absurd (cc no)) };
    }
