-- A file fault is answered only where a store failed in that very call, over any store.
use Rattle.std.proofs.Common.{◌≡◌, ◌⊎◌, ℕ, ◌∷◌, List, [], Bool, true, false, Option, Some, None, Result, Ok, Err, IsTrue, IfErr, find, is_some, refl, sym, ap, subst, ◌∙◌, inl, inr}
use Rattle.geos_model.specs.Machine.{longest_name}
use Rattle.std.specs.Prelude.{◌≢◌, ◌==◌, ◌++◌, IsErrOf, if◌then◌else◌, length, nat_lt}
use Rattle.std.specs.FinMap.{get}
use Rattle.std.specs.List.{list_all}
use Rattle.std.specs.Option.{option_map, option_map_or}
use Rattle.std.proofs.lemmas.Bool.{cases_Bool, or_left, or_right, true≢false}
use Rattle.geos_model.specs.Document.{Block, Document, is_raw}
use Rattle.geos_model.specs.Machine.{Answers, GivesUp, Machine, Request, Step, command_conditions, done_by, edit_needs, look_up_needs, may_give_up}
use Rattle.geos_model.specs.Meaning.{chunk_at, conditions}
use Rattle.geos_model.specs.NameEdits.{names_in, token_of_text}
use Rattle.geos_model.specs.Refusal.{Conditions, applies, first_refusal, one_order}
use Rattle.geos_model.specs.Reply.{Reply, Refused, TokenIs, body_info, look_up, look_up_conditions}
use Rattle.geos_model.specs.declared.command.Body.{Body}
use Rattle.geos_model.specs.declared.command.Body.TheVariants as bodies
use Rattle.geos_model.specs.declared.command.Command.{Command}
use Rattle.geos_model.specs.declared.command.Command.TheVariants as commands
use Rattle.geos_model.specs.declared.command.Edit.{Edit}
use Rattle.geos_model.specs.declared.command.Edit.TheVariants as edits
use Rattle.geos_model.specs.declared.fault.Fault.{Fault}
use Rattle.geos_model.specs.declared.fault.Fault.TheVariants as faults
use Rattle.geos_model.proofs.Undoing.{IsAnswer, OnDone, both_true, done_by-answers, on_done, same_reply}
use Rattle.vm_store.specs.Facts.{StoreFacts, FailedSince}
use Rattle.vm_blocks.specs.Keeping.{IsEnvironmentFault}
use Rattle.vm_blocks.specs.Kinds.{IsWrongBlock}
use Rattle.vm_blocks.specs.Locking.{CantLock, HasNoLock}
use Rattle.vm_blocks.proofs.KeepingLaws.{lacks-cases}
use Rattle.vm_chains.specs.Answers.{IsWrongRoot}
use Rattle.vm_blocks.specs.State.{CacheState}
use Rattle.doc_edits.specs.Found.{is_among}
use Rattle.doc_edits.specs.LookUps.{IsArrayRootFault, IsRootFaultOf, AnswersFromBlocks, AnswersChainFromBlocks, answer_of}
use Rattle.doc_edits.specs.Planning.{IsLargeFault, IsManyBlocksFault, RefusesEdit}
use Rattle.doc_edits.specs.Room.{lacks_frames}
use Rattle.undo_log.specs.Committing.{IsSaveAsRefused}
use Rattle.undo_log.specs.Locking.{IsBarred}
use Rattle.undo_log.specs.Sessions.{SessionState, cache_of, failed_since, has_locked_blocks}
use Rattle.undo_log.specs.Turning.{CantApplyLog, IsNotAbandoned, IsRefusedUndoOrRedo, busy_fault, join_fault, name_fault}
use Rattle.undo_log.specs.Entries.{LogEntry}
use Rattle.undo_log.proofs.Keeping.{failed_true}
use Rattle.geos_replies.specs.Holdings.{failed_since_in, failed_with, holding}

-- where the session's store failed and no target was used up
pub failed_so : {S : Type 0} (facts : S → StoreFacts) (failed : Bool) (old new : Option S) → (new ≡ None → old ≡ None) → failed ≡ true → failed_with failed facts old new ≡ true
failed_so facts failed None new left so = so
failed_so facts failed (Some t) (Some back) left so = or_left failed (failed_since (facts t) (facts back)) so
failed_so facts failed (Some t) None left so = let none : Some t ≡ None = left refl in cc none

-- ---- what is no file fault

abbrev is_other : Fault → Bool
is_other faults.File = false
is_other fault = true

-- what is found in a list has what all of it has
found_all : (p q : Fault → Bool) (all : List Fault) (fault : Fault) → list_all q all ≡ true → find p all ≡ Some fault → q fault ≡ true
found_all p q [] fault each is = absurd (cc is)
found_all p q (f ∷ all) fault each is = elim (cases_Bool (p f)) [
  | inl e ↦ let some : Some f ≡ Some fault = rw e at is in let same : f ≡ fault = cc some in subst (λ x. q x ≡ true) same (both_true (q f) (list_all q all) each).0
  | inr e ↦ found_all p q all fault (both_true (q f) (list_all q all) each).1 (rw e at is)
]

-- no rule answers one
first_other : (conditions : Conditions) (fault : Fault) → first_refusal conditions ≡ Some fault → fault ≡ faults.File → ⊥
first_other conditions fault first is =
    let other : is_other fault ≡ true = found_all (applies conditions) is_other one_order fault refl first in
    let no : false ≡ true = sym (ap is_other is) ∙ other in
    cc no

info_other : (block : Option Block) → option_map (λ b. body_info b.attributes.user_id b.body) block ≡ Some (Refused faults.File) → ⊥
info_other None is = cc is
info_other (Some block) is = of_body block.body is
  where
    of_body : (body : Body) → Some (body_info block.attributes.user_id body) ≡ Some (Refused faults.File) → ⊥
    of_body (bodies.Raw bytes) is = cc is
    of_body (bodies.Heap chunks) is = cc is

name_other : (token : Option ℕ) → option_map TokenIs token ≡ Some (Refused faults.File) → ⊥
name_other None is = cc is
name_other (Some token) is = cc is

-- nor does a look-up that nothing refuses
look_up_other : (c : Command) (d : Document) → look_up c d ≡ Some (Refused faults.File) → ⊥
look_up_other (commands.Info b) d is = info_other (get d.blocks b.0) is
look_up_other (commands.NameFind b k text) d is = name_other (token_of_text (names_in (chunk_at d b.0 k.0)) text) is
look_up_other _ d is = cc is

answer_other : (refusal : Option Fault) (answer : Option Reply) → ((f : Fault) → refusal ≡ Some f → f ≡ faults.File → ⊥) → (answer ≡ Some (Refused faults.File) → ⊥)
    → option_map_or (λ fault. Some (Refused fault)) refusal answer ≡ Some (Refused faults.File) → ⊥
answer_other None answer first none is = none is
answer_other (Some f) answer first none is =
    let same : f ≡ faults.File = cc is in
    first f refl same

-- what the rules answer to a look-up, with room or without
rules_other : (no_room : Bool) (c : Command) (d : Document) (reply : Reply) → answer_of no_room c d ≡ Some reply → reply ≡ Refused faults.File → ⊥
rules_other no_room c d reply answers is =
    answer_other (first_refusal ((faults.CacheFull, no_room) ∷ look_up_conditions c d)) (look_up c d) (first_other ((faults.CacheFull, no_room) ∷ look_up_conditions c d)) (look_up_other c d)
    (answers ∙ ap Some is)

-- of a block of another kind, or of none
wrong_other : (is_kind : Document → ℕ → Bool) (d : Document) (h : ℕ) (fault : Fault) → IsWrongBlock is_kind d h fault → fault ≡ faults.File → ⊥
wrong_other is_kind d h fault (inl wrong) is = cc (wrong.0, is)
wrong_other is_kind d h fault (inr wrong) is = cc (wrong.0, is)

roots_other : (d : Document) (first second : ℕ) (fault : Fault) → IsWrongRoot d first second fault → fault ≡ faults.File → ⊥
roots_other d first second fault (inl wrong) is = wrong_other is_raw d first fault wrong is
roots_other d first second fault (inr wrong) is = wrong_other is_raw d second fault wrong is

-- of the root of a large array that is looked up
array_root_other : (own : List Fault) (d : Document) (b : ℕ) (fault : Fault) → is_among own faults.File ≡ false → IsArrayRootFault own d b fault → fault ≡ faults.File → ⊥
array_root_other own d b fault none (inl wrong) is = wrong_other is_raw d b fault wrong is
array_root_other own d b fault none (inr among) is = true≢false (sym among ∙ ap (is_among own) is ∙ none)

root_other : (c : Command) (d : Document) (fault : Fault) → IsRootFaultOf c d fault → fault ≡ faults.File → ⊥
root_other (commands.Walk b) d fault wrong is = wrong_other is_raw d b.0 fault wrong is
root_other (commands.ChainSize b) d fault wrong is = wrong_other is_raw d b.0 fault wrong is
root_other (commands.ChainEqual b other) d fault wrong is = roots_other d b.0 other.0 fault wrong is
root_other (commands.LargeCount b) d fault wrong is = array_root_other (faults.NotArray ∷ []) d b.0 fault refl wrong is
root_other (commands.LargeElement b i) d fault wrong is = array_root_other (faults.NotArray ∷ faults.NoElement ∷ []) d b.0 fault refl wrong is
root_other (commands.LargeRun b i n) d fault wrong is = array_root_other (faults.NotArray ∷ faults.NoElement ∷ faults.Range ∷ []) d b.0 fault refl wrong is
root_other _ d fault wrong is = wrong

-- of an edit of a large array
large_other : (given : List Fault) (d : Document) (b : ℕ) (fault : Fault) → is_among (given ++ faults.NotArray ∷ faults.BadChain ∷ faults.IsMap ∷ faults.NoHandles ∷ []) faults.File ≡ false → IsLargeFault given d b fault → fault ≡ faults.File → ⊥
large_other given d b fault none (inl wrong) is = wrong_other is_raw d b fault wrong is
large_other given d b fault none (inr among) is = true≢false (sym among ∙ ap (is_among (given ++ faults.NotArray ∷ faults.BadChain ∷ faults.IsMap ∷ faults.NoHandles ∷ [])) is ∙ none)

-- of an edit that looks into many blocks
chain_other : (e : Edit) (d : Document) (fault : Fault) → IsManyBlocksFault e d fault → fault ≡ faults.File → ⊥
chain_other (edits.CopyChain b) d fault (inl (inl wrong)) is = wrong_other is_raw d b.0 fault wrong is
chain_other (edits.CopyChain b) d fault (inl (inr bad)) is = cc (bad, is)
chain_other (edits.CopyChain b) d fault (inr none) is = cc (none, is)
chain_other (edits.FreeChain b) d fault (inl (inl wrong)) is = wrong_other is_raw d b.0 fault wrong is
chain_other (edits.FreeChain b) d fault (inl (inr bad)) is = cc (bad, is)
chain_other (edits.FreeChain b) d fault (inr map_block) is = cc (map_block, is)
chain_other (edits.InsertLarge b i bytes) d fault wrong is = large_other (faults.Range ∷ faults.TooBig ∷ []) d b.0 fault refl wrong is
chain_other (edits.SetLarge b i bytes) d fault wrong is = large_other (faults.NoElement ∷ faults.Range ∷ faults.TooBig ∷ []) d b.0 fault refl wrong is
chain_other (edits.DeleteLarge b i n) d fault wrong is = large_other (faults.NoElement ∷ []) d b.0 fault refl wrong is
chain_other _ d fault wrong is = wrong

-- of a group or a lock
held_other : (group locked : Bool) (fault : Fault) → (if group then Some faults.GroupOpen else if locked then Some faults.Locked else None) ≡ Some fault → fault ≡ faults.File → ⊥
held_other true locked fault held is = cc (held, is)
held_other false true fault held is = cc (held, is)
held_other false false fault held is = cc held

closed_other : (group locked : Bool) (fault : Fault) → (if group then (if locked then Some faults.Locked else None) else Some faults.NoGroup) ≡ Some fault → fault ≡ faults.File → ⊥
closed_other true true fault held is = cc (held, is)
closed_other true false fault held is = cc held
closed_other false locked fault held is = cc (held, is)

-- of what keeps steps from being joined
joined_other : (group few : Bool) (fault : Fault) → (if group then Some faults.GroupOpen else if few then Some faults.NothingToUndo else None) ≡ Some fault → fault ≡ faults.File → ⊥
joined_other true few fault held is = cc (held, is)
joined_other false true fault held is = cc (held, is)
joined_other false false fault held is = cc held

-- and a step from having a name
named_other : (group none long : Bool) (fault : Fault)
    → (if group then Some faults.GroupOpen else if none then Some faults.NothingToUndo else if long then Some faults.TooBig else None) ≡ Some fault → fault ≡ faults.File → ⊥
named_other true none long fault held is = cc (held, is)
named_other false true long fault held is = cc (held, is)
named_other false false true fault held is = cc (held, is)
named_other false false false fault held is = cc held

lock_other : {S : Type 0} (state : CacheState S) (h : ℕ) (fault : Fault) → CantLock state h fault → fault ≡ faults.File → ⊥
lock_other state h fault (inl none) is = cc (none.0, is)
lock_other state h fault (inr (inl most)) is = cc (most.0, is)
lock_other state h fault (inr (inr full)) is = cc (full.1.0, is)

unlock_other : {S : Type 0} (state : CacheState S) (h : ℕ) (fault : Fault) → HasNoLock state h fault → fault ≡ faults.File → ⊥
unlock_other state h fault (inl none) is = cc (none.0, is)
unlock_other state h fault (inr free) is = cc (free.0, is)

-- ---- when it is one

-- a fault that is a file fault only where the store failed
abbrev pub IsFailure : {S : Type 0} → (S → StoreFacts) → S → S → Fault → Type 0
IsFailure facts old new fault = fault ≡ faults.File → FailedSince (facts old) (facts new)

module _ {S : Type 0} (facts : S → StoreFacts) where
  -- where the session's store failed and the target is left, a store did
  pub failed_in : (old new : SessionState S) (target former : Option S) → FailedSince (facts old.disk.store) (facts new.disk.store)
      → IsTrue (failed_since_in facts (holding old target former) (holding new target former))
  failed_in old new target former raised =
      failed_so facts (failed_since (facts old.disk.store) (facts new.disk.store)) target target (λ none. none) (failed_true (facts old.disk.store) (facts new.disk.store) raised)

  lacked : (a b : S) (fault : Fault) → IsEnvironmentFault facts a b fault → IsFailure facts a b fault
  lacked a b fault lacks is = elim (lacks-cases facts a b fault lacks) as (λ _. FailedSince (facts a) (facts b)) [
    | inl memory ↦ cc (memory, is)
    | inr (inl failed) ↦ failed.1
    | inr (inr damage) ↦ cc (damage.0, is)
  ]

  -- of a commit
  pub file_commit : {A : Type 0} (old new : SessionState S) (r : Result A Fault) → (IsErrOf r faults.File → FailedSince (facts old.disk.store) (facts new.disk.store))
      → IfErr r (IsFailure facts old.disk.store new.disk.store)
  file_commit old new (Ok x) file = tt
  file_commit old new (Err fault) file = λ is. file (ap Err is)

  -- of what has one fault of its own
  pub file_wrong : {A : Type 0} (P Q : Type 0) (a b : S) (wrong : Fault) → (wrong ≡ faults.File → ⊥) → (r : Result A Fault) → IfErr r (λ fault. (fault ≡ wrong) × P × Q) → IfErr r (IsFailure facts a b)
  file_wrong P Q a b wrong other (Ok x) h = tt
  file_wrong P Q a b wrong other (Err fault) h = λ is. absurd (other (sym h.0 ∙ is))

  -- of an edit
  pub file_edit : {A : Type 0} (e : Edit) (old new : SessionState S) (r : Result A Fault)
      → IfErr r (λ fault. IsBarred e old fault ⊎ (RefusesEdit (IsEnvironmentFault facts old.disk.store new.disk.store) (lacks_frames (cache_of old) (edit_needs e)) e new.document fault ⊎ IsManyBlocksFault e old.document fault))
      → IfErr r (IsFailure facts old.disk.store new.disk.store)
  file_edit e old new (Ok x) refusals = tt
  file_edit e old new (Err fault) (inl barred) = λ is. cc (barred.0, is)
  file_edit e old new (Err fault) (inr (inl (inl lacks))) = lacked old.disk.store new.disk.store fault lacks
  file_edit e old new (Err fault) (inr (inl (inr first))) = λ is. absurd (first_other ((faults.CacheFull, lacks_frames (cache_of old) (edit_needs e)) ∷ conditions e new.document) fault first is)
  file_edit e old new (Err fault) (inr (inr chain)) = λ is. absurd (chain_other e old.document fault chain is)

  cant_apply : (old new : SessionState S) (fault : Fault) → CantApplyLog facts old new fault → IsFailure facts old.disk.store new.disk.store fault
  cant_apply old new fault (inl lacks) is = lacked old.disk.store new.disk.store fault lacks is
  cant_apply old new fault (inr damaged) is = cc (damaged.0, is)

  -- of an undo or a redo
  pub file_turn : {A : Type 0} (nothing : Fault) (from : List LogEntry) (old new : SessionState S) → (nothing ≡ faults.File → ⊥) → (r : Result A Fault) → IfErr r (IsRefusedUndoOrRedo facts nothing from old new)
      → IfErr r (IsFailure facts old.disk.store new.disk.store)
  file_turn nothing from old new other (Ok x) refusals = tt
  file_turn nothing from old new other (Err fault) (inl held) = λ is. absurd (held_other (is_some old.log.group) (has_locked_blocks old) fault held.0 is)
  file_turn nothing from old new other (Err fault) (inr (free, inl none)) = λ is. absurd (other (sym none.1 ∙ is))
  file_turn nothing from old new other (Err fault) (inr (free, inr cant)) = cant_apply old new fault cant.1

  -- of an abandon
  pub file_abandon : {A : Type 0} (old new : SessionState S) (r : Result A Fault) → IfErr r (IsNotAbandoned facts old new) → IfErr r (IsFailure facts old.disk.store new.disk.store)
  file_abandon old new (Ok x) refusals = tt
  file_abandon old new (Err fault) (inl held) = λ is. absurd (closed_other (is_some old.log.group) (has_locked_blocks old) fault held.0 is)
  file_abandon old new (Err fault) (inr cant) = cant_apply old new fault cant.2

  -- of a join
  pub file_join : {A : Type 0} (old new : SessionState S) (r : Result A Fault) → IfErr r (λ fault. (join_fault old ≡ Some fault) ⊎ ((join_fault old ≡ None) × (fault ≡ faults.Memory)))
      → IfErr r (IsFailure facts old.disk.store new.disk.store)
  file_join old new (Ok x) refusals = tt
  file_join old new (Err fault) (inl held) = λ is. absurd (joined_other (is_some old.log.group) (nat_lt (length old.log.undo) 2) fault held is)
  file_join old new (Err fault) (inr memory) = λ is. cc (memory.1, is)

  -- of a name
  pub file_name : {A : Type 0} (old new : SessionState S) (name : List ℕ) (r : Result A Fault)
      → IfErr r (λ fault. (name_fault (length name) old ≡ Some fault) ⊎ ((name_fault (length name) old ≡ None) × (name ≢ []) × (fault ≡ faults.Memory)))
      → IfErr r (IsFailure facts old.disk.store new.disk.store)
  file_name old new name (Ok x) refusals = tt
  file_name old new name (Err fault) (inl held) = λ is. absurd (named_other (is_some old.log.group) (length old.log.undo == 0) (nat_lt longest_name (length name)) fault held is)
  file_name old new name (Err fault) (inr memory) = λ is. cc (memory.2, is)

  -- of a lock, and of what uses one
  pub file_lock : {A : Type 0} (h : ℕ) (old new : SessionState S) (r : Result A Fault)
      → IfErr r (λ fault. IsEnvironmentFault facts old.disk.store new.disk.store fault ⊎ CantLock (cache_of old) h fault) → IfErr r (IsFailure facts old.disk.store new.disk.store)
  file_lock h old new (Ok x) refusals = tt
  file_lock h old new (Err fault) (inl lacks) = lacked old.disk.store new.disk.store fault lacks
  file_lock h old new (Err fault) (inr cant) = λ is. absurd (lock_other (cache_of old) h fault cant is)

  pub file_unlock : {A : Type 0} (h : ℕ) (old new : SessionState S) (r : Result A Fault) → IfErr r (HasNoLock (cache_of old) h) → IfErr r (IsFailure facts old.disk.store new.disk.store)
  file_unlock h old new (Ok x) refusals = tt
  file_unlock h old new (Err fault) none = λ is. absurd (unlock_other (cache_of old) h fault none is)

  -- of a save-as, in which the target may have failed
  pub file_save_as : (old new : SessionState S) (target back : S) (former : Option S) (fault : Fault) → IsSaveAsRefused facts target back old new fault
      → ((f : Fault) → busy_fault old ≡ Some f → fault ≡ f) → fault ≡ faults.File → IsTrue (failed_since_in facts (holding old (Some target) former) (holding new (Some back) former))
  file_save_as old new target back former fault refused held is = by (busy_fault old) refl
    where
      either : FailedSince (facts old.disk.store) (facts new.disk.store) ⊎ FailedSince (facts target) (facts back)
          → IsTrue (failed_since_in facts (holding old (Some target) former) (holding new (Some back) former))
      either (inl raised) =
          or_left (failed_since (facts old.disk.store) (facts new.disk.store)) (failed_since (facts target) (facts back)) (failed_true (facts old.disk.store) (facts new.disk.store) raised)
      either (inr raised) =
          or_right (failed_since (facts old.disk.store) (facts new.disk.store)) (failed_since (facts target) (facts back)) (failed_true (facts target) (facts back) raised)

      by : (busy : Option Fault) → busy_fault old ≡ busy → IsTrue (failed_since_in facts (holding old (Some target) former) (holding new (Some back) former))
      by (Some f) busy = absurd (held_other (is_some old.log.group) (has_locked_blocks old) f busy
          (sym (held f busy) ∙ is))
      by None free = either ((refused.free free).file is)

  -- of a look-up
  pub file_seen : (old new : SessionState S) (c : Command) (reply : Reply) → AnswersFromBlocks facts (cache_of old) (cache_of new) c reply → reply ≡ Refused faults.File
      → FailedSince (facts old.disk.store) (facts new.disk.store)
  file_seen old new c reply sees is = elim sees.value as (λ _. FailedSince (facts old.disk.store) (facts new.disk.store)) [
    | inl lacks ↦
        let both : Refused lacks.0 ≡ Refused faults.File = sym lacks.2 ∙ is in
        let same : lacks.0 ≡ faults.File = cc both in
        lacked old.disk.store new.disk.store lacks.0 lacks.1 same
    | inr answers ↦ absurd (rules_other (lacks_frames (cache_of old) (look_up_needs c)) c new.document reply answers is)
  ]

  -- along chains
  pub file_along : (old new : SessionState S) (c : Command) (reply : Reply) → AnswersChainFromBlocks facts (cache_of old) (cache_of new) c reply → reply ≡ Refused faults.File
      → FailedSince (facts old.disk.store) (facts new.disk.store)
  file_along old new c reply sees is = elim (sees.refusals faults.File is) as (λ _. FailedSince (facts old.disk.store) (facts new.disk.store)) [
    | inl (inl lacks) ↦ lacked old.disk.store new.disk.store faults.File lacks refl
    | inl (inr (inl wrong)) ↦ absurd (root_other c old.document faults.File wrong refl)
    | inl (inr (inr bad)) ↦ let no : faults.File ≡ faults.BadChain = bad in cc no
    | inr full ↦ let no : faults.File ≡ faults.CacheFull = full.0 in cc no
  ]

-- ---- a call that calls no store

given_other : (refusal : Option Fault) (m new : Machine) (after : Option (Reply × Machine)) → ((f : Fault) → refusal ≡ Some f → f ≡ faults.File → ⊥) → OnDone IsAnswer after
    → option_map_or {U = Option (Reply × Machine)} (λ fault. Some (Refused fault, m)) refusal after ≡ Some (Refused faults.File, new) → ⊥
given_other None m new after first answers is =
    let no : true ≡ false = on_done IsAnswer after (Refused faults.File) new answers is in
    cc no
given_other (Some f) m new after first answers is =
    let told : Refused f ≡ Refused faults.File = same_reply is in
    let same : f ≡ faults.File = cc told in
    first f refl same

machine_other : (old new : Machine) (request : Request) → Answers old request (Refused faults.File) new → ⊥
machine_other old new None is =
    let told : Refused faults.BadCommand ≡ Refused faults.File = same_reply is in
    cc told
machine_other old new (Some c) is =
    given_other (first_refusal (command_conditions c old)) old new (done_by c old) (first_other (command_conditions c old)) (done_by-answers c old) is

may_other : (old : Machine) (request : Request) → option_map_or (λ c. may_give_up false c old faults.File) request false ≡ true → ⊥
may_other old None may = cc may
may_other old (Some c) may = cc may

gives_up_other : (old new : Machine) (request : Request) → GivesUp false old request (Refused faults.File) new → ⊥
gives_up_other old new request out =
    let says : Refused faults.File ≡ Refused out.fault = out.says in
    let same : out.fault ≡ faults.File = cc says in
    may_other old request (subst (λ (f : Fault). option_map_or (λ c. may_give_up false c old f) request false ≡ true) same out.may)

step_other : (old new : Machine) (request : Request) → Step false old request (Refused faults.File) new → ⊥
step_other old new request (inl answers) = machine_other old new request answers
step_other old new request (inr out) = gives_up_other old new request out

-- it answers none
pub file_at_rest : {P : Type 0} (old new : Machine) (request : Request) (reply : Reply) → Step false old request reply new → reply ≡ Refused faults.File → P
file_at_rest old new request reply step is = absurd (step_other old new request (subst (λ (r : Reply). Step false old request r new) is step))
