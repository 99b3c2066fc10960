-- What a step from one list of the log to the other leaves, and taking back the group that is open; and when either is
-- sure or refused.
use Rattle.std.proofs.Common.{◌≡◌, ◌≢◌, ℕ, Bool, true, false, not, IsTrue, List, [], ◌∷◌, ◌++◌, ◌==◌, length, map, reverse, Option, Some, None, is_some, inl, inr, refl, sym, ap, subst, ◌∙◌, arith}
use Rattle.std.specs.Prelude.{if◌then◌else◌, Result, Ok, Err, IsOk, IfErr}
use Rattle.std.specs.Option.{option_map}
use Rattle.std.proofs.lemmas.Bool.{true≢false}
use Rattle.std.proofs.lemmas.List.{length-reverse}
use Rattle.geos_model.specs.Document.{Document}
use Rattle.geos_model.specs.Machine as machine
use Rattle.geos_model.specs.Machine.{Machine, Step, calls_store, newest_takes, takes_memory, undo_takes, redo_takes, has_edits}
use Rattle.geos_model.specs.Refusal.{first_refusal}
use Rattle.geos_model.specs.Reply.{Accepted, Refused}
use Rattle.geos_model.specs.declared.command.Command.TheVariants as commands
use Rattle.geos_model.specs.declared.command.Kind.{Kind}
use Rattle.geos_model.specs.declared.fault.Fault.{Fault}
use Rattle.geos_model.specs.declared.fault.Fault.TheVariants.{GroupOpen, Locked, NoGroup, NothingToUndo, NothingToRedo}
use Rattle.vm_store.specs.Facts.{StoreFacts}
use Rattle.document_file.specs.Disk.{SameUnlessCorrupt, KeepsCommitted}
use Rattle.vm_blocks.specs.State.{CacheState, KeepsLocks, ResidentBlock, locks_of}
use Rattle.vm_blocks.specs.Changes.{after_change, directed, CanApply}
use Rattle.vm_blocks.specs.Keeping.{IsEnvironmentFault, is_full}
use Rattle.vm_blocks.specs.Preparing as preparing
use Rattle.vm_blocks.specs.Preparing.{AllowAll, AreUnlocked, CantPrepareAll, IsShutOut, CantPrepare, AreApplied}
use Rattle.vm_blocks.specs.declared.change.Change.{Change}
use Rattle.vm_blocks.specs.declared.change.Change.TheVariants as changes
use Rattle.chunk_edits.specs.declared.direction.Direction.{Direction}
use Rattle.chunk_edits.specs.declared.direction.Direction.TheVariants.{Forwards, Backwards}
use Rattle.vm_blocks.proofs.KeepingLaws.{honest-steady, open-shut}
use Rattle.vm_blocks.proofs.Preparing.{applies_takes}
use Rattle.doc_edits.specs.Planning.{kind_of_change}
use Rattle.undo_log.specs.Logging.{AreExclusive, IsHead, Log, abandoned_log, after_all, after_entry, all_changes, before, group_of, kind_of_entry, next_entries, next_moved, open_changes, entry_steps, to_redo, to_undo, reversed_entry}
use Rattle.undo_log.specs.Sessions.{SessionState, cache_of, has_locked_blocks, machine_of, opposite, CanApplyAllDirected, AreSteps, IsExact, IsStep, KeepsSession}
use Rattle.undo_log.specs.Turning.{IsEntryApplied, MovesEntry, CanApplyEntry, CantApply, CantApplyEntry, CantApplyLog, IsSure, IsSureKind, abandon_fault, newest_made, no_step_fault, step_command, busy_fault}
use Rattle.undo_log.specs.Entries.{LogEntry}
use Rattle.undo_log.specs.Entries as entries
use Rattle.undo_log.proofs.Answers.{abandon_moved, some_steps, turn_answers}
use Rattle.undo_log.proofs.Directions.{log_by, log_moved, log_was, next_of, none_of, opposite_of, steps_by, steps_of, turned}
use Rattle.undo_log.proofs.Keeping.{answers_on, gives_up, kept_exact, kept_machine, machine_with, passed_machine}
use Rattle.undo_log.proofs.Steps.{all_back, can_split, moved_entry}

-- whether carrying a step of this kind out may take memory
abbrev turn_takes : Direction → Kind → Bool
turn_takes Forwards kind = redo_takes kind
turn_takes Backwards kind = undo_takes kind

-- Where there is room nothing is out of reach,
pub within : {S : Type 0} (c : Change) (state : CacheState S) → is_full state ≡ false → IsShutOut c state → ⊥
within (changes.BlocksIn ms) state room out = out
within (changes.BlocksOut ms) state room out = out
within (changes.Part b part) state room out = true≢false (sym out ∙ open-shut state b.0 room)
within (changes.Attributes b old new) state room out = out
within (changes.Map old new) state room out = out

-- and where no block is locked none that goes is.
pub none_locked : (c : Change) (ss : List ResidentBlock) → ((h : ℕ) → locks_of ss h ≡ 0) → AreUnlocked c ss
none_locked (changes.BlocksIn ms) ss none = tt
none_locked (changes.BlocksOut ms) ss none = λ i d within. none _
none_locked (changes.Part b part) ss none = tt
none_locked (changes.Attributes b old new) ss none = tt
none_locked (changes.Map old new) ss none = tt

-- Changes that can be taken one after another are taken by the bodies.
all_take : (direction : Direction) (cs : List Change) (d : Document) → CanApplyAllDirected direction cs d → AllowAll (map (directed direction) cs) d
all_take direction [] d can = tt
all_take direction (c ∷ cs) d can = (applies_takes (directed direction c) d can.0, all_take direction cs (after_change (directed direction c) d) can.1)

-- so in the words of blocks
pub all_apply : (direction : Direction) (cs : List Change) (d : Document) → CanApplyAllDirected direction cs d → preparing.CanApplyAll (map (directed direction) cs) d
all_apply direction [] d can = tt
all_apply direction (c ∷ cs) d can = (can.0, all_apply direction cs (after_change (directed direction c) d) can.1)

-- What is refused before all else of a session is so of its machine.

pub group_open : {A B : Type 0} (f : A → B) (o : Option A) → is_some (option_map f o) ≡ is_some o
group_open f None = refl
group_open f (Some x) = refl

-- where nothing is, no group is open and no block is locked
pub at_rest : {S : Type 0} (s : SessionState S) → busy_fault s ≡ None → (is_some s.log.group ≡ false) × (has_locked_blocks s ≡ false)
at_rest s free = by_parts (is_some s.log.group) (has_locked_blocks s) free
  where
    by_parts : (is_open locked : Bool) → (if is_open then Some GroupOpen else if locked then Some Locked else None) ≡ None → (is_open ≡ false) × (locked ≡ false)
    by_parts true locked is = absurd (cc is)
    by_parts false true is = absurd (cc is)
    by_parts false false is = (refl, refl)

-- a list with a first entry isn't empty
pub some_newest : (e : LogEntry) (from : List LogEntry) → IsHead e from → from ≢ []
some_newest e from first none = let no : e ∷ first.others ≡ [] = sym first.are ∙ none in absurd (cc no)

pub none_open : {S : Type 0} (s : SessionState S) → busy_fault s ≡ None → s.log.group ≡ None
none_open s free = by_group s.log.group (at_rest s free).0
  where
    by_group : (o : Option (List Change)) → is_some o ≡ false → o ≡ None
    by_group None is = refl
    by_group (Some cs) is = absurd (cc is)

-- A group that couldn't be taken back has changes.
pub some_changes : (cs items : List Change) → reverse items ≡ cs → (result : Result (Unit {0}) Fault) (fault : Fault) → result ≡ Err fault → (P : Type 0) → (items ≡ [] → IsOk result × P) → cs ≢ []
some_changes cs [] is result fault was P none empty = not_both result was (none refl).0
  where
    not_both : (r : Result (Unit {0}) Fault) → r ≡ Err fault → IsOk r → ⊥
    not_both (Ok x) is accepted = cc is
    not_both (Err f) is accepted = cc accepted
some_changes cs (x ∷ xs) is result fault was P none empty = reversed x xs (is ∙ empty)
  where
    reversed : (x : Change) (xs : List Change) → reverse (x ∷ xs) ≡ [] → ⊥
    reversed x xs same = let long : length (reverse (x ∷ xs)) ≡ 0 = ap length same in let as_long = length-reverse (x ∷ xs) in absurd (omega (arith, long, as_long))

-- where nothing keeps a group from being abandoned, one is open and no block is locked
pub abandon_free : {S : Type 0} (s : SessionState S) → abandon_fault s ≡ None → (s.log.group ≡ Some (open_changes s.log.group)) × (has_locked_blocks s ≡ false)
abandon_free s free = by_parts s.log.group (has_locked_blocks s) free
  where
    by_parts : (group : Option (List Change)) (locked : Bool) → (if is_some group then (if locked then Some Locked else None) else Some NoGroup) ≡ None → (group ≡ Some (open_changes group)) × (locked ≡ false)
    by_parts None locked is = absurd (cc is)
    by_parts (Some cs) true is = absurd (cc is)
    by_parts (Some cs) false is = (refl, refl)

module _ {S : Type 0} (facts : S → StoreFacts) where
  pub unready_cant : (c : Change) (old new : CacheState S) (fault : Fault) → is_full old ≡ false → CantPrepare facts c old new fault → CantApply facts c old new fault
  unready_cant c old new fault room unready = elim unready as (λ _. CantApply facts c old new fault) [
    | inl lacks ↦ inl lacks
    | inr (inl damaged) ↦ inr damaged
    | inr (inr out) ↦ absurd (within c old room out.1)
  ]

  pub unready_refuses : (c : Change) (old new : CacheState S) (result : Result (Unit {0}) Fault) → is_full old ≡ false → IfErr result (CantPrepare facts c old new) → IfErr result (CantApply facts c old new)
  unready_refuses c old new (Ok x) room refused = tt
  unready_refuses c old new (Err fault) room refused = unready_cant c old new fault room refused

  -- What an entry makes passes, and drifts from what it means.
  pub entry_passes : (direction : Direction) (e : LogEntry) (old new : CacheState S) → IsEntryApplied facts direction e old new → KeepsCommitted facts old.disk new.disk
  entry_passes direction (entries.One c) old new makes = makes.passes
  entry_passes direction (entries.Group cs) old new makes = makes.passes

  pub entry_document : (direction : Direction) (e : LogEntry) (old new : CacheState S) → IsEntryApplied facts direction e old new → SameUnlessCorrupt (facts old.disk.store).honest (after_entry direction e old.document) new.document
  entry_document direction (entries.One c) old new makes = makes.document
  entry_document direction (entries.Group cs) old new makes = makes.document

  entry_frames : (direction : Direction) (e : LogEntry) (old new : CacheState S) → IsEntryApplied facts direction e old new → new.frames ≡ old.frames
  entry_frames direction (entries.One c) old new makes = makes.frames
  entry_frames direction (entries.Group cs) old new makes = makes.frames

  entry_locks : (direction : Direction) (e : LogEntry) (old new : CacheState S) → IsEntryApplied facts direction e old new → KeepsLocks old.resident new.resident
  entry_locks direction (entries.One c) old new makes = makes.locks
  entry_locks direction (entries.Group cs) old new makes = makes.locks

  -- What isn't sure may take memory.
  one_may_take : (direction : Direction) (c : Change) (state : CacheState S) → (CanApplyEntry direction (entries.One c) state → ⊥) → turn_takes direction (kind_of_change c) ≡ true
  one_may_take Forwards (changes.BlocksIn ms) state unsure = refl
  one_may_take Forwards (changes.BlocksOut ms) state unsure = absurd (unsure (refl, tt, tt))
  one_may_take Forwards (changes.Part b part) state unsure = refl
  one_may_take Forwards (changes.Attributes b old new) state unsure = absurd (unsure (refl, tt, tt))
  one_may_take Forwards (changes.Map old new) state unsure = absurd (unsure (refl, tt, tt))
  one_may_take Backwards (changes.BlocksIn ms) state unsure = absurd (unsure (refl, tt, tt))
  one_may_take Backwards (changes.BlocksOut ms) state unsure = refl
  one_may_take Backwards (changes.Part b part) state unsure = refl
  one_may_take Backwards (changes.Attributes b old new) state unsure = absurd (unsure (refl, tt, tt))
  one_may_take Backwards (changes.Map old new) state unsure = absurd (unsure (refl, tt, tt))

  may_take : (direction : Direction) (e : LogEntry) (state : CacheState S) → (CanApplyEntry direction e state → ⊥) → turn_takes direction (kind_of_entry e) ≡ true
  may_take direction (entries.One c) state unsure = one_may_take direction c state unsure
  may_take Forwards (entries.Group cs) state unsure = refl
  may_take Backwards (entries.Group cs) state unsure = refl

  -- What is sure can be taken.
  sure_one : (s : SessionState S) (direction : Direction) (c : Change) → (IsExact facts s → CanApply (directed direction c) s.document) → IsSureKind facts s direction (kind_of_change c)
      → CanApplyEntry direction (entries.One c) (cache_of s)
  sure_one s Forwards (changes.BlocksIn ms) applies sure = absurd sure
  sure_one s Forwards (changes.BlocksOut ms) applies sure = (refl, tt, tt)
  sure_one s Forwards (changes.Part b part) applies sure = (refl, sure.1, applies_takes (directed Forwards (changes.Part b part)) s.document (applies sure.0))
  sure_one s Forwards (changes.Attributes b old new) applies sure = (refl, tt, tt)
  sure_one s Forwards (changes.Map old new) applies sure = (refl, tt, tt)
  sure_one s Backwards (changes.BlocksIn ms) applies sure = (refl, tt, tt)
  sure_one s Backwards (changes.BlocksOut ms) applies sure = absurd sure
  sure_one s Backwards (changes.Part b part) applies sure = (refl, sure.1, applies_takes (directed Backwards (changes.Part b part)) s.document (applies sure.0))
  sure_one s Backwards (changes.Attributes b old new) applies sure = (refl, tt, tt)
  sure_one s Backwards (changes.Map old new) applies sure = (refl, tt, tt)

  sure_entry : (s : SessionState S) (direction : Direction) (e : LogEntry) (es : List LogEntry) → (IsExact facts s → CanApplyAllDirected direction (all_changes (e ∷ es)) s.document) → IsSure facts s direction (e ∷ es)
      → CanApplyEntry direction e (cache_of s)
  sure_entry s direction (entries.One c) es can sure = sure_one s direction c (λ exact. (can exact).0) sure
  sure_entry s direction (entries.Group cs) es can sure = (sure.none_comes_in, sure.in_memory, (can_split direction cs (all_changes es) s.document (can sure.exact)).0)

  -- the newest of a list is
  pub sure_turns : (s : SessionState S) (direction : Direction) (e : LogEntry) (from : List LogEntry) → IsHead e from → (IsExact facts s → CanApplyAllDirected direction (all_changes from) s.document) → IsSure facts s direction from
      → CanApplyEntry direction e (cache_of s)
  sure_turns s direction e from first can sure =
      sure_entry s direction e first.others (λ exact. subst (λ (es : List LogEntry). CanApplyAllDirected direction (all_changes es) s.document) first.are (can exact)) (subst (IsSure facts s direction) first.are sure)

  pub newest_is : (direction : Direction) (e : LogEntry) (from : List LogEntry) (d : Document) → IsHead e from → after_entry direction e d ≡ newest_made direction from d
  newest_is direction e from d first = ap (λ (es : List LogEntry). newest_made direction es d) (sym first.are)

  pub none_sure : (s : SessionState S) (direction : Direction) (from : List LogEntry) → from ≡ [] → IsSure facts s direction from → ⊥
  none_sure s direction from none sure = subst (IsSure facts s direction) none sure

  -- What can be taken of an exact session in which no group is open.
  pub next_can : (s : SessionState S) (direction : Direction) → busy_fault s ≡ None → IsExact facts s → CanApplyAllDirected direction (all_changes (next_entries direction s.log)) s.document
  next_can s direction free exact = (steps_by direction s.document s.log (none_open s free) exact.steps).first

  pub newest_can : (direction : Direction) (e : LogEntry) (from : List LogEntry) (d : Document) → (first : IsHead e from) → CanApplyAllDirected direction (all_changes from) d → CanApplyAllDirected direction (all_changes (e ∷ first.others)) d
  newest_can direction e from d first can = subst (λ (es : List LogEntry). CanApplyAllDirected direction (all_changes es) d) first.are can

  -- What can be made isn't refused.
  pub never_refused : (direction : Direction) (e : LogEntry) (old new : CacheState S) (fault : Fault) (result : Result (Unit {0}) Fault) → result ≡ Err fault
      → (CanApplyEntry direction e old → IsOk result × (new.disk ≡ old.disk) × (new.document ≡ after_entry direction e old.document)) → CanApplyEntry direction e old → ⊥
  never_refused direction e old new fault result was sure can = not_both result was (sure can).0
    where
      not_both : (r : Result (Unit {0}) Fault) → r ≡ Err fault → IsOk r → ⊥
      not_both (Ok x) is accepted = cc is
      not_both (Err f) is accepted = cc accepted

  module _ (old new : SessionState S) where
    -- Why an entry can't be made, in a session.
    pub cant_take : (direction : Direction) (fault : Fault) (e : LogEntry) (es : List LogEntry) → (IsExact facts old → CanApplyAllDirected direction (all_changes (e ∷ es)) old.document) → CantApplyEntry facts direction e (cache_of old) (cache_of new) fault
        → CantApplyLog facts old new fault
    cant_take direction fault (entries.One c) es can unready = elim unready as (λ _. CantApplyLog facts old new fault) [
      | inl lacks ↦ inl lacks
      | inr damaged ↦ inr (damaged.0, λ exact. damaged.1 (honest-steady facts old.disk.store exact.honest) (applies_takes (directed direction c) old.document (can exact).0))
    ]
    cant_take direction fault (entries.Group cs) es can unready = elim unready as (λ _. CantApplyLog facts old new fault) [
      | inl lacks ↦ inl lacks
      | inr damaged ↦ inr (damaged.0, λ exact. damaged.1 (honest-steady facts old.disk.store exact.honest) (all_take direction cs old.document (can_split direction cs (all_changes es) old.document (can exact)).0))
    ]

    -- so that it is for what the call may lack where it is exact
    lacking : (fault : Fault) → IsExact facts old → CantApplyLog facts old new fault → IsEnvironmentFault facts old.disk.store new.disk.store fault
    lacking fault exact why = elim why as (λ _. IsEnvironmentFault facts old.disk.store new.disk.store fault) [
      | inl lacks ↦ lacks
      | inr damaged ↦ absurd (damaged.1 exact)
    ]

    newest_may : (direction : Direction) (e : LogEntry) (es from : List LogEntry) (d : Document) → from ≡ e ∷ es → (CanApplyEntry direction e (cache_of old) → ⊥) → newest_takes (turn_takes direction) (entry_steps direction from d) ≡ true
    newest_may direction e es from d is unsure = ap (λ (xs : List LogEntry). newest_takes (turn_takes direction) (entry_steps direction xs d)) is ∙ may_take direction e (cache_of old) unsure

    may_turn : (direction : Direction) (e : LogEntry) → IsHead e (next_entries direction old.log) → (CanApplyEntry direction e (cache_of old) → ⊥) → (target : Bool)
        → (takes_memory (step_command direction) (machine_of target old) ≡ true) × (calls_store (step_command direction) (machine_of target old) ≡ true)
    may_turn Backwards e first unsure target = let takes = newest_may Backwards e first.others old.log.undo (before old.log.group old.document) first.are unsure in (takes, takes)
    may_turn Forwards e first unsure target = let takes = newest_may Forwards e first.others old.log.redo old.document first.are unsure in (takes, takes)

    module _ (direction : Direction) (e : LogEntry) (first : IsHead e (next_entries direction old.log)) where
      -- The next entry in a direction isn't made,
      pub turn_refused : (fault : Fault) → KeepsSession facts old new → (CanApplyEntry direction e (cache_of old) → ⊥) → CantApplyLog facts old new fault → IsStep facts old new (step_command direction) (Refused fault)
      turn_refused fault keeps unsure why = λ exact. (
        kept_exact facts old new keeps exact,
        λ target.
            let may = may_turn direction e first unsure target in
            gives_up facts old.disk.store new.disk.store (machine_of target old) (machine_of target new) (step_command direction) fault exact.honest (lacking fault exact why) (kept_machine facts old new keeps target exact) may.0 may.1,
      )

      -- or it is.
      module _ (free : busy_fault old ≡ None) (log : new.log ≡ next_moved direction old.log) (makes : IsEntryApplied facts direction e (cache_of old) (cache_of new)) where
        abbrev others : List LogEntry
        others = next_entries (opposite direction) old.log

        abbrev after : Log
        after = turned direction e old.log

        log_is : new.log ≡ log_by direction after first.others (reversed_entry e ∷ others)
        log_is = log ∙ log_moved e old.log (none_open old free) direction first

        pub turn_moves : MovesEntry facts direction (cache_of old) (cache_of new) (next_entries direction old.log) others (next_entries direction new.log) (next_entries (opposite direction) new.log)
        turn_moves = record {
          entry = e;
          makes = makes;
          from_was = first.are ∙ ap (λ (es : List LogEntry). e ∷ es) (sym (ap (next_entries direction) log_is ∙ next_of direction after first.others (reversed_entry e ∷ others)));
          to_is = ap (next_entries (opposite direction)) log_is ∙ opposite_of direction after first.others (reversed_entry e ∷ others);
        }

        pub turn_group : new.log.group ≡ old.log.group
        turn_group = ap (λ (l : Log). l.group) log_is ∙ none_of direction after first.others (reversed_entry e ∷ others) ∙ sym (none_open old free)

        pub turn_taken : IsStep facts old new (step_command direction) Accepted
        turn_taken = λ exact.
            let so = exact.honest in
            let passes = entry_passes direction e (cache_of old) (cache_of new) makes in
            let document : new.document ≡ after_entry direction e old.document = (entry_document direction e (cache_of old) (cache_of new) makes).same so in
            let are : AreSteps direction old.document (all_changes (e ∷ first.others)) (all_changes others) =
            subst (λ (es : List LogEntry). AreSteps direction old.document (all_changes es) (all_changes others)) first.are (steps_by direction old.document old.log (none_open old free) exact.steps) in
            let moved = steps_of direction (after_entry direction e old.document) after first.others (reversed_entry e ∷ others) (moved_entry direction old.document e first.others others are) in (
              record {
                honest = subst IsTrue (sym passes.honest) so;
                steps = subst (λ (d : Document). AreSteps Backwards d (to_undo new.log) (to_redo new.log)) (sym document)
                    (subst (λ (l : Log). AreSteps Backwards (after_entry direction e old.document) (to_undo l) (to_redo l)) (sym log_is) moved);
              },
              λ target.
                  let m = machine_of target old in
                  let is = passed_machine facts old new target so passes (entry_frames direction e (cache_of old) (cache_of new) makes) (entry_locks direction e (cache_of old) (cache_of new) makes)
                  ∙ ap (λ (d : Document). machine_with m d new.log) document ∙ ap (λ (l : Log). machine_with m (after_entry direction e old.document) l) log_is in
                  inl (answers_on m _ (machine_of target new) _ (Some (step_command direction)) Accepted (ap (λ (l : Log). machine_with m old.document l) (log_was e old.log (none_open old free) direction first)) is
                  (turn_answers direction m old.document old.log e first.others others (at_rest old free).1 are)),
            )

  -- It is refused before all else.
  module _ (s : SessionState S) (fault : Fault) (held : busy_fault s ≡ Some fault) where
    held_first : (nothing : Fault) → ((is_open locked none : Bool) → (if is_open then Some GroupOpen else if locked then Some Locked else None) ≡ Some fault
        → first_refusal ((nothing, none) ∷ (GroupOpen, is_open) ∷ (Locked, locked) ∷ []) ≡ Some fault)
        → (target none : Bool) → first_refusal ((nothing, none) ∷ machine.at_rest (machine_of target s)) ≡ Some fault
    held_first nothing by_parts target none =
        ap (λ (x : Bool). first_refusal ((nothing, none) ∷ (GroupOpen, x) ∷ (Locked, has_locked_blocks s) ∷ [])) (group_open (group_of s.document) s.log.group) ∙ by_parts (is_some s.log.group) (has_locked_blocks s) none held

    parts_first : (direction : Direction) (is_open locked none : Bool) → (if is_open then Some GroupOpen else if locked then Some Locked else None) ≡ Some fault
        → first_refusal ((no_step_fault direction, none) ∷ (GroupOpen, is_open) ∷ (Locked, locked) ∷ []) ≡ Some fault
    parts_first Backwards true locked none is = is
    parts_first Backwards false true none is = is
    parts_first Backwards false false none is = absurd (cc is)
    parts_first Forwards true locked none is = is
    parts_first Forwards false true none is = is
    parts_first Forwards false false none is = absurd (cc is)

    pub turn_held : (direction : Direction) → IsStep facts s s (step_command direction) (Refused fault)
    turn_held Backwards = λ exact. (exact, λ target. inl (rw (held_first NothingToUndo (parts_first Backwards) target (length (machine_of target s).past == 0)) refl))
    turn_held Forwards = λ exact. (exact, λ target. inl (rw (held_first NothingToRedo (parts_first Forwards) target (length (machine_of target s).future == 0)) refl))

  -- There is none.
  pub turn_none : (s : SessionState S) (free : busy_fault s ≡ None) (direction : Direction) → next_entries direction s.log ≡ [] → IsStep facts s s (step_command direction) (Refused (no_step_fault direction))
  turn_none s free Backwards none = λ exact. (exact, λ target. inl (rw (none_open s free, (at_rest s free).1, none) refl))
  turn_none s free Forwards none = λ exact. (exact, λ target. inl (rw (none_open s free, (at_rest s free).1, none) refl))

  -- What keeps a group from being abandoned.
  module _ (s : SessionState S) (fault : Fault) (held : abandon_fault s ≡ Some fault) where
    abandon_parts : (is_open locked : Bool) → (if is_open then (if locked then Some Locked else None) else Some NoGroup) ≡ Some fault → first_refusal ((NoGroup, not is_open) ∷ (Locked, locked) ∷ []) ≡ Some fault
    abandon_parts true true is = is
    abandon_parts true false is = absurd (cc is)
    abandon_parts false locked is = is

    pub abandon_held : IsStep facts s s commands.Abandon (Refused fault)
    abandon_held = λ exact. (
      exact,
      λ target.
          let first : first_refusal (machine.command_conditions commands.Abandon (machine_of target s)) ≡ Some fault =
          ap (λ (x : Bool). first_refusal ((NoGroup, not x) ∷ (Locked, has_locked_blocks s) ∷ [])) (group_open (group_of s.document) s.log.group) ∙ abandon_parts (is_some s.log.group) (has_locked_blocks s) held in
          inl (rw first refl),
    )

  -- The group that is open.
  module _ (old new : SessionState S) (cs : List Change) (is_open : old.log.group ≡ Some cs) where
    -- its changes can be taken back where the session is exact
    pub group_can : IsExact facts old → CanApplyAllDirected Backwards cs old.document
    group_can exact =
        let can : CanApplyAllDirected Backwards (cs ++ all_changes old.log.undo) old.document =
        subst (λ (g : Option (List Change)). CanApplyAllDirected Backwards (open_changes g ++ all_changes old.log.undo) old.document) is_open exact.steps.first in
        (can_split Backwards cs (all_changes old.log.undo) old.document can).0

    pub group_not_taken : (fault : Fault) → CantPrepareAll facts (map (directed Backwards) cs) (cache_of old) (cache_of new) fault → CantApplyLog facts old new fault
    group_not_taken fault unready = elim unready as (λ _. CantApplyLog facts old new fault) [
      | inl lacks ↦ inl lacks
      | inr damaged ↦ inr (damaged.0, λ exact. damaged.1 (honest-steady facts old.disk.store exact.honest) (all_take Backwards cs old.document (group_can exact)))
    ]

    group_has : (target : Bool) → cs ≢ [] → has_edits (machine_of target old) ≡ true
    group_has target some = ap (λ (g : Option (List Change)). has_edits (record (machine_of target old) { group = option_map (group_of old.document) g })) is_open ∙ by_changes cs some
      where
        by_changes : (xs : List Change) → xs ≢ [] → has_edits (record (machine_of target old) { group = Some (group_of old.document xs) }) ≡ true
        by_changes [] some = absurd (some refl)
        by_changes (c ∷ xs) some = rw (some_steps c xs) refl

    pub abandon_refused : (fault : Fault) → KeepsSession facts old new → cs ≢ [] → CantApplyLog facts old new fault → IsStep facts old new commands.Abandon (Refused fault)
    abandon_refused fault keeps some why = λ exact. (
      kept_exact facts old new keeps exact,
      λ target.
          let takes = group_has target some in
          gives_up facts old.disk.store new.disk.store (machine_of target old) (machine_of target new) commands.Abandon fault exact.honest (lacking old new fault exact why) (kept_machine facts old new keeps target exact) takes takes,
    )

    pub abandon_taken : has_locked_blocks old ≡ false → AreExclusive cs old.log.redo → new.log ≡ abandoned_log old.log → AreApplied facts (map (directed Backwards) cs) (cache_of old) (cache_of new)
        → IsStep facts old new commands.Abandon Accepted
    abandon_taken none apart log makes = λ exact.
        let so = exact.honest in
        let document : new.document ≡ after_all Backwards cs old.document = makes.document.same so in
        let was_log : old.log ≡ record old.log { group = Some cs } = λ i. record old.log { group = is_open i } in
        let are : AreSteps Backwards old.document (cs ++ all_changes old.log.undo) (all_changes old.log.redo) = subst (λ (l : Log). AreSteps Backwards old.document (to_undo l) (to_redo l)) was_log exact.steps in
        let back = all_back Backwards cs old.document are.valid (can_split Backwards cs (all_changes old.log.undo) old.document are.first).0 in
        let left : AreSteps Backwards (after_all Backwards cs old.document) (all_changes old.log.undo) (all_changes old.log.redo) = record {
          valid = back.valid;
          first = (can_split Backwards cs (all_changes old.log.undo) old.document are.first).1;
          second = apart_can cs apart are.second;
        } in (
          record {
            honest = subst IsTrue (sym makes.passes.honest) so;
            steps = subst (λ (d : Document). AreSteps Backwards d (to_undo new.log) (to_redo new.log)) (sym document)
                (subst (λ (l : Log). AreSteps Backwards (after_all Backwards cs old.document) (to_undo l) (to_redo l)) (sym log) left);
          },
          λ target.
              let m = machine_of target old in
              let is = passed_machine facts old new target so makes.passes makes.frames makes.locks
              ∙ ap (λ (d : Document). machine_with m d new.log) document ∙ ap (λ (l : Log). machine_with m (after_all Backwards cs old.document) l) (log ∙ ap abandoned_log was_log) in
              inl (answers_on m _ (machine_of target new) _ (Some commands.Abandon) Accepted (ap (λ (l : Log). machine_with m old.document l) was_log) is
              (abandon_moved m old.document old.log old.log.undo old.log.redo cs none apart)),
        )
      where
        -- what can be made again can be in the document before the group, which is the same or has nothing to make
        -- again
        apart_can : (xs : List Change) → AreExclusive xs old.log.redo → CanApplyAllDirected Forwards (all_changes old.log.redo) old.document → CanApplyAllDirected Forwards (all_changes old.log.redo) (after_all Backwards xs old.document)
        apart_can [] apart can = can
        apart_can (c ∷ xs) apart can = subst (λ (es : List LogEntry). CanApplyAllDirected Forwards (all_changes es) (after_all Backwards (c ∷ xs) old.document)) (sym apart) tt
