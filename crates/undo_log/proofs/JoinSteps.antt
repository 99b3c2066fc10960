-- Steps that are joined, named or forgotten, and whether the document is a committed one, by the machine.
use Rattle.std.proofs.Common.{◌≡◌, ◌≢◌, ◌≤◌, ◌==◌, ◌&&◌, ℕ, Bool, true, false, not, List, [], ◌∷◌, ◌++◌, length, Option, Some, None, is_some, inl, inr, refl, sym, ap, ◌∙◌, arith, ltb-false}
use Rattle.std.specs.Prelude.{if◌then◌else◌, nat_le, nat_lt}
use Rattle.std.specs.Option.{option_map, option_map_or}
use Rattle.std.proofs.lemmas.Bool.{le-leb}
use Rattle.std.proofs.lemmas.Bool.Decides.{nat_tests}
use Rattle.std.proofs.lemmas.List.{append_assoc}
use Rattle.geos_model.specs.Machine as machine
use Rattle.geos_model.specs.Machine.{Machine, Step, after_forget, after_join, has_edits, has_no_two, is_committed, longest_name}
use Rattle.geos_model.specs.Position.{Position, is_here}
use Rattle.geos_model.specs.Refusal.{first_refusal}
use Rattle.geos_model.specs.Reply.{Accepted, Refused}
use Rattle.geos_model.specs.declared.command.Command.TheVariants as commands
use Rattle.geos_model.specs.declared.fault.Fault.{Fault}
use Rattle.geos_model.specs.declared.fault.Fault.TheVariants.{GroupOpen, Memory, NothingToUndo, TooBig}
use Rattle.vm_store.specs.Facts.{StoreFacts}
use Rattle.vm_blocks.specs.State.{CacheState}
use Rattle.vm_blocks.specs.declared.change.Change.{Change}
use Rattle.chunk_edits.specs.declared.direction.Direction.TheVariants.{Backwards}
use Rattle.undo_log.specs.Logging.{Log, all_changes, before, changes_in, forgotten_log, group_of, is_at, joined_entries, joined_log, named_log, open_changes, to_redo, to_undo}
use Rattle.undo_log.specs.Sessions.{SessionState, machine_of, IsStep}
use Rattle.undo_log.specs.Turning.{join_fault, name_fault}
use Rattle.undo_log.specs.Entries.{LogEntry}
use Rattle.undo_log.proofs.Answers.{steps_joined}
use Rattle.undo_log.proofs.Forgetting.{kept_are_steps, kept_listed}
use Rattle.undo_log.proofs.Groups.{same_holds, same_steps}
use Rattle.undo_log.proofs.Keeping.{Holds}
use Rattle.undo_log.proofs.Lists.{first_changes, kept_steps, length-steps}
use Rattle.undo_log.proofs.Turns.{group_open}

-- Joined entries have the same changes.

joined_changes : (es : List LogEntry) → all_changes (joined_entries es) ≡ all_changes es
joined_changes [] = refl
joined_changes (e ∷ []) = refl
joined_changes (e ∷ f ∷ es) =
    append_assoc (changes_in e) (changes_in f) (all_changes es) ∙ ap (λ (cs : List Change). changes_in e ++ cs) (sym (first_changes f es)) ∙ sym (first_changes e (f ∷ es))

joined_undo : (log : Log) → to_undo (joined_log log) ≡ to_undo log
joined_undo log = ap (λ (cs : List Change). open_changes log.group ++ cs) (joined_changes log.undo)

pub joined_holds : {S : Type 0} (blocks : CacheState S) (log : Log) → Holds blocks log → Holds blocks (joined_log log)
joined_holds blocks log holds = same_holds blocks log (joined_log log) (joined_undo log) refl holds

pub forgotten_holds : {S : Type 0} (blocks : CacheState S) (most : ℕ) (log : Log) → Holds blocks log → Holds blocks (forgotten_log most log)
forgotten_holds blocks most log holds = (kept_listed blocks.document (open_changes log.group) (to_redo log) (Some most) log.undo holds.0, holds.1)

-- What keeps steps from being joined.

-- neither a group that is open nor too few
join_free : {S : Type 0} (s : SessionState S) → join_fault s ≡ None → (is_some s.log.group ≡ false) × (nat_lt (length s.log.undo) 2 ≡ false)
join_free s free = by_parts (is_some s.log.group) (nat_lt (length s.log.undo) 2) free
  where
    by_parts : (is_open few : Bool) → (if is_open then Some GroupOpen else if few then Some NothingToUndo else None) ≡ None → (is_open ≡ false) × (few ≡ false)
    by_parts true few is = absurd (cc is)
    by_parts false true is = absurd (cc is)
    by_parts false false is = (refl, refl)

pub two_at_least : {S : Type 0} (s : SessionState S) → join_fault s ≡ None → 2 ≤ length s.log.undo
two_at_least s free = ltb-false (length s.log.undo) 2 (join_free s free).1

module _ {S : Type 0} (s : SessionState S) where
  -- how many steps there are is how many entries
  no_two : (target : Bool) → has_no_two (machine_of target s) ≡ nat_lt (length s.log.undo) 2
  no_two target = ap (λ n. nat_lt n 2) (length-steps Backwards s.log.undo (before s.log.group s.document))

  no_step : (target : Bool) → (length (machine_of target s).past == 0) ≡ (length s.log.undo == 0)
  no_step target = ap (λ n. n == 0) (length-steps Backwards s.log.undo (before s.log.group s.document))

  in_group : (target : Bool) → machine.in_group (machine_of target s) ≡ is_some s.log.group
  in_group target = group_open (group_of s.document) s.log.group

  join_machine : (target : Bool) → machine_of target (record s { log = joined_log s.log }) ≡ after_join (machine_of target s)
  join_machine target = λ i. record (after_join (machine_of target s)) { past = steps_joined s.log.undo (before s.log.group s.document) i }

  forget_machine : (most : ℕ) (target : Bool) → machine_of target (record s { log = forgotten_log most s.log }) ≡ after_forget most (machine_of target s)
  forget_machine most target = λ i. record (after_forget most (machine_of target s)) { past = kept_steps Backwards (Some most) s.log.undo (before s.log.group s.document) i }

  module _ (facts : S → StoreFacts) where
    pub join_step : join_fault s ≡ None → IsStep facts s (record s { log = joined_log s.log }) commands.Join Accepted
    join_step free = λ exact. (
      same_steps s facts (joined_log s.log) (joined_undo s.log) refl exact,
      λ target. inl (rw (no_two target ∙ (join_free s free).1, in_group target ∙ (join_free s free).0, join_machine target) refl),
    )

    pub join_lacks : join_fault s ≡ None → IsStep facts s s commands.Join (Refused Memory)
    join_lacks free = λ exact. (
      exact,
      λ target. inr (record { fault = Memory; may = rw (no_two target ∙ (join_free s free).1, in_group target ∙ (join_free s free).0) refl; says = refl; stays = refl }),
    )

    pub join_held : (fault : Fault) → join_fault s ≡ Some fault → IsStep facts s s commands.Join (Refused fault)
    join_held fault held = λ exact. (exact, λ target. inl (rw (no_two target, in_group target, by_parts (is_some s.log.group) (nat_lt (length s.log.undo) 2) held) refl))
      where
        by_parts : (is_open few : Bool) → (if is_open then Some GroupOpen else if few then Some NothingToUndo else None) ≡ Some fault
            → first_refusal ((NothingToUndo, few) ∷ (GroupOpen, is_open) ∷ []) ≡ Some fault
        by_parts true true is = is
        by_parts true false is = is
        by_parts false true is = is
        by_parts false false is = absurd (cc is)

    -- A step is named, or isn't.

    name_parts : (n : ℕ) → name_fault n s ≡ None → (is_some s.log.group ≡ false) × (length s.log.undo == 0 ≡ false) × (nat_lt longest_name n ≡ false)
    name_parts n free = by_parts (is_some s.log.group) (length s.log.undo == 0) (nat_lt longest_name n) free
      where
        by_parts : (is_open none long : Bool) → (if is_open then Some GroupOpen else if none then Some NothingToUndo else if long then Some TooBig else None) ≡ None
            → (is_open ≡ false) × (none ≡ false) × (long ≡ false)
        by_parts true none long is = absurd (cc is)
        by_parts false true long is = absurd (cc is)
        by_parts false false true is = absurd (cc is)
        by_parts false false false is = (refl, refl, refl)

    pub name_taken : (name : List ℕ) → name_fault (length name) s ≡ None → IsStep facts s (record s { log = named_log name s.log }) (commands.Name name) Accepted
    name_taken name free = λ exact. (
      record { honest = exact.honest; steps = exact.steps },
      λ target. let parts = name_parts (length name) free in inl (rw (in_group target ∙ parts.0, no_step target ∙ parts.1, parts.2) refl),
    )

    pub name_lacks : (name : List ℕ) → name_fault (length name) s ≡ None → name ≢ [] → IsStep facts s s (commands.Name name) (Refused Memory)
    name_lacks name free some = λ exact. (
      exact,
      λ target.
          let parts = name_parts (length name) free in
          inr (record { fault = Memory; may = rw (in_group target ∙ parts.0, no_step target ∙ parts.1, some_bytes name some, short (length name) parts.2) refl; says = refl; stays = refl }),
    )
      where
        some_bytes : (name : List ℕ) → name ≢ [] → nat_lt 0 (length name) ≡ true
        some_bytes [] some = absurd (some refl)
        some_bytes (x ∷ xs) some = grind (arith, nat_tests)

        short : (n : ℕ) → nat_lt longest_name n ≡ false → nat_le n longest_name ≡ true
        short n few = le-leb n longest_name (ltb-false longest_name n few)

    pub name_held : (name : List ℕ) (fault : Fault) → name_fault (length name) s ≡ Some fault → IsStep facts s s (commands.Name name) (Refused fault)
    name_held name fault held = λ exact. (exact, λ target. inl (rw (in_group target, no_step target, by_parts (is_some s.log.group) (length s.log.undo == 0) (nat_lt longest_name (length name)) held) refl))
      where
        by_parts : (is_open none long : Bool) → (if is_open then Some GroupOpen else if none then Some NothingToUndo else if long then Some TooBig else None) ≡ Some fault
            → first_refusal ((TooBig, long) ∷ (NothingToUndo, none) ∷ (GroupOpen, is_open) ∷ []) ≡ Some fault
        by_parts true true true is = is
        by_parts true true false is = is
        by_parts true false true is = is
        by_parts true false false is = is
        by_parts false true true is = is
        by_parts false true false is = is
        by_parts false false true is = is
        by_parts false false false is = absurd (cc is)

    pub forget_step : (most : ℕ) → IsStep facts s (record s { log = forgotten_log most s.log }) (commands.Forget most) Accepted
    forget_step most = λ exact. (
      record { honest = exact.honest; steps = kept_are_steps s.document (open_changes s.log.group) (to_redo s.log) (Some most) s.log.undo exact.steps },
      λ target. inl (rw (forget_machine most target) refl),
    )

  -- Whether the document is the committed one that stands there.
  pub stands_there : (p : Position) (target : Bool) → is_at p s.log ≡ is_committed p (machine_of target s)
  stands_there p target = ap (λ b. is_here p && b) (by_group s.log.group)
    where
      twice : (b : Bool) → b ≡ not (not b)
      twice true = refl
      twice false = refl

      by_group : (group : Option (List Change)) → option_map_or (λ cs. length cs == 0) group true ≡ not (option_map_or (λ g. g.edited) (option_map (group_of s.document) group) false)
      by_group None = refl
      by_group (Some cs) = twice (length cs == 0)
