-- A group that begins, ends or is abandoned, and what stays known of a log as its entries are made.
use Rattle.std.proofs.Common.{◌≡◌, Bool, true, false, is_some, List, [], ◌∷◌, ◌++◌, map, Option, Some, None, refl, sym, ap, subst, inl}
use Rattle.std.specs.Prelude.{IfSome}
use Rattle.std.specs.Option.{option_map}
use Rattle.geos_model.specs.Document.{IsValid}
use Rattle.geos_model.specs.Machine.{IsValidGroup, Step}
use Rattle.geos_model.specs.Reply.{Accepted}
use Rattle.geos_model.specs.declared.command.Command.TheVariants as commands
use Rattle.vm_store.specs.Facts.{StoreFacts}
use Rattle.document_file.specs.Disk.{IsFileDocument}
use Rattle.vm_blocks.specs.State.{CacheState}
use Rattle.vm_blocks.specs.Changes.{directed}
use Rattle.vm_blocks.specs.Preparing.{CanApplyAllByHandle, AreApplied}
use Rattle.vm_blocks.specs.declared.change.Change.{Change}
use Rattle.chunk_edits.specs.declared.direction.Direction.{Direction}
use Rattle.chunk_edits.specs.declared.direction.Direction.TheVariants.{Forwards, Backwards}
use Rattle.undo_log.specs.Logging.{AreExclusive, IsHead, abandoned_log, Log, after_all, all_changes, before, changes_in, closed_with, group_of, next_entries, next_moved, open_changes, entry_steps, to_redo, to_undo, reversed_entry, with_group_closed}
use Rattle.undo_log.specs.Sessions.{SessionState, machine_of, opposite, CanApplyBothByHandle, AreSteps, IsExact}
use Rattle.undo_log.specs.Turning.{IsEntryApplied}
use Rattle.undo_log.specs.Entries.{LogEntry}
use Rattle.undo_log.proofs.Answers.{begin_moved, end_moved, log_of, some_steps}
use Rattle.undo_log.proofs.Directions.{listed_by, listed_of, log_moved, turned}
use Rattle.undo_log.proofs.Forgetting.{closed_listed, closed_steps}
use Rattle.undo_log.proofs.Keeping.{Holds, answers_on, machine_with, none_marked}
use Rattle.undo_log.proofs.Listing.{are_listed_alike, drifted, entry_listed, listed_behind, listed_front, moved_listed}
use Rattle.undo_log.proofs.Steps.{before-valid}
use Rattle.undo_log.proofs.Turns.{entry_document, entry_passes}

-- The group that is open is valid.
pub group_valid : {S : Type 0} (facts : S → StoreFacts) (s : SessionState S) (target : Bool) → IsExact facts s → AreExclusive (open_changes s.log.group) s.log.redo
    → IfSome (machine_of target s).group (λ g. IsValidGroup g (machine_of target s))
group_valid facts s target exact apart = by_group s.log.group (before-valid s.document s.log exact.steps) apart
  where
    by_group : (o : Option (List Change)) → IsValid (before o s.document) → AreExclusive (open_changes o) s.log.redo → IfSome (option_map (group_of s.document) o) (λ g. IsValidGroup g (machine_of target s))
    by_group None valid apart = tt
    by_group (Some []) valid apart = record { before = valid; none = λ _. (refl, refl); some = λ other. absurd (cc other) }
    by_group (Some (c ∷ cs)) valid apart = record { before = valid; none = λ none. absurd (cc (rw (some_steps c cs) at none)); some = λ _. ap (λ (es : List LogEntry). entry_steps Forwards es s.document) apart }

pub opened_undo : (log : Log) → log.group ≡ None → to_undo (record log { group = Some [] }) ≡ to_undo log
opened_undo log none = sym (ap (λ (g : Option (List Change)). open_changes g ++ all_changes log.undo) none)

-- with the same changes what is known of the blocks stays
pub same_holds : {S : Type 0} (blocks : CacheState S) (old new : Log) → to_undo new ≡ to_undo old → to_redo new ≡ to_redo old → Holds blocks old → Holds blocks new
same_holds blocks old new undo redo holds = (
  subst (λ (cs : List Change). CanApplyBothByHandle Backwards blocks.document cs (to_redo new)) (sym undo) (subst (λ (cs : List Change). CanApplyBothByHandle Backwards blocks.document (to_undo old) cs) (sym redo) holds.0),
  holds.1,
)

pub closed_holds : {S : Type 0} (blocks : CacheState S) (log : Log) → Holds blocks log → Holds blocks (with_group_closed log)
closed_holds blocks log holds = (closed_listed log blocks.document holds.0, holds.1)

module _ {S : Type 0} (s : SessionState S) where
  pub same_steps : (facts : S → StoreFacts) (log : Log) → to_undo log ≡ to_undo s.log → to_redo log ≡ to_redo s.log → IsExact facts s → IsExact facts (record s { log = log })
  same_steps facts log undo redo exact = record {
    honest = exact.honest;
    steps = subst (λ (cs : List Change). AreSteps Backwards s.document cs (to_redo log)) (sym undo) (subst (λ (cs : List Change). AreSteps Backwards s.document (to_undo s.log) cs) (sym redo) exact.steps);
  }

  module _ (none : s.log.group ≡ None) where
    pub begin_exact : (facts : S → StoreFacts) → IsExact facts s → IsExact facts (record s { log = record s.log { group = Some [] } })
    begin_exact facts exact = same_steps facts (record s.log { group = Some [] }) (opened_undo s.log none) refl exact

    pub begin_step : (target : Bool) → Step false (machine_of target s) (Some commands.Begin) Accepted (machine_of target (record s { log = record s.log { group = Some [] } }))
    begin_step target =
        let m = machine_of target s in
        inl (answers_on m (machine_with m s.document (log_of s.log s.log.undo s.log.redo None)) _ _ (Some commands.Begin) Accepted
        (ap (λ (g : Option (List Change)). machine_with m s.document (log_of s.log s.log.undo s.log.redo g)) none) refl (begin_moved m s.document s.log s.log.undo s.log.redo))

  pub end_exact : (facts : S → StoreFacts) → IsExact facts s → IsExact facts (record s { log = with_group_closed s.log })
  end_exact facts exact = record { honest = exact.honest; steps = closed_steps s.log s.document exact.steps }

  pub end_step : (cs : List Change) → s.log.group ≡ Some cs → (target : Bool) → Step false (machine_of target s) (Some commands.End) Accepted (machine_of target (record s { log = with_group_closed s.log }))
  end_step cs is_open target =
      let m = machine_of target s in
      inl (answers_on m (machine_with m s.document (log_of s.log s.log.undo s.log.redo (Some cs))) _ (machine_with m s.document (closed_with (Some cs) (log_of s.log s.log.undo s.log.redo (Some cs)))) (Some commands.End) Accepted
      (ap (λ (g : Option (List Change)). machine_with m s.document (log_of s.log s.log.undo s.log.redo g)) is_open)
      (ap (λ (g : Option (List Change)). machine_with m s.document (closed_with g (log_of s.log s.log.undo s.log.redo g))) is_open) (end_moved m s.document s.log s.log.undo s.log.redo cs))

  -- whatever its changes are
  pub end_open : is_some s.log.group ≡ true → (target : Bool) → Step false (machine_of target s) (Some commands.End) Accepted (machine_of target (record s { log = with_group_closed s.log }))
  end_open is_open target = by_group s.log.group refl is_open
    where
      by_group : (group : Option (List Change)) → s.log.group ≡ group → is_some group ≡ true → Step false (machine_of target s) (Some commands.End) Accepted (machine_of target (record s { log = with_group_closed s.log }))
      by_group None is never = absurd (cc never)
      by_group (Some cs) is some = end_step cs is target

module _ {S : Type 0} (facts : S → StoreFacts) (old new : CacheState S) (log : Log) where
  -- The next entry in a direction was made.
  module _ (direction : Direction) (e : LogEntry) (none : log.group ≡ None) (first : IsHead e (next_entries direction log)) where
    next_known : Holds old log → CanApplyBothByHandle direction old.document (all_changes (e ∷ first.others)) (all_changes (next_entries (opposite direction) log))
    next_known holds =
        subst (λ (es : List LogEntry). CanApplyBothByHandle direction old.document (all_changes es) (all_changes (next_entries (opposite direction) log))) first.are
        (listed_by direction old.document log none holds.0)

    pub next_listed : Holds old log → CanApplyAllByHandle (map (directed direction) (changes_in e)) old.document
    next_listed holds = entry_listed direction e first.others old.document (next_known holds).first

    pub moved_invariant : IsFileDocument (facts old.disk.store).honest old.document → IsEntryApplied facts direction e old new → Holds old log → Holds new (next_moved direction log)
    moved_invariant known makes holds =
        let honest = (facts old.disk.store).honest in
        let others = next_entries (opposite direction) log in (
          subst (λ (l : Log). CanApplyBothByHandle Backwards new.document (to_undo l) (to_redo l)) (sym (log_moved e log none direction first))
              (listed_of direction new.document (turned direction e log) first.others (reversed_entry e ∷ others)
              (moved_listed honest direction old.document new.document e first.others others known (drifted honest _ new.document (entry_document facts direction e old new makes)) (next_known holds))),
          none_marked honest old.disk.marked new.disk.marked holds.1 (entry_passes facts direction e old new makes).marked,
        )

  -- The group that is open is taken back.
  module _ (cs : List Change) (is_open : log.group ≡ Some cs) where
    group_known : Holds old log → CanApplyBothByHandle Backwards old.document (cs ++ all_changes log.undo) (all_changes log.redo)
    group_known holds = subst (λ (g : Option (List Change)). CanApplyBothByHandle Backwards old.document (open_changes g ++ all_changes log.undo) (all_changes log.redo)) is_open holds.0

    pub group_listed : Holds old log → CanApplyAllByHandle (map (directed Backwards) cs) old.document
    group_listed holds = listed_front Backwards cs (all_changes log.undo) old.document (group_known holds).first

    apart_listed : (xs : List Change) → AreExclusive xs log.redo → CanApplyAllByHandle (map (directed Forwards) (all_changes log.redo)) old.document → CanApplyAllByHandle (map (directed Forwards) (all_changes log.redo)) (after_all Backwards xs old.document)
    apart_listed [] apart listed = listed
    apart_listed (x ∷ xs) apart listed = subst (λ (es : List LogEntry). CanApplyAllByHandle (map (directed Forwards) (all_changes es)) (after_all Backwards (x ∷ xs) old.document)) (sym apart) tt

    pub abandoned_invariant : AreExclusive cs log.redo → AreApplied facts (map (directed Backwards) cs) old new → Holds old log → Holds new (abandoned_log log)
    abandoned_invariant apart makes holds =
        let honest = (facts old.disk.store).honest in (
          are_listed_alike Backwards (after_all Backwards cs old.document) new.document (all_changes log.undo) (all_changes log.redo) (drifted honest _ new.document makes.document)
              (record { first = listed_behind Backwards cs (all_changes log.undo) old.document (group_known holds).first; second = apart_listed cs apart (group_known holds).second }),
          none_marked honest old.disk.marked new.disk.marked holds.1 makes.passes.marked,
        )
