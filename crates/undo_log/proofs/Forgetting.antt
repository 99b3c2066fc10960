-- What is known of a log stays known of the entries that are kept of it.
use Rattle.std.proofs.Common.{◌≡◌, ℕ, List, [], ◌∷◌, ◌++◌, map, reverse, Option, Some, None, sym, ap, subst, ◌∙◌}
use Rattle.std.proofs.lemmas.List.{append_assoc}
use Rattle.geos_model.specs.Document.{Document}
use Rattle.geos_model.specs.Machine.{limited}
use Rattle.vm_blocks.specs.Changes.{directed}
use Rattle.vm_blocks.specs.Preparing.{CanApplyAllByHandle}
use Rattle.vm_blocks.specs.declared.change.Change.{Change}
use Rattle.chunk_edits.specs.declared.direction.Direction.TheVariants.{Backwards}
use Rattle.undo_log.specs.Logging.{Log, added_to, all_added_to, all_changes, closed_with, open_changes, to_redo, to_undo, with_change, with_changes, with_group_closed}
use Rattle.undo_log.specs.Sessions.{CanApplyAllDirected, CanApplyBothByHandle, AreSteps}
use Rattle.undo_log.specs.Entries.{LogEntry}
use Rattle.undo_log.specs.Entries as entries
use Rattle.undo_log.proofs.Listing.{listed_front}
use Rattle.undo_log.proofs.Lists.{kept_first}
use Rattle.undo_log.proofs.Steps.{can_split}

-- behind the changes of a group that is open
module _ (d : Document) (cs : List Change) (redo : List Change) (limit : Option ℕ) (es : List LogEntry) where
  abbrev kept : List Change
  kept = cs ++ all_changes (limited limit es)

  abbrev others : List Change
  others = (kept_first limit es).others

  split : cs ++ all_changes es ≡ kept ++ others
  split = ap (λ (xs : List Change). cs ++ xs) (kept_first limit es).are ∙ sym (append_assoc cs (all_changes (limited limit es)) others)

  pub kept_are_steps : AreSteps Backwards d (cs ++ all_changes es) redo → AreSteps Backwards d (cs ++ all_changes (limited limit es)) redo
  kept_are_steps are = record {
    valid = are.valid;
    first = (can_split Backwards kept others d (subst (λ (xs : List Change). CanApplyAllDirected Backwards xs d) split are.first)).0;
    second = are.second;
  }

  pub kept_listed : CanApplyBothByHandle Backwards d (cs ++ all_changes es) redo → CanApplyBothByHandle Backwards d (cs ++ all_changes (limited limit es)) redo
  kept_listed are = record {
    first = listed_front Backwards kept others d (subst (λ (xs : List Change). CanApplyAllByHandle (map (directed Backwards) xs) d) split are.first);
    second = are.second;
  }

-- The change of an edit is the newest of all that can be taken back, in a group or not.

pub changed_steps : (log : Log) (c : Change) (d : Document) → AreSteps Backwards d (c ∷ to_undo log) [] → AreSteps Backwards d (to_undo (with_change c log)) (to_redo (with_change c log))
changed_steps log c d are = by_group log.group are
  where
    by_group : (group : Option (List Change)) → AreSteps Backwards d (c ∷ (open_changes group ++ all_changes log.undo)) []
        → AreSteps Backwards d (to_undo (added_to group c (record log { group = group }))) (to_redo (added_to group c (record log { group = group })))
    by_group None are = kept_are_steps d [] [] log.limit (entries.One c ∷ log.undo) are
    by_group (Some cs) are = are

pub changed_listed : (log : Log) (c : Change) (d : Document) → CanApplyBothByHandle Backwards d (c ∷ to_undo log) [] → CanApplyBothByHandle Backwards d (to_undo (with_change c log)) (to_redo (with_change c log))
changed_listed log c d are = by_group log.group are
  where
    by_group : (group : Option (List Change)) → CanApplyBothByHandle Backwards d (c ∷ (open_changes group ++ all_changes log.undo)) []
        → CanApplyBothByHandle Backwards d (to_undo (added_to group c (record log { group = group }))) (to_redo (added_to group c (record log { group = group })))
    by_group None are = kept_listed d [] [] log.limit (entries.One c ∷ log.undo) are
    by_group (Some cs) are = are

-- So are those of an edit of a large array together.

-- behind those of the group
behind_group : (cs ds : List Change) (undo : List LogEntry) → reverse cs ++ (ds ++ all_changes undo) ≡ (reverse cs ++ ds) ++ all_changes undo
behind_group cs ds undo = sym (append_assoc (reverse cs) ds (all_changes undo))

pub all_changed_steps : (log : Log) (cs : List Change) (d : Document) → AreSteps Backwards d (reverse cs ++ to_undo log) [] → AreSteps Backwards d (to_undo (with_changes cs log)) (to_redo (with_changes cs log))
all_changed_steps log cs d are = by_group log.group are
  where
    by_group : (group : Option (List Change)) → AreSteps Backwards d (reverse cs ++ (open_changes group ++ all_changes log.undo)) []
        → AreSteps Backwards d (to_undo (all_added_to group cs (record log { group = group }))) (to_redo (all_added_to group cs (record log { group = group })))
    by_group None are = kept_are_steps d [] [] log.limit (entries.Group (reverse cs) ∷ log.undo) are
    by_group (Some ds) are = subst (λ (xs : List Change). AreSteps Backwards d xs []) (behind_group cs ds log.undo) are

pub all_changed_listed : (log : Log) (cs : List Change) (d : Document) → CanApplyBothByHandle Backwards d (reverse cs ++ to_undo log) [] → CanApplyBothByHandle Backwards d (to_undo (with_changes cs log)) (to_redo (with_changes cs log))
all_changed_listed log cs d are = by_group log.group are
  where
    by_group : (group : Option (List Change)) → CanApplyBothByHandle Backwards d (reverse cs ++ (open_changes group ++ all_changes log.undo)) []
        → CanApplyBothByHandle Backwards d (to_undo (all_added_to group cs (record log { group = group }))) (to_redo (all_added_to group cs (record log { group = group })))
    by_group None are = kept_listed d [] [] log.limit (entries.Group (reverse cs) ∷ log.undo) are
    by_group (Some ds) are = subst (λ (xs : List Change). CanApplyBothByHandle Backwards d xs []) (behind_group cs ds log.undo) are

-- So are those of a group that is closed.

pub closed_steps : (log : Log) (d : Document) → AreSteps Backwards d (to_undo log) (to_redo log) → AreSteps Backwards d (to_undo (with_group_closed log)) (to_redo (with_group_closed log))
closed_steps log d are = by_group log.group are
  where
    by_group : (group : Option (List Change)) → AreSteps Backwards d (open_changes group ++ all_changes log.undo) (to_redo log)
        → AreSteps Backwards d (to_undo (closed_with group (record log { group = group }))) (to_redo (closed_with group (record log { group = group })))
    by_group None are = are
    by_group (Some []) are = are
    by_group (Some (c ∷ cs)) are = kept_are_steps d [] (to_redo log) log.limit (entries.Group (c ∷ cs) ∷ log.undo) are

pub closed_listed : (log : Log) (d : Document) → CanApplyBothByHandle Backwards d (to_undo log) (to_redo log) → CanApplyBothByHandle Backwards d (to_undo (with_group_closed log)) (to_redo (with_group_closed log))
closed_listed log d are = by_group log.group are
  where
    by_group : (group : Option (List Change)) → CanApplyBothByHandle Backwards d (open_changes group ++ all_changes log.undo) (to_redo log)
        → CanApplyBothByHandle Backwards d (to_undo (closed_with group (record log { group = group }))) (to_redo (closed_with group (record log { group = group })))
    by_group None are = are
    by_group (Some []) are = are
    by_group (Some (c ∷ cs)) are = kept_listed d [] (to_redo log) log.limit (entries.Group (c ∷ cs) ∷ log.undo) are
