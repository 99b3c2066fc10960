-- A log in which no group is open, by the direction that is taken.
use Rattle.std.proofs.Common.{◌≡◌, List, ◌∷◌, ◌++◌, drop, take, Option, None, refl, subst}
use Rattle.geos_model.specs.Document.{Document}
use Rattle.geos_model.specs.Position.{Position, position_after_redo, position_after_undo}
use Rattle.vm_blocks.specs.declared.change.Change.{Change}
use Rattle.chunk_edits.specs.declared.direction.Direction.{Direction}
use Rattle.chunk_edits.specs.declared.direction.Direction.TheVariants.{Forwards, Backwards}
use Rattle.undo_log.specs.Logging.{IsHead, Log, all_changes, next_entries, next_moved, open_changes, to_redo, to_undo, reversed_entry}
use Rattle.undo_log.specs.Telling.{next_places}
use Rattle.undo_log.specs.Sessions.{opposite, AreSteps, CanApplyBothByHandle}
use Rattle.undo_log.specs.Entries.{LogEntry}

-- where a document stands once the next entry in a direction is made
abbrev pub position_turned : Direction → Position → Position
position_turned Backwards p = position_after_undo p
position_turned Forwards p = position_after_redo p

-- the log in which the name of the next entry in a direction is the next in the opposite one
abbrev pub names_turned : Direction → Log → Log
names_turned Backwards log = record log { undo_names = drop 1 log.undo_names; redo_names = take 1 log.undo_names ++ log.redo_names }
names_turned Forwards log = record log { undo_names = take 1 log.redo_names ++ log.undo_names; redo_names = drop 1 log.redo_names }

-- so, and in which the committed documents stand there, and which tells of the entry
abbrev pub turned : Direction → LogEntry → Log → Log
turned direction e log =
    record (names_turned direction log) { updated_at = position_turned direction log.updated_at; saved_at = position_turned direction log.saved_at; touched = next_places direction e }

-- the log of which these entries can be made in a direction, and these in the opposite one, otherwise as this one
abbrev pub log_by : Direction → Log → List LogEntry → List LogEntry → Log
log_by Backwards log from to = record log { undo = from; redo = to; group = None }
log_by Forwards log from to = record log { undo = to; redo = from; group = None }

pub next_of : (direction : Direction) (log : Log) (from to : List LogEntry) → next_entries direction (log_by direction log from to) ≡ from
next_of Backwards log from to = refl
next_of Forwards log from to = refl

pub opposite_of : (direction : Direction) (log : Log) (from to : List LogEntry) → next_entries (opposite direction) (log_by direction log from to) ≡ to
opposite_of Backwards log from to = refl
opposite_of Forwards log from to = refl

pub none_of : (direction : Direction) (log : Log) (from to : List LogEntry) → (log_by direction log from to).group ≡ None
none_of Backwards log from to = refl
none_of Forwards log from to = refl

-- a log, and it once its next entry is made
module _ (e : LogEntry) (log : Log) (none : log.group ≡ None) where
  pub log_was : (direction : Direction) (first : IsHead e (next_entries direction log)) → log ≡ log_by direction log (e ∷ first.others) (next_entries (opposite direction) log)
  log_was Backwards first = λ i. record log { undo = first.are i; group = none i }
  log_was Forwards first = λ i. record log { redo = first.are i; group = none i }

  pub log_moved : (direction : Direction) (first : IsHead e (next_entries direction log)) → next_moved direction log ≡ log_by direction (turned direction e log) first.others (reversed_entry e ∷ next_entries (opposite direction) log)
  log_moved Backwards first = let are : log.undo ≡ e ∷ first.others = first.are in rw (are, none) refl
  log_moved Forwards first = let are : log.redo ≡ e ∷ first.others = first.are in rw (are, none) refl

-- What is known of both lists of a log, of those by a direction, and back.

-- no group is open
steps_closed : (d : Document) (log : Log) → log.group ≡ None → AreSteps Backwards d (to_undo log) (to_redo log) → AreSteps Backwards d (all_changes log.undo) (all_changes log.redo)
steps_closed d log none are = subst (λ (g : Option (List Change)). AreSteps Backwards d (open_changes g ++ all_changes log.undo) (all_changes log.redo)) none are

listed_closed : (d : Document) (log : Log) → log.group ≡ None → CanApplyBothByHandle Backwards d (to_undo log) (to_redo log) → CanApplyBothByHandle Backwards d (all_changes log.undo) (all_changes log.redo)
listed_closed d log none are = subst (λ (g : Option (List Change)). CanApplyBothByHandle Backwards d (open_changes g ++ all_changes log.undo) (all_changes log.redo)) none are

pub steps_by : (direction : Direction) (d : Document) (log : Log) → log.group ≡ None → AreSteps Backwards d (to_undo log) (to_redo log)
    → AreSteps direction d (all_changes (next_entries direction log)) (all_changes (next_entries (opposite direction) log))
steps_by Backwards d log none are = steps_closed d log none are
steps_by Forwards d log none are = let back = steps_closed d log none are in record { valid = back.valid; first = back.second; second = back.first }

pub steps_of : (direction : Direction) (d : Document) (log : Log) (from to : List LogEntry) → AreSteps direction d (all_changes from) (all_changes to)
    → AreSteps Backwards d (to_undo (log_by direction log from to)) (to_redo (log_by direction log from to))
steps_of Backwards d log from to are = are
steps_of Forwards d log from to are = record { valid = are.valid; first = are.second; second = are.first }

pub listed_by : (direction : Direction) (d : Document) (log : Log) → log.group ≡ None → CanApplyBothByHandle Backwards d (to_undo log) (to_redo log)
    → CanApplyBothByHandle direction d (all_changes (next_entries direction log)) (all_changes (next_entries (opposite direction) log))
listed_by Backwards d log none are = listed_closed d log none are
listed_by Forwards d log none are = let back = listed_closed d log none are in record { first = back.second; second = back.first }

pub listed_of : (direction : Direction) (d : Document) (log : Log) (from to : List LogEntry) → CanApplyBothByHandle direction d (all_changes from) (all_changes to)
    → CanApplyBothByHandle Backwards d (to_undo (log_by direction log from to)) (to_redo (log_by direction log from to))
listed_of Backwards d log from to are = are
listed_of Forwards d log from to are = record { first = are.second; second = are.first }
