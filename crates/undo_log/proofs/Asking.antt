-- Places that are asked for are those that the machine tells.
use Rattle.std.proofs.Common.{◌≡◌, ◌≢◌, ◌==◌, ℕ, Bool, true, false, not, List, [], ◌∷◌, length, Option, Some, None, is_some, inl, inr, refl, ap, ◌∙◌}
use Rattle.std.specs.Prelude.{if◌then◌else◌}
use Rattle.std.specs.Option.{option_map, option_map_or}
use Rattle.geos_model.specs.Document.{Document}
use Rattle.geos_model.specs.LookUps.{places_look_up, step_name_look_up}
use Rattle.geos_model.specs.Machine as machine
use Rattle.geos_model.specs.Machine.{Step, UndoStep, abandon_places, first_name, has_edits, redo_places, takes_memory, undo_places}
use Rattle.geos_model.specs.Refusal.{first_refusal}
use Rattle.geos_model.specs.Reply.{BytesAre, PlacesAre, Refused}
use Rattle.geos_model.specs.declared.fault.Fault.{Fault}
use Rattle.geos_model.specs.declared.fault.Fault.TheVariants.{GroupOpen, Memory, NoGroup, NothingToRedo, NothingToUndo}
use Rattle.geos_model.specs.declared.look_up.PlacesLookUp.{PlacesLookUp}
use Rattle.geos_model.specs.declared.look_up.PlacesLookUp.TheVariants as asks
use Rattle.geos_model.specs.declared.look_up.StepNameLookUp.{StepNameLookUp}
use Rattle.geos_model.specs.declared.look_up.StepNameLookUp.TheVariants as names
use Rattle.geos_model.specs.declared.place.Place.{Place}
use Rattle.vm_blocks.specs.declared.change.Change.{Change}
use Rattle.chunk_edits.specs.declared.direction.Direction.{Direction}
use Rattle.chunk_edits.specs.declared.direction.Direction.TheVariants.{Backwards, Forwards}
use Rattle.undo_log.specs.Asking.{asked_places, direction_of, places_ahead, places_fault, turn_fault}
use Rattle.undo_log.specs.Logging.{before, entry_steps, group_of, next_names, open_changes}
use Rattle.undo_log.specs.Turning.{no_step_fault}
use Rattle.undo_log.specs.Sessions.{SessionState, machine_of}
use Rattle.undo_log.specs.Telling.{all_places}
use Rattle.undo_log.specs.Entries.{LogEntry}
use Rattle.undo_log.proofs.Answers.{some_steps}
use Rattle.undo_log.proofs.Lists.{length-steps}
use Rattle.undo_log.proofs.Telling.{back-all, back-made}
use Rattle.undo_log.proofs.Turns.{group_open}

undo_is : (es : List LogEntry) (d : Document) → undo_places (entry_steps Backwards es d) ≡ places_ahead Backwards es
undo_is [] d = refl
undo_is (e ∷ es) d = back-made e

redo_is : (es : List LogEntry) (d : Document) → redo_places (entry_steps Forwards es d) ≡ places_ahead Forwards es
redo_is [] d = refl
redo_is (e ∷ es) d = refl

abandon_is : (group : Option (List Change)) (d : Document) → abandon_places (option_map (group_of d) group) ≡ all_places Backwards (open_changes group)
abandon_is None d = refl
abandon_is (Some cs) d = back-all cs

-- what is left of a fault where it isn't there
none_held : (is_open none : Bool) (fault : Fault) → (if is_open then Some GroupOpen else if none then Some fault else None) ≡ None → (is_open ≡ false) × (none ≡ false)
none_held true none fault is = absurd (cc is)
none_held false true fault is = absurd (cc is)
none_held false false fault is = (refl, refl)

-- which is refused first
turn_refused : (direction : Direction) (is_open none : Bool) (fault : Fault) → (if is_open then Some GroupOpen else if none then Some (no_step_fault direction) else None) ≡ Some fault
    → first_refusal ((no_step_fault direction, none) ∷ (GroupOpen, is_open) ∷ []) ≡ Some fault
turn_refused Backwards true true fault is = is
turn_refused Backwards true false fault is = is
turn_refused Backwards false true fault is = is
turn_refused Backwards false false fault is = absurd (cc is)
turn_refused Forwards true true fault is = is
turn_refused Forwards true false fault is = is
turn_refused Forwards false true fault is = is
turn_refused Forwards false false fault is = absurd (cc is)

open_held : (is_open : Bool) → (if is_open then None else Some NoGroup) ≡ None → is_open ≡ true
open_held true is = refl
open_held false is = absurd (cc is)

not_empty : {A : Type 0} (xs : List A) → xs ≢ [] → (length xs == 0) ≡ false
not_empty [] some = absurd (some refl)
not_empty (x ∷ xs) some = some_steps x xs

-- the open group has changes where it has places
has_changes : (group : Option (List Change)) (d : Document) → all_places Backwards (open_changes group) ≢ [] → option_map_or (λ g. g.edited) (option_map (group_of d) group) false ≡ true
has_changes None d some = absurd (some refl)
has_changes (Some []) d some = absurd (some refl)
has_changes (Some (c ∷ cs)) d some = ap not (some_steps c cs)

module _ {S : Type 0} (s : SessionState S) (target : Bool) where
  in_group : machine.in_group (machine_of target s) ≡ is_some s.log.group
  in_group = group_open (group_of s.document) s.log.group

  no_past : (length (machine_of target s).past == 0) ≡ (length s.log.undo == 0)
  no_past = ap (λ (n : ℕ). n == 0) (length-steps Backwards s.log.undo (before s.log.group s.document))

  no_future : (length (machine_of target s).future == 0) ≡ (length s.log.redo == 0)
  no_future = ap (λ (n : ℕ). n == 0) (length-steps Forwards s.log.redo s.document)

  -- Places are told,
  pub places_told : (asked : PlacesLookUp) (ps : List Place) → places_fault asked s.log ≡ None → ps ≡ asked_places asked s.log
      → Step false (machine_of target s) (Some (places_look_up asked)) (PlacesAre ps) (machine_of target s)
  places_told asks.Touched ps free is = inl (rw is refl)
  places_told asks.Undo ps free is =
      let held = none_held (is_some s.log.group) (length s.log.undo == 0) NothingToUndo free in
      inl (rw (is, in_group ∙ held.0, no_past ∙ held.1, undo_is s.log.undo (before s.log.group s.document)) refl)
  places_told asks.Redo ps free is =
      let held = none_held (is_some s.log.group) (length s.log.redo == 0) NothingToRedo free in
      inl (rw (is, in_group ∙ held.0, no_future ∙ held.1, redo_is s.log.redo s.document) refl)
  places_told asks.Abandon ps free is =
      inl (rw (is, in_group ∙ open_held (is_some s.log.group) free, abandon_is s.log.group s.document) refl)

  -- or why they aren't,
  pub places_held : (asked : PlacesLookUp) (fault : Fault) → places_fault asked s.log ≡ Some fault
      → Step false (machine_of target s) (Some (places_look_up asked)) (Refused fault) (machine_of target s)
  places_held asks.Touched fault held = absurd (cc held)
  places_held asks.Undo fault held = inl (rw (in_group, no_past, turn_refused Backwards (is_some s.log.group) (length s.log.undo == 0) fault held) refl)
  places_held asks.Redo fault held = inl (rw (in_group, no_future, turn_refused Forwards (is_some s.log.group) (length s.log.redo == 0) fault held) refl)
  places_held asks.Abandon fault held = inl (rw (in_group, by_parts (is_some s.log.group) held) refl)
    where
      by_parts : (is_open : Bool) → (if is_open then None else Some NoGroup) ≡ Some fault → first_refusal ((NoGroup, not is_open) ∷ []) ≡ Some fault
      by_parts true is = absurd (cc is)
      by_parts false is = is

  -- or there is no memory for them.
  pub places_lack : (asked : PlacesLookUp) → places_fault asked s.log ≡ None → asked_places asked s.log ≢ []
      → Step false (machine_of target s) (Some (places_look_up asked)) (Refused Memory) (machine_of target s)
  places_lack asks.Touched free some = inr (record { fault = Memory; may = rw (not_empty s.log.touched some) refl; says = refl; stays = refl })
  places_lack asks.Undo free some =
      let held = none_held (is_some s.log.group) (length s.log.undo == 0) NothingToUndo free in
      inr (record { fault = Memory; may = rw (in_group ∙ held.0, no_past ∙ held.1) refl; says = refl; stays = refl })
  places_lack asks.Redo free some =
      let held = none_held (is_some s.log.group) (length s.log.redo == 0) NothingToRedo free in
      inr (record { fault = Memory; may = rw (in_group ∙ held.0, no_future ∙ held.1) refl; says = refl; stays = refl })
  places_lack asks.Abandon free some = inr (record { fault = Memory; may = has_changes s.log.group s.document some; says = refl; stays = refl })

  -- The name of a step is answered, or why it isn't.
  pub name_told : (asked : StepNameLookUp) (name : List ℕ) → turn_fault (direction_of asked) s.log ≡ None → name ≡ first_name (next_names (direction_of asked) s.log)
      → Step false (machine_of target s) (Some (step_name_look_up asked)) (BytesAre name) (machine_of target s)
  name_told names.Undo name free is =
      let held = none_held (is_some s.log.group) (length s.log.undo == 0) NothingToUndo free in inl (rw (is, in_group ∙ held.0, no_past ∙ held.1) refl)
  name_told names.Redo name free is =
      let held = none_held (is_some s.log.group) (length s.log.redo == 0) NothingToRedo free in inl (rw (is, in_group ∙ held.0, no_future ∙ held.1) refl)

  pub name_held : (asked : StepNameLookUp) (fault : Fault) → turn_fault (direction_of asked) s.log ≡ Some fault
      → Step false (machine_of target s) (Some (step_name_look_up asked)) (Refused fault) (machine_of target s)
  name_held names.Undo fault held = inl (rw (in_group, no_past, turn_refused Backwards (is_some s.log.group) (length s.log.undo == 0) fault held) refl)
  name_held names.Redo fault held = inl (rw (in_group, no_future, turn_refused Forwards (is_some s.log.group) (length s.log.redo == 0) fault held) refl)
