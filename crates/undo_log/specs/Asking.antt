-- Which places and names of a log can be asked for.
use Rattle.std.specs.Prelude.{◌==◌, List, [], ◌∷◌, length, is_some, if◌then◌else◌, Option, None, Some}
use Rattle.geos_model.specs.declared.fault.Fault.{Fault}
use Rattle.geos_model.specs.declared.fault.Fault.TheVariants.{GroupOpen, NoGroup}
use Rattle.geos_model.specs.declared.look_up.PlacesLookUp.{PlacesLookUp}
use Rattle.geos_model.specs.declared.look_up.PlacesLookUp.TheVariants as asks
use Rattle.geos_model.specs.declared.look_up.StepNameLookUp.{StepNameLookUp}
use Rattle.geos_model.specs.declared.look_up.StepNameLookUp.TheVariants as names
use Rattle.geos_model.specs.declared.place.Place.{Place}
use Rattle.chunk_edits.specs.declared.direction.Direction.{Direction}
use Rattle.chunk_edits.specs.declared.direction.Direction.TheVariants.{Backwards, Forwards}
use Rattle.undo_log.specs.Logging.{Log, next_entries, open_changes}
use Rattle.undo_log.specs.Turning.{no_step_fault}
use Rattle.undo_log.specs.Telling.{all_places, next_places}
use Rattle.undo_log.specs.Entries.{LogEntry}

-- those of the next of some entries, none where there is none
abbrev pub places_ahead : Direction → List LogEntry → List Place
places_ahead direction [] = []
places_ahead direction (e ∷ es) = next_places direction e

abbrev pub asked_places : PlacesLookUp → Log → List Place
asked_places asks.Touched log = log.touched
asked_places asks.Undo log = places_ahead Backwards log.undo
asked_places asks.Redo log = places_ahead Forwards log.redo
asked_places asks.Abandon log = all_places Backwards (open_changes log.group)

-- what keeps a turn in a direction from being asked for: an open group, or that there is no step
abbrev pub turn_fault : Direction → Log → Option Fault
turn_fault direction log =
    if is_some log.group then Some GroupOpen
    else if length (next_entries direction log) == 0 then Some (no_step_fault direction) else None

-- the direction of the step whose name is asked for
abbrev pub direction_of : StepNameLookUp → Direction
direction_of names.Undo = Backwards
direction_of names.Redo = Forwards

abbrev pub places_fault : PlacesLookUp → Log → Option Fault
places_fault asks.Touched log = None
places_fault asks.Undo log = turn_fault Backwards log
places_fault asks.Redo log = turn_fault Forwards log
places_fault asks.Abandon log = if is_some log.group then None else Some NoGroup
