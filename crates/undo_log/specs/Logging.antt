-- What is kept of steps that can be undone or made again, and what a call makes of it.
use Rattle.std.specs.Prelude.{◌≡◌, ◌≢◌, ℕ, Bool, true, not, ◌&&◌, ◌==◌, if◌then◌else◌, List, [], ◌∷◌, ◌++◌, drop, length, reverse, map, take, Option, Some, None}
use Rattle.std.specs.List.{sum_by}
use Rattle.std.specs.Option.{option_map_or}
use Rattle.geos_model.specs.Document.{Document}
use Rattle.geos_model.specs.Machine.{OpenGroup, UndoStep, joined_names, limited}
use Rattle.geos_model.specs.Position.{Position, Back, Nowhere, is_here, position_stepped, position_within, position_in_group, position_after_undo, position_after_redo, position_after_join}
use Rattle.geos_model.specs.declared.command.Kind.{Kind}
use Rattle.geos_model.specs.declared.command.Kind.TheVariants.{Group}
use Rattle.vm_blocks.specs.Changes.{after_directed, directed, weight}
use Rattle.vm_blocks.specs.Preparing.{after_changes}
use Rattle.vm_blocks.specs.declared.change.Change.{Change}
use Rattle.chunk_edits.specs.declared.direction.Direction.{Direction}
use Rattle.chunk_edits.specs.declared.direction.Direction.TheVariants.{Backwards, Forwards}
use Rattle.doc_edits.specs.Planning.{kind_of_change}
use Rattle.geos_model.specs.declared.place.Place.{Place}
use Rattle.geos_model.specs.declared.place.Place.TheVariants as place
use Rattle.vm_blocks.specs.ChangeCosts.{change_cost}
use Rattle.vm_blocks.specs.ChangePlaces.{change_places}
pub use Rattle.undo_log.specs.Telling.{changes_in}
use Rattle.undo_log.specs.Telling.{all_places, made_places, next_places, newest_changes, next_changes, told}
use Rattle.undo_log.specs.Entries.{LogEntry, NamedEntry, unnamed}
use Rattle.undo_log.specs.Entries as entries
use Rattle.undo_log.specs.declared.touched.Touched.{Touched}

-- the changes of several entries, the one that is made next first
abbrev pub all_changes : List LogEntry → List Change
all_changes [] = []
all_changes (entries.One c ∷ es) = c ∷ all_changes es
all_changes (entries.Group cs ∷ es) = cs ++ all_changes es

-- an entry once it is made: its changes are made the other way round next, the last one first
abbrev pub reversed_entry : LogEntry → LogEntry
reversed_entry (entries.One c) = entries.One c
reversed_entry (entries.Group cs) = entries.Group (reverse cs)

abbrev pub turned_over : NamedEntry → NamedEntry
turned_over e = record e { entry = reversed_entry e.entry }

-- so, with another name
abbrev pub named : List ℕ → NamedEntry → NamedEntry
named name e = record e { name = name }

abbrev pub kind_of_entry : LogEntry → Kind
kind_of_entry (entries.One c) = kind_of_change c
kind_of_entry (entries.Group cs) = Group

-- how many bytes changes are charged for together, and how many content bytes they hold
abbrev pub changes_cost : List Change → ℕ
changes_cost cs = sum_by change_cost cs

abbrev pub total_weight : List Change → ℕ
total_weight cs = sum_by weight cs

abbrev pub entry_weight : LogEntry → ℕ
entry_weight e = total_weight (changes_in e)

abbrev pub entry_cost : LogEntry → ℕ
entry_cost (entries.One c) = change_cost c
entry_cost (entries.Group cs) = changes_cost cs

-- the document after changes are carried out in a direction, one after another
abbrev pub after_all : Direction → List Change → Document → Document
after_all direction cs d = after_changes (map (directed direction) cs) d

abbrev pub after_entry : Direction → LogEntry → Document → Document
after_entry direction (entries.One c) d = after_directed direction c d
after_entry direction (entries.Group cs) d = after_all direction cs d

-- the places at which a step was made, of an entry that is carried out in a direction
abbrev pub places_of_step : Direction → LogEntry → List Place
places_of_step Backwards e = made_places e
places_of_step Forwards e = next_places Forwards e

-- the step that an entry is, carried out in a direction
abbrev pub entry_step : Direction → LogEntry → Document → UndoStep
entry_step direction e d = record {
  kind = kind_of_entry e;
  cost = entry_cost e;
  document = after_entry direction e d;
  places = places_of_step direction e;
}

-- the steps that entries are, carried out in a direction one after another
abbrev pub entry_steps : Direction → List LogEntry → Document → List UndoStep
entry_steps direction [] d = []
entry_steps direction (e ∷ es) d = entry_step direction e d ∷ entry_steps direction es (after_entry direction e d)

-- What can be undone and what can be made again, of both the next entry first; their names; the changes of the group
-- that is open, the newest first, None where none is open; where the committed documents stand; what is told of the
-- change that was made or taken back last; and how many entries are kept to be undone, None where all are.
pub record Log : Type 0 where
  pub undo : List LogEntry
  pub redo : List LogEntry
  pub undo_names : List (List ℕ)
  pub redo_names : List (List ℕ)
  pub group : Option (List Change)
  pub updated_at : Position
  pub saved_at : Position
  pub touched : List Place
  pub limit : Option ℕ

-- that of a session that begins, on a file that has one directory for both documents or doesn't
abbrev pub fresh_log : Bool → Log
fresh_log one = record {
  undo = [];
  redo = [];
  undo_names = [];
  redo_names = [];
  group = None;
  updated_at = Back 0;
  saved_at = if one then Back 0 else Nowhere;
  touched = [];
  limit = None;
}

-- an entry is the first of these
pub record IsHead (e : LogEntry) (es : List LogEntry) : Type 0 where
  pub others : List LogEntry
  pub are : es ≡ e ∷ others

-- one of the two has nothing
abbrev pub AreExclusive : List Change → List LogEntry → Type 0
AreExclusive [] es = Unit {0}
AreExclusive (c ∷ cs) es = es ≡ []

-- the changes of the group, none where none is open
abbrev pub open_changes : Option (List Change) → List Change
open_changes None = []
open_changes (Some cs) = cs

-- all changes that can be taken back, the newest first, and all that can be made again
abbrev pub to_undo : Log → List Change
to_undo log = open_changes log.group ++ all_changes log.undo

abbrev pub to_redo : Log → List Change
to_redo log = all_changes log.redo

-- what can be made in a direction, the next entry first: to go backwards is to undo
abbrev pub next_entries : Direction → Log → List LogEntry
next_entries Backwards log = log.undo
next_entries Forwards log = log.redo

abbrev pub next_names : Direction → Log → List (List ℕ)
next_names Backwards log = log.undo_names
next_names Forwards log = log.redo_names

-- the document before the group that is open
abbrev pub before : Option (List Change) → Document → Document
before group d = after_all Backwards (open_changes group) d

-- the group of these changes, in a document that has them
abbrev pub group_of : Document → List Change → OpenGroup
group_of d cs = record {
  before = after_all Backwards cs d;
  edited = not (length cs == 0);
  cost = changes_cost cs;
  places = all_places Forwards (reverse cs);
}

-- Whether the document is the committed one that stands there: no step lies between, nor a change of the open group.
abbrev pub is_at : Position → Log → Bool
is_at p log = is_here p && option_map_or (λ cs. length cs == 0) log.group true

-- What calls make of the log.

-- An entry is the newest, and the limit may take the oldest.
abbrev pub with_named : NamedEntry → Log → Log
with_named e log = record log {
  undo = limited log.limit (e.entry ∷ log.undo);
  undo_names = limited log.limit (e.name ∷ log.undo_names);
  updated_at = position_stepped log.limit log.updated_at;
  saved_at = position_stepped log.limit log.saved_at;
}

-- so of one without a name
abbrev pub with_entry : LogEntry → Log → Log
with_entry e log = with_named (unnamed e) log

-- nothing is left to make again
abbrev pub without_redo : Log → Log
without_redo log = record log {
  redo = [];
  redo_names = [];
  updated_at = position_in_group log.updated_at;
  saved_at = position_in_group log.saved_at;
}

-- An edit's change is the newest: of the group that is open, or as an entry. Nothing is left to make again.
abbrev pub added_to : Option (List Change) → Change → Log → Log
added_to None c log = record (with_entry (entries.One c) log) { redo = []; redo_names = []; touched = change_places c }
added_to (Some cs) c log = record (without_redo log) { group = Some (c ∷ cs); touched = change_places c }

abbrev pub with_change : Change → Log → Log
with_change c log = added_to log.group c log

-- A change that is added is an entry of its own, and nothing goes for it but by the limit: no group is open, and
-- nothing is left to make again.
pub record TakesBytes (log : Log) : Type 0 where
  pub closed : log.group ≡ None
  pub none : log.redo ≡ []

-- So are those of an edit of a large array together, in the order in which they were made.
abbrev pub all_added_to : Option (List Change) → List Change → Log → Log
all_added_to None cs log = record (with_entry (entries.Group (reverse cs)) log) {
  redo = [];
  redo_names = [];
  touched = all_places Forwards cs;
}
all_added_to (Some ds) cs log = record (without_redo log) {
  group = Some (reverse cs ++ ds);
  touched = all_places Forwards cs;
}

abbrev pub with_changes : List Change → Log → Log
with_changes cs log = all_added_to log.group cs log

-- the group is the newest entry, if it has changes
abbrev pub closed_with : Option (List Change) → Log → Log
closed_with None log = log
closed_with (Some []) log = record log { group = None }
closed_with (Some (c ∷ cs)) log = record (with_entry (entries.Group (c ∷ cs)) log) { group = None }

abbrev pub with_group_closed : Log → Log
with_group_closed log = closed_with log.group log

-- the next entry in a direction is the next in the opposite one, and its name goes along
abbrev pub moved_from : Direction → List LogEntry → Log → Log
moved_from direction [] log = log
moved_from Backwards (e ∷ es) log = record log {
  undo = es;
  redo = reversed_entry e ∷ log.redo;
  undo_names = drop 1 log.undo_names;
  redo_names = take 1 log.undo_names ++ log.redo_names;
  updated_at = position_after_undo log.updated_at;
  saved_at = position_after_undo log.saved_at;
  touched = next_places Backwards e;
}
moved_from Forwards (e ∷ es) log = record log {
  undo = reversed_entry e ∷ log.undo;
  redo = es;
  undo_names = take 1 log.redo_names ++ log.undo_names;
  redo_names = drop 1 log.redo_names;
  updated_at = position_after_redo log.updated_at;
  saved_at = position_after_redo log.saved_at;
  touched = next_places Forwards e;
}

abbrev pub next_moved : Direction → Log → Log
next_moved direction log = moved_from direction (next_entries direction log) log

-- The newest two entries are one group, of which the changes of the newer one are made first.
abbrev pub joined_entries : List LogEntry → List LogEntry
joined_entries (e ∷ f ∷ es) = entries.Group (changes_in e ++ changes_in f) ∷ es
joined_entries es = es

abbrev pub joined_log : Log → Log
joined_log log = record log {
  undo = joined_entries log.undo;
  undo_names = joined_names log.undo_names;
  updated_at = position_after_join log.updated_at;
  saved_at = position_after_join log.saved_at;
}

-- the newest entry has this name
abbrev pub named_log : List ℕ → Log → Log
named_log name log = record log { undo_names = name ∷ drop 1 log.undo_names }

-- no more than so many entries are left to be undone, the newest
abbrev pub forgotten_log : ℕ → Log → Log
forgotten_log most log = record log {
  undo = limited (Some most) log.undo;
  undo_names = limited (Some most) log.undo_names;
  updated_at = position_within (Some most) log.updated_at;
  saved_at = position_within (Some most) log.saved_at;
}

-- the document becomes the updated one, or both
abbrev pub updated_log : Log → Log
updated_log log = record log { updated_at = Back 0 }

abbrev pub saved_log : Log → Log
saved_log log = record log { updated_at = Back 0; saved_at = Back 0 }

-- after a revert nothing is left to undo or to make again, and the limit stays
abbrev pub reverted_log : Log → Log
reverted_log log = record (fresh_log true) { touched = place.All ∷ []; limit = log.limit }

-- after the open group was taken back
abbrev pub abandoned_log : Log → Log
abandoned_log log = record log { group = None; touched = all_places Backwards (open_changes log.group) }

-- a log that tells what was touched last
abbrev pub retold : Touched → Log → Log
retold last log = record log { touched = told last (newest_changes log.undo log.group) (next_changes log.redo) }

-- no more are left to be undone than a limit says
abbrev pub limited_log : Option ℕ → Log → Log
limited_log None log = log
limited_log (Some most) log = forgotten_log most log

-- A log, what it tells of, whether there is a place for an entry more, to which entries that can be made again give
-- way, and how many changes more the open group has room for.
pub record LogState : Type 0 where
  pub lists : Log
  pub last : Touched
  pub place : Bool
  pub spare : ℕ

-- the log once an entry is the newest, of which alone is told
abbrev pub pushed_log : NamedEntry → LogState → Log
pushed_log e s = record (with_named e s.lists) { touched = told s.last (changes_in e.entry) [] }
