-- Where changes, entries and a log changed the document.
use Rattle.std.specs.Prelude.{ℕ, List, [], ◌∷◌, min, reverse, take, Option, Some}
use Rattle.std.specs.List.{flat_map}
use Rattle.geos_model.specs.declared.place.Place.{Place}
use Rattle.geos_model.specs.declared.place.Place.TheVariants as place
use Rattle.vm_blocks.specs.ChangePlaces.{change_places, directed_places}
use Rattle.vm_blocks.specs.declared.change.Change.{Change}
use Rattle.chunk_edits.specs.declared.direction.Direction.{Direction}
use Rattle.chunk_edits.specs.declared.direction.Direction.TheVariants.{Backwards, Forwards}
use Rattle.undo_log.specs.Entries.{LogEntry}
use Rattle.undo_log.specs.Entries as entries
use Rattle.undo_log.specs.declared.touched.Touched.{Touched}
use Rattle.undo_log.specs.declared.touched.Touched.TheVariants as touched

-- the changes of an entry, the one that is made next first
abbrev pub changes_in : LogEntry → List Change
changes_in (entries.One c) = c ∷ []
changes_in (entries.Group cs) = cs

-- those of changes that are made in a direction one after another
abbrev pub all_places : Direction → List Change → List Place
all_places direction cs = flat_map (directed_places direction) cs

-- those of an entry that is made in a direction
abbrev pub next_places : Direction → LogEntry → List Place
next_places direction (entries.One c) = directed_places direction c
next_places direction (entries.Group cs) = all_places direction cs

-- those of an entry that can be undone, as it was made
abbrev pub made_places : LogEntry → List Place
made_places (entries.One c) = change_places c
made_places (entries.Group cs) = all_places Forwards (reverse cs)

-- those of the first of some entries, none where there is none
abbrev pub next_changes : List LogEntry → List Change
next_changes [] = []
next_changes (e ∷ es) = changes_in e

-- the newest changes, the newest first: of the open group or, where it has none, of the newest entry
abbrev pub newest_changes : List LogEntry → Option (List Change) → List Change
newest_changes undo (Some (c ∷ cs)) = c ∷ cs
newest_changes undo group = next_changes undo

-- What is told, by what was touched last, the newest changes, and those to be made again.
abbrev pub told : Touched → List Change → List Change → List Place
told touched.Nothing newest next = []
told touched.All newest next = place.All ∷ []
told (touched.Newest n) newest next = all_places Forwards (reverse (take n newest))
told touched.Undone newest next = all_places Backwards (reverse next)
told (touched.At place) newest next = place ∷ []
told (touched.Forgotten e) newest next = all_places Forwards (reverse (changes_in e.entry))
told (touched.Abandoned cs) newest next = all_places Backwards cs

-- of no more than so many of the newest changes
abbrev pub clipped : ℕ → Touched → Touched
clipped most (touched.Newest n) = touched.Newest (min n most)
clipped most last = last
