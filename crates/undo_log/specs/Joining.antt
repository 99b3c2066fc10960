-- What becomes of entries that are joined.
use Rattle.std.specs.Prelude.{List, ◌∷◌, ◌++◌}
use Rattle.geos_model.specs.Machine.{joined_name}
use Rattle.undo_log.specs.Entries.{NamedEntry}
use Rattle.undo_log.specs.Entries as entries
use Rattle.undo_log.specs.Telling.{changes_in}

-- One entry of two, of which the changes of the newer one are made first: it has the newer one's name, else the older
-- one's.
abbrev pub joined : NamedEntry → NamedEntry → NamedEntry
joined newer older = record {
  entry = entries.Group (changes_in newer.entry ++ changes_in older.entry);
  name = joined_name newer.name older.name;
}

-- the first two are one
abbrev pub with_joined : List NamedEntry → List NamedEntry
with_joined (e ∷ f ∷ es) = joined e f ∷ es
with_joined es = es
