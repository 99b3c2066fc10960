-- What is seen of an entry as it lies in memory.
use Rattle.undo_log.specs.Entries.{NamedEntry, One, Group, unnamed}
use Rattle.undo_log.specs.declared.entry.Kept.{Kept}
use Rattle.undo_log.specs.declared.entry.Kept.TheVariants as kept

abbrev pub seen : Kept → NamedEntry
seen (kept.One c) = unnamed (One c)
seen (kept.NamedOne c name) = record { entry = One c.value; name = name.items }
seen (kept.Group cs name) = record { entry = Group cs; name = name.items }
