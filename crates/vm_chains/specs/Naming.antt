-- Names for the blocks that are linked to.
use Rattle.std.specs.Prelude.{ℕ, get_or}
use Rattle.vm_chains.specs.Alike.{mark_of}
use Rattle.vm_chains.specs.declared.renaming.Renaming.{Renaming}
use Rattle.vm_chains.specs.declared.renaming.Renaming.TheVariants.{Marks, Table}

-- the name of a handle
abbrev pub name_in : Renaming → ℕ → ℕ
name_in (Table names) h = get_or names.items h 0
name_in Marks h = mark_of h
