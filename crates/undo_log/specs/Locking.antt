-- What locks refuse.
use Rattle.std.specs.Prelude.{◌≡◌, Bool, true, false, nat_lt, List}
use Rattle.geos_model.specs.Machine.{is_barred}
use Rattle.geos_model.specs.declared.command.Edit.{Edit}
use Rattle.geos_model.specs.declared.command.Edit.TheVariants as edits
use Rattle.geos_model.specs.declared.fault.Fault.{Fault}
use Rattle.geos_model.specs.declared.fault.Fault.TheVariants.{Locked}
use Rattle.vm_blocks.specs.State.{ResidentBlock, locks_of, locked_count}
use Rattle.undo_log.specs.Sessions.{SessionState, machine_of}

-- whether an edit frees a block that is locked of these in memory, or copies or frees a chain or changes a large array
-- while any is
abbrev pub bars : List ResidentBlock → Edit → Bool
bars residents (edits.FreeBlock b) = nat_lt 0 (locks_of residents b.0)
bars residents (edits.CopyChain b) = nat_lt 0 (locked_count residents)
bars residents (edits.FreeChain b) = nat_lt 0 (locked_count residents)
bars residents (edits.InsertLarge b i bytes) = nat_lt 0 (locked_count residents)
bars residents (edits.SetLarge b i bytes) = nat_lt 0 (locked_count residents)
bars residents (edits.DeleteLarge b i n) = nat_lt 0 (locked_count residents)
bars residents e = false

-- The edit is Locked.
abbrev pub IsBarred : {S : Type 0} → Edit → SessionState S → Fault → Type 0
IsBarred edit s fault = (fault ≡ Locked) × ((target : Bool) → is_barred edit (machine_of target s) ≡ true)
