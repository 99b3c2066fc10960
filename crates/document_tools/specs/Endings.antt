-- How a tool ends: what is told of that on standard error, and the exit status.
use Rattle.std.specs.Prelude.{◌≡◌, ◌≢◌, ◌⊎◌, ℕ, List, Bool, false, true, codes, Option, Some, None, Result, Ok, Err, ⊤}
use Rattle.geos_model.specs.declared.fault.Fault.{Fault}
use Rattle.geos_model.specs.declared.fault.Fault.TheVariants.{Memory}
use Rattle.geos_shell.specs.Streams.{WriteCalls}
use Rattle.geos_shell.specs.declared.streams.WriteFault.{WriteFault}
use Rattle.document_tools.specs.Obstacles.{refusal_line}
use Rattle.document_tools.specs.declared.ending.Ending.{Ending}
use Rattle.document_tools.specs.declared.ending.Ending.TheVariants as endings
use Rattle.document_tools.specs.declared.ending.Trouble.{Trouble}
use Rattle.document_tools.specs.declared.ending.Trouble.TheVariants as troubles
use Rattle.document_tools.specs.declared.obstacle.Obstacle.{Obstacle}
use Rattle.document_tools.specs.declared.obstacle.Obstacle.TheVariants.{Unread}

-- How a tool ends whose pieces were gathered, by how its work did and whether the last write failed: well only where
-- both went well, as a write fault only where that write failed, and by another one only where the work did. Lack of
-- memory may end each.
abbrev pub IsEndOfPieces : {T F : Type 0} → F → F → Result T F → Bool → Result T F → Type 0
IsEndOfPieces memory write done failed (Ok value) = (done ≡ Ok value) × (failed ≡ false)
IsEndOfPieces memory write done failed (Err fault) =
    (fault ≡ memory) ⊎ ((fault ≡ write) × (failed ≡ true)) ⊎ ((fault ≢ write) × (done ≡ Err fault))

abbrev pub memory_line : List ℕ
memory_line = codes "geosdoc: memory\n"

abbrev pub write_fault_line : List ℕ
write_fault_line = codes "geosdoc: write fault\n"

-- the exit status
abbrev pub ending_status : Ending → ℕ
ending_status endings.Done = 0
ending_status endings.Unsound = 1
ending_status (endings.Refused line) = 1
ending_status endings.Memory = 1
ending_status endings.ReadFault = 1
ending_status endings.WriteFault = 1
ending_status endings.Different = 1
ending_status (endings.Uncompared trouble) = 2

abbrev pub trouble_line : Trouble → List ℕ
trouble_line (troubles.Refused line) = line
trouble_line troubles.Memory = memory_line
trouble_line troubles.WriteFault = write_fault_line

-- the line for standard error, if there is one
abbrev pub error_line : Ending → Option (List ℕ)
error_line endings.Done = None
error_line endings.Unsound = None
error_line (endings.Refused line) = Some line
error_line endings.Memory = Some memory_line
error_line endings.ReadFault = Some (codes "geosdoc: read fault\n")
error_line endings.WriteFault = Some write_fault_line
error_line endings.Different = None
error_line (endings.Uncompared trouble) = Some (trouble_line trouble)

-- a line is written, whatever comes of the write, or nothing where there is no line
abbrev pub PrintsLine : {E : Type 0} → WriteCalls E → Option (List ℕ) → E → E → Type 0
PrintsLine writes None old new = new ≡ old
PrintsLine writes (Some line) old new = (result : Result (Unit {0}) WriteFault) × writes old line result new

-- it is told that this stands against it, or that there is no memory for the line
abbrev pub IsRefusedFor : List ℕ → Obstacle → Ending → Type 0
IsRefusedFor file obstacle (endings.Refused line) = line ≡ refusal_line file obstacle
IsRefusedFor file obstacle endings.Memory = ⊤
IsRefusedFor file obstacle ending = ⊥

-- the same of two files that are to be compared
abbrev pub IsUncomparedFor : List ℕ → Obstacle → Ending → Type 0
IsUncomparedFor file obstacle (endings.Uncompared (troubles.Refused line)) = line ≡ refusal_line file obstacle
IsUncomparedFor file obstacle (endings.Uncompared troubles.Memory) = ⊤
IsUncomparedFor file obstacle ending = ⊥

-- What comes of a reading that failed: lack of memory is told as such, all else as a file that can't be read.
pub record EndsUnread (file : List ℕ) (fault : Fault) (ending : Ending) : Type 0 where
  pub memory : fault ≡ Memory → ending ≡ endings.Memory
  pub others : fault ≢ Memory → IsRefusedFor file Unread ending
