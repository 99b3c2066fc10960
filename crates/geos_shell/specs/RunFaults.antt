-- What the faults of a run are called, and why a run ends by one.
use Rattle.std.specs.Prelude.{ℕ, List, ◌++◌, codes, ⊤}
use Rattle.std.specs.Fmt.{decimal}
use Rattle.geos_shell.specs.declared.runner.RunFault.{RunFault}
use Rattle.geos_shell.specs.declared.runner.RunFault.TheVariants as faults

abbrev pub run_fault_text : RunFault → List ℕ
run_fault_text faults.Read = codes "read fault"
run_fault_text faults.Write = codes "write fault"
run_fault_text faults.Memory = codes "memory"
run_fault_text (faults.Refused line) = codes "line " ++ decimal line ++ codes " is refused"

-- the cause of a fault: of a read's or a write's this, of others any
abbrev pub HasCause : RunFault → Type 0 → Type 0 → Type 0
HasCause faults.Read reading writing = reading
HasCause faults.Write reading writing = writing
HasCause faults.Memory reading writing = ⊤
HasCause (faults.Refused line) reading writing = ⊤
