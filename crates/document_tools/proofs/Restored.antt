-- Why the run of a restore ends.
use Rattle.std.proofs.Common.{Result, Ok, Err, IfErr}
use Rattle.geos_shell.specs.RunFaults.{HasCause}
use Rattle.geos_shell.specs.declared.runner.RunFault.{RunFault}
use Rattle.geos_shell.specs.declared.runner.RunFault.TheVariants as run_faults

-- where no write can fail none is a cause
pub caused : (reading writing : Type 0) (result : Result (Unit {0}) RunFault) → (writing → ⊥) → IfErr result (λ fault. HasCause fault reading writing)
    → IfErr result (λ fault. HasCause fault reading ⊥)
caused reading writing (Ok v) none cause = cause
caused reading writing (Err run_faults.Read) none cause = cause
caused reading writing (Err run_faults.Write) none cause = none cause
caused reading writing (Err run_faults.Memory) none cause = cause
caused reading writing (Err (run_faults.Refused number)) none cause = cause
