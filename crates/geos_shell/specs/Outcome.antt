-- What the program ends with, by what a run of it comes to.
use Rattle.std.specs.Prelude.{◌≡◌, ◌⊎◌, ℕ, List, [], ◌∷◌, ◌++◌, codes, Result, Ok, Err, ⊤}
use Rattle.std.specs.Fmt.{decimal}
use Rattle.geos_model.specs.Script.{line_feed}
use Rattle.geos_model.specs.Refusal.{number_of_fault, name_of_fault}
use Rattle.geos_model.specs.declared.fault.Fault.{Fault}
use Rattle.geos_model.specs.declared.fault.Fault.TheVariants.{File}
use Rattle.command_lines.specs.declared.asked.NoOptions.{NoOptions}
use Rattle.command_lines.specs.declared.asked.NoOptions.TheVariants as no_options
use Rattle.geos_shell.specs.declared.runner.RunFault.{RunFault}
use Rattle.geos_shell.specs.declared.runner.RunFault.TheVariants as faults
use Rattle.geos_shell.specs.declared.streams.WriteFault.{WriteFault}
use Rattle.geos_shell.specs.RunFaults.{HasCause, run_fault_text}
use Rattle.geos_shell.specs.Streams.{WriteCalls}
use Rattle.geos_shell.specs.declared.outcome.Outcome.{Outcome}
use Rattle.geos_shell.specs.declared.outcome.Outcome.TheVariants as outcomes

-- what a run comes to whose words give no options
abbrev pub without_options : NoOptions → Outcome
without_options (no_options.Usage text) = outcomes.Usage text
without_options (no_options.Help text) = outcomes.Help text
without_options (no_options.Version text) = outcomes.Version text
without_options no_options.SameFile = outcomes.SameFile
without_options no_options.Memory = outcomes.Run faults.Memory

-- the exit status
abbrev pub status_of : Outcome → ℕ
status_of outcomes.Done = 0
status_of (outcomes.Help text) = 0
status_of (outcomes.Version text) = 0
status_of (outcomes.Create fault) = 1
status_of (outcomes.Open fault) = 1
status_of outcomes.Target = 1
status_of (outcomes.Run fault) = 1
status_of (outcomes.Usage text) = 2
status_of outcomes.SameFile = 2

-- a line that tells where a fault was met, and which
abbrev pub fault_line : List ℕ → Fault → List ℕ
fault_line place fault =
    codes "geosvm: " ++ place ++ codes " " ++ decimal (number_of_fault fault) ++ codes " " ++ name_of_fault fault
    ++ line_feed ∷ []

abbrev pub run_line : RunFault → List ℕ
run_line fault = codes "geosvm: " ++ run_fault_text fault ++ line_feed ∷ []

-- what is written: help and the version on standard output, all else on standard error
abbrev pub outcome_text : Outcome → List ℕ
outcome_text outcomes.Done = []
outcome_text (outcomes.Help text) = text
outcome_text (outcomes.Version text) = text
outcome_text (outcomes.Create fault) = fault_line (codes "create") fault
outcome_text (outcomes.Open fault) = fault_line (codes "open") fault
outcome_text outcomes.Target = fault_line (codes "target") File
outcome_text (outcomes.Run fault) = run_line fault
outcome_text (outcomes.Usage text) = text
outcome_text outcomes.SameFile = codes "geosvm: FILE2 is FILE" ++ line_feed ∷ []

-- The line of an outcome was written to standard error, or, if it were longer than any is, that memory ran out,
-- whatever came of the write.
pub record PrintsOutcomeLine {E : Type 0} (writes : WriteCalls E) (outcome : Outcome) (old new : E) : Type 0 where
  pub text : List ℕ
  pub is : (text ≡ outcome_text outcome) ⊎ (text ≡ run_line faults.Memory)
  pub result : Result (Unit {0}) WriteFault
  pub written : writes old text result new

-- A text was written to standard output, or that failed, which is told as a write fault.
abbrev pub PrintsText : {W E : Type 0} → WriteCalls W → WriteCalls E → List ℕ → W → W → E → E → ℕ → Type 0
PrintsText out_writes error_writes text out_old out_new old new status =
    (out_writes out_old text (Ok tt) out_new × (new ≡ old) × (status ≡ 0))
    ⊎ ((fault : WriteFault) × out_writes out_old text (Err fault) out_new
    × PrintsOutcomeLine error_writes (outcomes.Run faults.Write) old new × (status ≡ 1))

-- What is told, and the exit status.
abbrev pub PrintsOutcome : {W E : Type 0} → WriteCalls W → WriteCalls E → Outcome → W → W → E → E → ℕ → Type 0
PrintsOutcome out_writes error_writes (outcomes.Help text) out_old out_new old new status =
    PrintsText out_writes error_writes text out_old out_new old new status
PrintsOutcome out_writes error_writes (outcomes.Version text) out_old out_new old new status =
    PrintsText out_writes error_writes text out_old out_new old new status
PrintsOutcome out_writes error_writes outcomes.Done out_old out_new old new status =
    (out_new ≡ out_old) × (new ≡ old) × (status ≡ 0)
PrintsOutcome out_writes error_writes outcome out_old out_new old new status =
    (out_new ≡ out_old) × PrintsOutcomeLine error_writes outcome old new × (status ≡ status_of outcome)

-- why a run ended, where a read or a write ended it
abbrev pub HasRunCause : Outcome → Type 0 → Type 0 → Type 0
HasRunCause (outcomes.Run fault) reading writing = HasCause fault reading writing
HasRunCause outcome reading writing = ⊤

-- what words come to that can't be read
abbrev pub IsUnread : Outcome → Type 0
IsUnread (outcomes.Usage text) =
    text ≡ codes "error: invalid UTF-8 was detected in one or more arguments" ++ line_feed ∷ []
IsUnread (outcomes.Run faults.Memory) = ⊤
IsUnread outcome = ⊥
