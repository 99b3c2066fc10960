-- Outcomes that are no fault of a run that read or wrote.
use Rattle.std.proofs.Common.{◌≡◌, inl, inr, subst, sym}
use Rattle.vm_store.specs.Facts.{StoreFacts}
use Rattle.vm_store.specs.Files.{Opener}
use Rattle.command_lines.specs.Options.{CommandLine}
use Rattle.command_lines.specs.declared.asked.NoOptions.{NoOptions}
use Rattle.command_lines.specs.declared.asked.NoOptions.TheVariants as no_options
use Rattle.geos_shell.specs.Outcome.{HasRunCause, IsUnread, without_options}
use Rattle.geos_shell.specs.Program.{IsScriptNotAnswered}
use Rattle.geos_shell.specs.declared.outcome.Outcome.{Outcome}
use Rattle.geos_shell.specs.declared.outcome.Outcome.TheVariants as outcomes
use Rattle.geos_shell.specs.declared.runner.RunFault.TheVariants as faults

-- where the words give no options
pub refused_cause : (P Q : Type 0) (none : NoOptions) (outcome : Outcome) → outcome ≡ without_options none → HasRunCause outcome P Q
refused_cause P Q none outcome is = subst (λ (o : Outcome). HasRunCause o P Q) (sym is) (by none)
  where
    by : (none : NoOptions) → HasRunCause (without_options none) P Q
    by (no_options.Usage text) = tt
    by (no_options.Help text) = tt
    by (no_options.Version text) = tt
    by no_options.SameFile = tt
    by no_options.Memory = tt

-- where the words couldn't be read
pub unread_cause : (P Q : Type 0) (outcome : Outcome) → IsUnread outcome → HasRunCause outcome P Q
unread_cause P Q (outcomes.Run faults.Memory) h = tt
unread_cause P Q (outcomes.Run (faults.Refused line)) h = tt
unread_cause P Q (outcomes.Run faults.Read) h = absurd h
unread_cause P Q (outcomes.Run faults.Write) h = absurd h
unread_cause P Q (outcomes.Usage text) h = tt
unread_cause P Q (outcomes.Help text) h = tt
unread_cause P Q (outcomes.Version text) h = tt
unread_cause P Q outcomes.SameFile h = tt
unread_cause P Q (outcomes.Create fault) h = tt
unread_cause P Q (outcomes.Open fault) h = tt
unread_cause P Q outcomes.Target h = tt
unread_cause P Q outcomes.Done h = tt

-- where no session was begun
pub not_begun_cause : {F S : Type 0} (P Q : Type 0) (calls : Opener F S) (facts : S → StoreFacts) (line : CommandLine) (old new : F) (outcome : Outcome) → IsScriptNotAnswered calls facts line old new outcome → HasRunCause outcome P Q
not_begun_cause P Q calls facts line old new (outcomes.Run fault) (inl fails) = absurd fails.1
not_begun_cause P Q calls facts line old new (outcomes.Run fault) (inr given_up) = absurd given_up.rest
not_begun_cause P Q calls facts line old new (outcomes.Usage text) h = tt
not_begun_cause P Q calls facts line old new (outcomes.Help text) h = tt
not_begun_cause P Q calls facts line old new (outcomes.Version text) h = tt
not_begun_cause P Q calls facts line old new outcomes.SameFile h = tt
not_begun_cause P Q calls facts line old new (outcomes.Create fault) h = tt
not_begun_cause P Q calls facts line old new (outcomes.Open fault) h = tt
not_begun_cause P Q calls facts line old new outcomes.Target h = tt
not_begun_cause P Q calls facts line old new outcomes.Done h = tt
