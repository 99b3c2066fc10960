-- What is told where a command line asks for nothing.
use Rattle.std.specs.Prelude.{◌≡◌, ◌⊎◌, ℕ, List, codes, Some, Ok, Err}
use Rattle.geos_shell.specs.Streams.{WriteCalls}
use Rattle.geos_shell.specs.declared.streams.WriteFault.{WriteFault}
use Rattle.document_tools.specs.Endings.{PrintsLine, error_line, memory_line}
use Rattle.document_tools.specs.declared.ending.Ending.TheVariants as endings
use Rattle.document_commands.specs.declared.requested.NoRequest.{NoRequest}
use Rattle.document_commands.specs.declared.requested.NoRequest.TheVariants as requests

-- a text was written to standard output, or that failed, which is told as a write fault
abbrev pub PrintsRequestedText : {W E : Type 0} → WriteCalls W → WriteCalls E → List ℕ → W → W → E → E → ℕ → Type 0
PrintsRequestedText out_writes error_writes text from to old new status =
    (out_writes from text (Ok tt) to × (new ≡ old) × (status ≡ 0))
    ⊎ ((fault : WriteFault) × out_writes from text (Err fault) to
    × PrintsLine error_writes (error_line endings.WriteFault) old new × (status ≡ 1))

-- a text was written to standard error
abbrev pub PrintsError : {W E : Type 0} → WriteCalls E → List ℕ → W → W → E → E → Type 0
PrintsError error_writes text from to old new = (to ≡ from) × PrintsLine error_writes (Some text) old new

-- what is told, and the exit status
abbrev pub PrintsNoRequest : {W E : Type 0} → WriteCalls W → WriteCalls E → NoRequest → W → W → E → E → ℕ → Type 0
PrintsNoRequest out_writes error_writes (requests.Told text) from to old new status =
    PrintsRequestedText out_writes error_writes text from to old new status
PrintsNoRequest out_writes error_writes (requests.Usage text) from to old new status =
    PrintsError error_writes text from to old new × (status ≡ 2)
PrintsNoRequest out_writes error_writes requests.Unread from to old new status =
    PrintsError error_writes (codes "geosdoc: the command line can't be read\n") from to old new × (status ≡ 2)
PrintsNoRequest out_writes error_writes requests.Memory from to old new status =
    PrintsError error_writes memory_line from to old new × (status ≡ 1)
