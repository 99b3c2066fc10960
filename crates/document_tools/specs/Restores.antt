-- A restore: a script makes the document of a file that wasn't there.
use Rattle.std.specs.Prelude.{◌≡◌, ◌≢◌, ◌⊎◌, ℕ, List, [], ◌++◌, codes, Bool, true, false, IsTrue, Option, None, Result, Ok, Err, IfErr, ⊤}
use Rattle.std.specs.Fmt.{decimal}
use Rattle.vm_store.specs.Facts.{StoreFacts}
use Rattle.vm_store.specs.Files.{Opener}
use Rattle.vm_store.specs.declared.fault.StoreFault.{StoreFault}
use Rattle.document_file.specs.Opened.{OnlyReadsStore}
use Rattle.geos_model.specs.declared.fault.Fault.{Fault}
use Rattle.geos_model.specs.declared.fault.Fault.TheVariants.{Memory}
use Rattle.undo_log.specs.Sessions.{SessionState}
use Rattle.geos_replies.specs.Holdings.{Holding, holding}
use Rattle.geos_shell.specs.Program.{IsCreated, IsNotCreated}
use Rattle.geos_shell.specs.RunFaults.{HasCause}
use Rattle.geos_shell.specs.Runs.{RunsTo}
use Rattle.geos_shell.specs.declared.runner.ScriptOptions.{ScriptOptions}
use Rattle.geos_shell.specs.declared.runner.RunFault.{RunFault}
use Rattle.geos_shell.specs.declared.runner.RunFault.TheVariants as run_faults
use Rattle.document_tools.specs.Endings.{IsRefusedFor}
use Rattle.document_tools.specs.declared.ending.Ending.{Ending}
use Rattle.document_tools.specs.declared.ending.Ending.TheVariants as endings
use Rattle.document_tools.specs.declared.obstacle.MakeFault.{MakeFault}
use Rattle.document_tools.specs.declared.obstacle.MakeFault.TheVariants.{Failed}
use Rattle.document_tools.specs.declared.obstacle.Obstacle.TheVariants.{Unmade}

-- ---- how the file is made

-- a file of a name is made where nothing of that name is, or it isn't
abbrev pub MakeCalls : Type 0 → Type 1
MakeCalls M = M → List ℕ → Result (Unit {0}) MakeFault → M → Type 0

-- A file of the name was made where none was, then it was opened, and it is empty.
pub record MakesFile {F S M : Type 0} (calls : Opener F S) (facts : S → StoreFacts) (makes : MakeCalls M)
    (name : List ℕ)
    (old : F) (from : M) (store : S) (new : F) (to : M) : Type 0 where
  pub guarded : F
  pub guards : calls.guards old (Ok tt) guarded
  pub made : makes from name (Ok tt) to
  pub first : S
  pub opens : calls.opens guarded name true (Ok first) new
  pub looks : OnlyReadsStore (facts first) (facts store)
  pub empty : IsTrue (facts first).honest → (facts first).content ≡ []

-- the file that was made can't be opened, or it was, and its bytes couldn't be counted or are some; then it is closed
abbrev pub IsUnusable : {F S : Type 0} → Opener F S → (S → StoreFacts) → List ℕ → F → F → Type 0
IsUnusable {F} {S} calls facts name old new =
    ((cause : StoreFault) × calls.opens old name true (Err cause) new)
    ⊎ ((first : S) × (opened : F) × (left : S) × calls.opens old name true (Ok first) opened
    × OnlyReadsStore (facts first) (facts left) × calls.closes opened left new)

-- No file is made for this fault, and none is opened; or what was made can't be used.
abbrev pub MakesNone : {F S M : Type 0} → Opener F S → (S → StoreFacts) → MakeCalls M → List ℕ → F → M → F → M
    → MakeFault
    → Type 0
MakesNone {F} calls facts makes name old from new to fault =
    ((cause : StoreFault) × calls.guards old (Err cause) new × (to ≡ from) × (fault ≡ Failed))
    ⊎ ((guarded : F) × calls.guards old (Ok tt) guarded
    × ((makes from name (Err fault) to × (new ≡ guarded))
    ⊎ (makes from name (Ok tt) to × IsUnusable calls facts name guarded new)))

-- ---- what is done with it

-- the first refusal ends the script, and its lines aren't echoed
abbrev pub script_options : ScriptOptions
script_options = record { bails = true; echoes = false }

-- how many frames the cache has
abbrev pub frames : ℕ
frames = 8

-- the line that tells which line of the script is refused, by this reply
abbrev pub refused_start : List ℕ → ℕ → List ℕ
refused_start file number =
    codes "geosdoc: " ++ file ++ codes ": line " ++ decimal number ++ codes " of the script is refused: "

abbrev pub refused_line : List ℕ → ℕ → List ℕ → List ℕ
refused_line file number reply = refused_start file number ++ reply ++ codes "\n"

-- it is told that the line of this number is refused, or that there is no memory for that
abbrev pub EndsByRefusal : List ℕ → ℕ → Ending → Type 0
EndsByRefusal file number (endings.Refused line) = (reply : List ℕ) × (line ≡ refused_line file number reply)
EndsByRefusal file number endings.Memory = ⊤
EndsByRefusal file number ending = ⊥

-- how a restore ends, by what the run of its script came to
abbrev pub EndsRun : List ℕ → Result (Unit {0}) RunFault → Ending → Type 0
EndsRun file (Ok v) ending = ending ≡ endings.Done
EndsRun file (Err run_faults.Read) ending = ending ≡ endings.ReadFault
EndsRun file (Err run_faults.Memory) ending = ending ≡ endings.Memory
EndsRun file (Err run_faults.Write) ending = ending ≡ endings.WriteFault
EndsRun file (Err (run_faults.Refused number)) ending = EndsByRefusal file number ending

-- The script is run on a session, up to the first line that is refused, and then the file is closed. All replies are
-- taken, so that the run ends by no write fault.
pub record RunsScript {F S : Type 0} (calls : Opener F S) (facts : S → StoreFacts) (file : List ℕ)
    (session : SessionState S) (old : F) (from to : Option (List ℕ)) (reading : Type 0) (ending : Ending) (new : F)
    : Type 0 where
  pub result : Result (Unit {0}) RunFault
  pub left : Holding S
  pub runs : RunsTo result facts script_options (holding session None None) from to None None left
  pub cause : IfErr result (λ fault. HasCause fault reading ⊥)
  pub closes : calls.closes old left.session.disk.store new
  pub ends : EndsRun file result ending

-- No document could be made in the file: lack of memory is told as such, all else as a file that can't be made.
abbrev pub EndsUncreated : List ℕ → Fault → Ending → Type 0
EndsUncreated file fault ending =
    ((fault ≡ Memory) × (ending ≡ endings.Memory))
    ⊎ ((fault ≢ Memory) × IsRefusedFor file (Unmade Failed) ending)

-- A document is made in the empty file, with checksums or without, and the script is run on it; or there is none, and
-- the file is closed.
abbrev pub RestoresIn : {F S : Type 0} → Opener F S → (S → StoreFacts) → List ℕ → Bool → S → F → Option (List ℕ)
    → Option (List ℕ) → Type 0 → Ending → F → Type 0
RestoresIn {F} {S} calls facts file checksums store old from to reading ending new =
    ((fault : Fault) × (left : S) × IsNotCreated facts fault store left × calls.closes old left new
    × EndsUncreated file fault ending × (to ≡ from))
    ⊎ ((session : SessionState S) × IsCreated facts frames None checksums store session
    × RunsScript calls facts file session old from to reading ending new)

-- What a restore comes to. Nothing is opened but what was made before.
abbrev pub Restores : {F S M : Type 0} → Opener F S → (S → StoreFacts) → MakeCalls M → List ℕ → Bool → F → M → F → M
    → Option (List ℕ) → Option (List ℕ) → Type 0 → Ending → Type 0
Restores {F} {S} calls facts makes file checksums old made new makes_on from to reading ending =
    ((fault : MakeFault) × MakesNone calls facts makes file old made new makes_on fault
    × IsRefusedFor file (Unmade fault) ending × (to ≡ from))
    ⊎ ((store : S) × (opened : F) × MakesFile calls facts makes file old made store opened makes_on
    × RestoresIn calls facts file checksums store opened from to reading ending new)
