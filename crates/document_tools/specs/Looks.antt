-- What is told of a file that can't be looked at, and of a text that is written.
use Rattle.std.specs.Prelude.{◌≡◌, ◌≢◌, ◌⊎◌, ℕ, List, IsTrue, Ok, Err}
use Rattle.file_format.specs.File.{stands}
use Rattle.geos_model.specs.declared.fault.Fault.{Fault}
use Rattle.geos_model.specs.declared.fault.Fault.TheVariants.{File, Memory}
use Rattle.vm_store.specs.Facts.{StoreFacts, FailedSince}
use Rattle.geos_shell.specs.Streams.{WriteCalls}
use Rattle.geos_shell.specs.declared.streams.WriteFault.{WriteFault}
use Rattle.document_tools.specs.Endings.{IsRefusedFor}
use Rattle.document_tools.specs.Obstacles.{refusal_line}
use Rattle.document_tools.specs.declared.ending.Ending.{Ending}
use Rattle.document_tools.specs.declared.ending.Ending.TheVariants as endings
use Rattle.document_tools.specs.declared.obstacle.Obstacle.{Obstacle}
use Rattle.document_tools.specs.declared.obstacle.Obstacle.TheVariants.{Unopened, Unread}

-- What comes of a file that isn't opened: lack of memory and a file that can't be read are told as such, all else as
-- this obstacle.
abbrev pub EndsUnopened : List ℕ → Fault → Obstacle → Ending → Type 0
EndsUnopened file fault obstacle ending =
    ((fault ≡ Memory) × (ending ≡ endings.Memory))
    ⊎ (((fault ≡ File) × IsRefusedFor file Unread ending)
    ⊎ ((fault ≢ Memory) × (fault ≢ File) × IsRefusedFor file obstacle ending))

-- the line says that the file can't be read, and the store failed in this very call, or it says for what the file
-- doesn't open
abbrev pub IsUnlookedAt : List ℕ → StoreFacts → StoreFacts → List ℕ → Type 0
IsUnlookedAt file from to line =
    ((line ≡ refusal_line file Unread) × FailedSince from to)
    ⊎ ((fault : Fault) × (line ≡ refusal_line file (Unopened fault))
    × (IsTrue from.honest → stands from.content ≡ Err fault))

-- a text was written in one write, or that failed
abbrev pub SendsText : {W : Type 0} → WriteCalls W → List ℕ → W → W → Ending → Type 0
SendsText writes text old new endings.Done = writes old text (Ok tt) new
SendsText writes text old new endings.WriteFault = (fault : WriteFault) × writes old text (Err fault) new
SendsText writes text old new ending = ⊥
