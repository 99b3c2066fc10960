-- What is told of a file as a script of all that can be read of it.
use Rattle.std.specs.Prelude.{◌≡◌, ◌≢◌, ◌⊎◌, ℕ, List, Bool, true, false, IsTrue, Option, None, Some, Result, Ok, Err, ⊤}
use Rattle.std.specs.Io.KnownBytes.{Appends}
use Rattle.geos_model.specs.Document.{Document}
use Rattle.file_format.specs.File.{stands}
use Rattle.geos_model.specs.declared.fault.Fault.{Fault}
use Rattle.geos_model.specs.declared.fault.Fault.TheVariants as faults
use Rattle.vm_store.specs.Facts.{StoreFacts, FailedSince}
use Rattle.document_file.specs.Opened.{OnlyReadsStore}
use Rattle.geos_shell.specs.Streams.{StopsWriting, WriteCalls}
use Rattle.document_dump.specs.Dumps.{dump_text}
use Rattle.document_dump.specs.declared.dumping.Which.TheVariants.{Both}
use Rattle.document_dump.specs.declared.fault.DumpFault.{DumpFault}
use Rattle.file_salvage.specs.Salvaged.{salvage_text}
use Rattle.document_tools.specs.DumpedFiles.{EndsFault}
use Rattle.document_tools.specs.Endings.{IsRefusedFor}
use Rattle.document_tools.specs.Obstacles.{refusal_line}
use Rattle.document_tools.specs.Views.{LooksAt, Views}
use Rattle.document_tools.specs.declared.ending.Ending.{Ending}
use Rattle.document_tools.specs.declared.ending.Ending.TheVariants as endings
use Rattle.document_tools.specs.declared.obstacle.Obstacle.TheVariants.{Changed, Unread, Unsalvaged, Unviewed}

-- the dump of documents that stand, or else this script
abbrev pub dump_or : Result (Document × Document) Fault → Option (List ℕ) → Option (List ℕ)
dump_or (Ok documents) script = Some (dump_text Both documents.0 documents.1)
dump_or (Err fault) script = script

-- the script of a file: its dump where it opens, and else what is salvaged of it, all that can be read or what is whole
abbrev pub file_script : Bool → List ℕ → Option (List ℕ)
file_script all file = dump_or (stands file) (salvage_text all file)

-- it is told whether there is a script, and it is written
abbrev pub HasSalvage : Option (List ℕ) → Bool → Option (List ℕ) → Option (List ℕ) → Type 0
HasSalvage None some from to = some ≡ false
HasSalvage (Some script) some from to = (some ≡ true) × Appends from to script

-- What comes of a salvage: it is written, or there is none, or it isn't written, or not whole.
abbrev pub EndsSalvage : List ℕ → Result Bool DumpFault → Ending → Type 0
EndsSalvage file (Ok true) ending = ending ≡ endings.Done
EndsSalvage file (Ok false) ending = IsRefusedFor file Unsalvaged ending
EndsSalvage file (Err fault) ending = EndsFault file fault ending

-- What comes of it for a store, by the script of its bytes: it is written, or there is none, or it isn't written, or
-- not whole. A write fault is told only where the last write failed, and that a block has changed since it was looked
-- at only of a store that isn't honest.
abbrev pub Salvages : {W : Type 0} → (W → Option (List ℕ)) → WriteCalls W → List ℕ → (List ℕ → Option (List ℕ))
    → StoreFacts → StoreFacts → W → W → Ending → Type 0
Salvages contents writes file script from to old new endings.Done =
    IsTrue from.honest → (text : List ℕ) × (script from.content ≡ Some text)
    × Appends (contents old) (contents new) text
Salvages contents writes file script from to old new (endings.Refused line) =
    ((line ≡ refusal_line file Unread) × FailedSince from to)
    ⊎ ((line ≡ refusal_line file Unsalvaged) × (IsTrue from.honest → script from.content ≡ None))
    ⊎ ((line ≡ refusal_line file Changed) × (IsTrue from.honest → ⊥))
Salvages contents writes file script from to old new endings.Memory = ⊤
Salvages contents writes file script from to old new endings.WriteFault = ∥ StopsWriting writes new ∥₁
Salvages contents writes file script from to old new ending = ⊥

-- What comes of it for a store that doesn't open for a fault: lack of memory and a file that can't be read are told as
-- such, and else it is salvaged.
abbrev pub SalvagesUnopened : {W : Type 0} → (W → Option (List ℕ)) → WriteCalls W → List ℕ → Bool → Fault → StoreFacts
    → StoreFacts → W → W → Ending → Type 0
SalvagesUnopened contents writes file all fault from to old new ending =
    ((fault ≡ faults.Memory) × (ending ≡ endings.Memory))
    ⊎ (((fault ≡ faults.File) × IsRefusedFor file Unread ending)
    ⊎ ((fault ≢ faults.Memory) × (fault ≢ faults.File)
    × Salvages contents writes file (salvage_text all) from to old new ending))

-- What comes of it for the file of a name: it is opened to be read alone, and salvaged, and nothing is written to it.
abbrev pub SalvagesFile : {V S W : Type 0} → Views V S → (S → StoreFacts) → (W → Option (List ℕ)) → WriteCalls W
    → List ℕ → Bool → V → V → W → W → Ending → Type 0
SalvagesFile {V} {S} views facts contents writes file all old new from to ending =
    LooksAt views file old new (λ cause. IsRefusedFor file (Unviewed cause) ending × (to ≡ from))
    (λ store. (left : S) × OnlyReadsStore (facts store) (facts left)
    × Salvages contents writes file (file_script all) (facts store) (facts left) from to ending)
