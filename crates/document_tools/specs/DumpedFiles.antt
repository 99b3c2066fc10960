-- What is told of a file as a script that makes documents of it again.
use Rattle.std.specs.Prelude.{◌≡◌, ◌⊎◌, ℕ, List, IsTrue, Option, Result, Ok, Err, ⊤}
use Rattle.std.specs.Io.KnownBytes.{Appends}
use Rattle.geos_model.specs.Document.{Document}
use Rattle.file_format.specs.File.{stands}
use Rattle.geos_model.specs.declared.fault.Fault.{Fault}
use Rattle.vm_store.specs.Facts.{StoreFacts, FailedSince}
use Rattle.document_file.specs.Opened.{OnlyReadsStore}
use Rattle.document_file.specs.StoredDocuments.{StoredState}
use Rattle.geos_shell.specs.Streams.{StopsWriting, WriteCalls}
use Rattle.document_dump.specs.Dumps.{dump_text}
use Rattle.document_dump.specs.declared.dumping.Which.{Which}
use Rattle.document_dump.specs.declared.fault.DumpFault.{DumpFault}
use Rattle.document_dump.specs.declared.fault.DumpFault.TheVariants as dump_faults
use Rattle.document_tools.specs.Endings.{IsRefusedFor}
use Rattle.document_tools.specs.Obstacles.{refusal_line}
use Rattle.document_tools.specs.Views.{LooksAt, Views}
use Rattle.document_tools.specs.declared.ending.Ending.{Ending}
use Rattle.document_tools.specs.declared.ending.Ending.TheVariants as endings
use Rattle.document_tools.specs.declared.obstacle.Obstacle.{Obstacle}
use Rattle.document_tools.specs.declared.obstacle.Obstacle.TheVariants.{Changed, Unopened, Unread, Unviewed}

-- what comes of a script that isn't written, or not whole
abbrev pub EndsFault : List ℕ → DumpFault → Ending → Type 0
EndsFault file dump_faults.Memory ending = ending ≡ endings.Memory
EndsFault file dump_faults.File ending = IsRefusedFor file Unread ending
EndsFault file dump_faults.Damaged ending = IsRefusedFor file Changed ending
EndsFault file dump_faults.Write ending = ending ≡ endings.WriteFault

-- what comes of a dump
abbrev pub EndsDump : List ℕ → Result (Unit {0}) DumpFault → Ending → Type 0
EndsDump file (Ok v) ending = ending ≡ endings.Done
EndsDump file (Err fault) ending = EndsFault file fault ending

-- What comes of the dump of a store, by what its bytes stand for and how a refusal of that is told: the script of these
-- documents is written, or it isn't, or not whole. A write fault is told only where the last write failed, and that a
-- block has changed since it was opened only of a store that isn't honest.
abbrev pub DumpsStood : {W : Type 0} → (W → Option (List ℕ)) → WriteCalls W → List ℕ → Which
    → (List ℕ → Result (Document × Document) Fault) → (Fault → Obstacle) → StoreFacts → StoreFacts → W → W → Ending
    → Type 0
DumpsStood contents writes file which stood told from to old new endings.Done =
    IsTrue from.honest → (updated : Document) × (saved : Document) × (stood from.content ≡ Ok (updated, saved))
    × Appends (contents old) (contents new) (dump_text which updated saved)
DumpsStood contents writes file which stood told from to old new (endings.Refused line) =
    ((line ≡ refusal_line file Unread) × FailedSince from to)
    ⊎ ((fault : Fault) × (line ≡ refusal_line file (told fault)) × (IsTrue from.honest → stood from.content ≡ Err fault))
    ⊎ ((line ≡ refusal_line file Changed) × (IsTrue from.honest → ⊥))
DumpsStood contents writes file which stood told from to old new endings.Memory = ⊤
DumpsStood contents writes file which stood told from to old new endings.WriteFault = ∥ StopsWriting writes new ∥₁
DumpsStood contents writes file which stood told from to old new ending = ⊥

-- of what the slot leads to that counts
abbrev pub DumpsStore : {W : Type 0} → (W → Option (List ℕ)) → WriteCalls W → List ℕ → Which → StoreFacts → StoreFacts
    → W
    → W → Ending → Type 0
DumpsStore contents writes file which from to old new ending =
    DumpsStood contents writes file which stands Unopened from to old new ending

-- The same of documents that are open.
abbrev pub DumpsOpen : {S W : Type 0} → (S → StoreFacts) → (W → Option (List ℕ)) → WriteCalls W → List ℕ → Which
    → StoredState S → StoredState S → W → W → Ending → Type 0
DumpsOpen facts contents writes name which from to old new endings.Done =
    IsTrue (facts from.store).honest
    → Appends (contents old) (contents new) (dump_text which from.updated from.saved)
DumpsOpen facts contents writes name which from to old new (endings.Refused line) =
    ((line ≡ refusal_line name Unread) × FailedSince (facts from.store) (facts to.store))
    ⊎ ((line ≡ refusal_line name Changed) × (IsTrue (facts from.store).honest → ⊥))
DumpsOpen facts contents writes name which from to old new endings.Memory = ⊤
DumpsOpen facts contents writes name which from to old new endings.WriteFault = ∥ StopsWriting writes new ∥₁
DumpsOpen facts contents writes name which from to old new ending = ⊥

-- What comes of it for the file of a name: it is opened to be read alone, and dumped, and nothing is written to it.
abbrev pub DumpsFile : {V S W : Type 0} → Views V S → (S → StoreFacts) → (W → Option (List ℕ)) → WriteCalls W → List ℕ
    → Which → V → V → W → W → Ending → Type 0
DumpsFile {V} {S} views facts contents writes file which old new from to ending =
    LooksAt views file old new (λ cause. IsRefusedFor file (Unviewed cause) ending × (to ≡ from))
    (λ store. (left : S) × OnlyReadsStore (facts store) (facts left)
    × DumpsStore contents writes file which (facts store) (facts left) from to ending)
