-- What is told of a file as a script that makes the documents again to which the slot leads that doesn't count.
use Rattle.std.specs.Prelude.{◌≡◌, ◌==◌, ◌⊎◌, ℕ, List, IsTrue, Option, Some, ⊤}
use Rattle.vm_store.specs.Facts.{StoreFacts}
use Rattle.file_format.specs.Slots.{number_of, slot_stands}
use Rattle.document_file.specs.Opened.{OnlyReadsStore}
use Rattle.geos_shell.specs.Streams.{WriteCalls}
use Rattle.file_report.specs.Checked.{IsReport, counting_number}
use Rattle.file_report.specs.declared.checking.Report.{Report}
use Rattle.document_dump.specs.declared.dumping.Which.TheVariants.{Both}
use Rattle.document_tools.specs.DumpedFiles.{DumpsStood}
use Rattle.document_tools.specs.Endings.{IsRefusedFor}
use Rattle.document_tools.specs.Looks.{IsUnlookedAt}
use Rattle.document_tools.specs.Views.{LooksAt, Views}
use Rattle.document_tools.specs.declared.ending.Ending.{Ending}
use Rattle.document_tools.specs.declared.ending.Ending.TheVariants as endings
use Rattle.document_tools.specs.declared.obstacle.Obstacle.TheVariants.{NoOther, Unviewed}

-- the other one of two slots
abbrev pub other_slot : ℕ → ℕ
other_slot slot = number_of (slot == 0)

-- what comes of the dump of what a slot leads to
abbrev pub DumpsSlot : {W : Type 0} → (W → Option (List ℕ)) → WriteCalls W → List ℕ → ℕ → StoreFacts → StoreFacts → W
    → W
    → Ending → Type 0
DumpsSlot contents writes file slot from to old new ending =
    DumpsStood contents writes file Both (λ bytes. slot_stands bytes slot) NoOther from to old new ending

-- it is told why the file can't be looked at, or there is no memory
abbrev pub FailsLook : List ℕ → StoreFacts → StoreFacts → Ending → Type 0
FailsLook file from to (endings.Refused line) = IsUnlookedAt file from to line
FailsLook file from to endings.Memory = ⊤
FailsLook file from to ending = ⊥

-- What comes of the dump of a store's other slot: the file can't be read, or opens for no slot's sake, and that is
-- told; or what the slot leads to is dumped that doesn't count.
abbrev pub DumpsOther : {W : Type 0} → (W → Option (List ℕ)) → WriteCalls W → List ℕ → StoreFacts → StoreFacts → W → W
    → Ending → Type 0
DumpsOther contents writes file from to old new ending =
    (FailsLook file from to ending × (new ≡ old))
    ⊎ ((r : Report) × (slot : ℕ) × (IsTrue from.honest → IsReport from.content r)
    × (counting_number r.first r.second ≡ Some slot)
    × DumpsSlot contents writes file (other_slot slot) from to old new ending)

-- What comes of it for the file of a name: it is opened to be read alone, and dumped, and nothing is written to it.
abbrev pub DumpsOtherFile : {V S W : Type 0} → Views V S → (S → StoreFacts) → (W → Option (List ℕ)) → WriteCalls W
    → List ℕ → V → V → W → W → Ending → Type 0
DumpsOtherFile {V} {S} views facts contents writes file old new from to ending =
    LooksAt views file old new (λ cause. IsRefusedFor file (Unviewed cause) ending × (to ≡ from))
    (λ store. (left : S) × OnlyReadsStore (facts store) (facts left)
    × DumpsOther contents writes file (facts store) (facts left) from to ending)
