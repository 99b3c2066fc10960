-- Why a dump ends early.
use Rattle.std.specs.Prelude.{◌≡◌, ℕ, true, List, IsTrue}
use Rattle.vm_store.specs.Facts.{StoreFacts, FailedSince}
use Rattle.geos_model.specs.Document.{Document, is_valid_body}
use Rattle.geos_model.specs.Heap.{ChunkMap, is_heap_map}
use Rattle.geos_model.specs.Image.{image}
use Rattle.geos_model.specs.declared.command.Body.{Body}
use Rattle.geos_model.specs.declared.command.Body.TheVariants.{Heap}
use Rattle.geos_model.specs.declared.fault.Fault.{Fault}
use Rattle.geos_model.specs.declared.fault.Fault.TheVariants.{Memory, File}
use Rattle.document_dump.specs.Steps.{IsChange}
use Rattle.document_dump.specs.declared.changes.Change.{Change}
use Rattle.document_dump.specs.declared.fault.DumpFault.{DumpFault}
use Rattle.document_dump.specs.declared.fault.DumpFault.TheVariants as dump_faults

-- how a fault of a file is told
abbrev pub dump_fault : Fault → DumpFault
dump_fault Memory = dump_faults.Memory
dump_fault File = dump_faults.File
dump_fault fault = dump_faults.Damaged

abbrev pub dump_out_of_memory : DumpFault
dump_out_of_memory = dump_faults.Memory

-- Why a dump, or a part of it, ends early: there is no memory; the store failed in this very call; it isn't honest; the
-- writer failed.
abbrev pub IsDumpRefusal : StoreFacts → StoreFacts → DumpFault → Type 0
IsDumpRefusal old new dump_faults.Memory = Unit {0}
IsDumpRefusal old new dump_faults.File = FailedSince old new
IsDumpRefusal old new dump_faults.Damaged = IsTrue old.honest → ⊥
IsDumpRefusal old new dump_faults.Write = Unit {0}

-- Edits are put together of something that was read: there is no memory, or what was read can't be.
abbrev pub IsRefusalOf : Type 0 → DumpFault → Type 0
IsRefusalOf CanBe dump_faults.Memory = Unit {0}
IsRefusalOf CanBe dump_faults.Damaged = CanBe → ⊥
IsRefusalOf CanBe fault = ⊥

abbrev pub IsWriteFault : DumpFault → Type 0
IsWriteFault fault = fault ≡ dump_faults.Write

-- some heap has this image
abbrev pub IsHeapBodyImage : List ℕ → Type 0
IsHeapBodyImage bytes = (m : ChunkMap) × (is_heap_map m ≡ true) × (image (Heap m) ≡ bytes)

-- some body has it
abbrev pub IsBodyImage : List ℕ → Type 0
IsBodyImage bytes = (body : Body) × (is_valid_body body ≡ true) × (image body ≡ bytes)

-- between some documents a block has this change
abbrev pub IsChangeOf : ℕ → Change → Type 0
IsChangeOf h change = (old : Document) × (new : Document) × IsChange old new h change
