-- What is counted of a file.
use Rattle.std.specs.Prelude.{◌≡◌, ◌⊎◌, ◌≤◌, ℕ, IsTrue, List, length, Option, None, Some, Ok, Err, MatchOption}
use Rattle.std.specs.FinMap.{entries}
use Rattle.vm_store.specs.Facts.{StoreFacts}
use Rattle.geos_model.specs.Document.{Document}
use Rattle.file_format.specs.File.{counting_slot, open_slot, pages_of, saved_sum, stands, summed_directory, summed_document, working_sum}
use Rattle.geos_model.specs.declared.fault.Fault.{Fault}
use Rattle.file_format.specs.declared.file.Slot.{Slot}
use Rattle.file_format.specs.Listed.{as_directory}
use Rattle.file_format.specs.Reading.{IsResourceFault}
use Rattle.file_format.specs.Slots.{header_verdict}
use Rattle.file_report.specs.Pages.{AreFreePages, file_usages, slot_usages}
use Rattle.file_report.specs.declared.pages.Usage.{Usage}
use Rattle.document_stat.specs.Counted.{IsBlockStat}
use Rattle.document_stat.specs.declared.counting.CountingSlot.{CountingSlot}
use Rattle.document_stat.specs.declared.file_stat.DocumentStat.{DocumentStat}
use Rattle.document_stat.specs.declared.file_stat.FileStat.{FileStat}

-- What is read of a file, and why it isn't.

-- the slot counts, and can lead to documents
pub record IsChosen (file : List ℕ) (s : Slot) : Type 0 where
  pub long : 1024 ≤ length file
  pub counts : counting_slot (open_slot file 0) (open_slot file 1) ≡ Ok s
  pub right : header_verdict s ≡ Ok tt

pub record IsCountingSlot (file : List ℕ) (c : CountingSlot) : Type 0 where
  pub chosen : IsChosen file c.slot
  pub updated : summed_directory c.slot.version file (working_sum c.slot) c.slot.working
      ≡ Some (as_directory c.updated)
  pub saved : summed_directory c.slot.version file (saved_sum c.slot) c.slot.saved ≡ Some (as_directory c.saved)

-- what it leads to
abbrev pub counting_usages : CountingSlot → List Usage
counting_usages c = slot_usages c.slot (Some (as_directory c.updated)) (Some (as_directory c.saved))

-- lack of memory, a store that failed, or what an opening of the file answers
abbrev pub IsRefusal : StoreFacts → Fault → Type 0
IsRefusal store fault = IsTrue store.honest → IsResourceFault fault ⊎ (stands store.content ≡ Err fault)

-- What is told.

pub record IsDocumentStat (d : Document) (s : DocumentStat) : Type 0 where
  pub map_block : s.map_block.0 ≡ d.map_block
  pub blocks : IsBlockStat (entries d.blocks) s.blocks

-- the saved document of a slot is told of, or is the updated one
abbrev pub IsSavedStat : List ℕ → Slot → Option DocumentStat → Type 0
IsSavedStat file s None = s.saved ≡ s.working
IsSavedStat file s (Some stat) =
    (d : Document) × (summed_document s.version file (saved_sum s) s.saved ≡ Some d) × IsDocumentStat d stat

pub record IsFileStat (file : List ℕ) (s : FileStat) : Type 0 where
  pub slot : Slot
  pub counts : counting_slot (open_slot file 0) (open_slot file 1) ≡ Ok slot
  pub size : s.file_length ≡ length file
  pub pages : s.pages ≡ pages_of (length file)
  pub free : AreFreePages (file_usages file slot) (pages_of (length file)) s.free
  pub updated_document : Document
  pub saved_document : Document
  pub stands : stands file ≡ Ok (updated_document, saved_document)
  pub updated : IsDocumentStat updated_document s.updated
  pub saved : MatchOption s.saved (saved_document ≡ updated_document) (IsDocumentStat saved_document)
