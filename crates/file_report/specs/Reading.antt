-- A directory that was read, and what is found by it.
use Rattle.std.specs.Prelude.{◌≡◌, ℕ, IsTrue, All, List, length}
use Rattle.vm_store.specs.Facts.{StoreFacts}
use Rattle.geos_model.specs.Document.{Block}
use Rattle.geos_model.specs.declared.command.Body.{Body}
use Rattle.file_format.specs.declared.file.Entry.{Entry}
use Rattle.file_format.specs.declared.file.Slot.{Slot}
use Rattle.file_format.specs.Reading.{IsDirectoryRead}
use Rattle.file_report.specs.Findings.{IsEntryListed, IsSo, directory_extent, directory_sum}
use Rattle.file_report.specs.declared.finding.Finding.{Finding}
use Rattle.file_report.specs.declared.finding.Named.{Named}
use Rattle.file_format.specs.declared.stored_directory.ReadDirectory.{ReadDirectory}
use Rattle.file_format.specs.declared.stored_directory.ReadDirectory.TheVariants.{Misplaced, Wrong, Right}

-- the block that an entry lists, with its body
abbrev pub block_with : Entry → Body → ℕ × Block
block_with e body = (e.handle.0, record { attributes = e.attributes; body = body })

-- it is no directory
abbrev pub IsWrong : ReadDirectory → Type 0
IsWrong Misplaced = Unit {0}
IsWrong (Wrong bytes) = Unit {0}
IsWrong (Right directory) = ⊥

-- so it is in each file
abbrev pub IsSoOfSlot : Slot → Finding → Type 0
IsSoOfSlot s f = (file : List ℕ) → IsSo file s f

-- so it is in each file of n bytes
abbrev pub IsSoOf : ℕ → Slot → Finding → Type 0
IsSoOf n s f = (file : List ℕ) → n ≡ length file → IsSo file s f

-- so it is in each file of n bytes from which this directory was read
abbrev pub IsSoOfRead : ℕ → Slot → Named → ReadDirectory → Finding → Type 0
IsSoOfRead n s name read f =
    (file : List ℕ) → n ≡ length file
    → IsDirectoryRead s.version (directory_sum s name) (directory_extent s name) read file → IsSo file s f

-- so it is in what an honest store has
abbrev pub IsSoIn : StoreFacts → Slot → Finding → Type 0
IsSoIn store s f = IsTrue store.honest → IsSo store.content s f

-- so it is there with each slot of which the directory lists this entry
abbrev pub IsSoOfEntry : StoreFacts → Named → Entry → Finding → Type 0
IsSoOfEntry store name e f =
    (s : Slot) → IsTrue store.honest → IsEntryListed store.content s name e → IsSo store.content s f

-- so it is there with each slot of which the directory lists these entries
abbrev pub IsSoOfEntries : StoreFacts → Named → List Entry → Finding → Type 0
IsSoOfEntries store name entries f =
    (s : Slot) → IsTrue store.honest → All (IsEntryListed store.content s name) entries → IsSo store.content s f
