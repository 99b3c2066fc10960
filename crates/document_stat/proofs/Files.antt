-- The documents of the slot that counts, and why a file has none.
use Rattle.std.proofs.Common.{◌≡◌, ◌<◌, ◌≤◌, ℕ, List, Option, Some, None, Result, Ok, Err, length, refl, sym, ap, ap₂, ◌∙◌, inl, inr}
use Rattle.std.specs.Prelude.{MatchOption, ◌⊎◌}
use Rattle.std.specs.Option.{option_and_then, option_map}
use Rattle.std.specs.FinMap.{from_entries}
use Rattle.std.proofs.lemmas.Bool.{cond-true, cond-false, le-ltb, lt-ltb}
use Rattle.geos_model.specs.Document.{Document}
use Rattle.file_format.specs.File.{Directory, blocks_of_entries, both, counting_slot, directory_of, document_of, open_slot, pair_of, pair_of_counting, saved_sum, stands, summed_directory, summed_document, working_sum}
use Rattle.geos_model.specs.declared.fault.Fault.{Fault}
use Rattle.geos_model.specs.declared.fault.Fault.TheVariants.{NotDocument, Damaged}
use Rattle.file_format.specs.declared.file.Extent.{Extent}
use Rattle.file_format.specs.declared.file.Slot.{Slot}
use Rattle.file_format.specs.Listed.{as_directory}
use Rattle.file_format.proofs.FileDocuments.{summed_directory-some}
use Rattle.file_format.specs.Reading.{IsReadRefusal, IsResourceFault}
use Rattle.file_report.specs.Pages.{file_usages, slot_usages}
use Rattle.file_report.proofs.SlotLemmas.{pair_right}
use Rattle.document_stat.specs.Counted.{Blocks}
use Rattle.document_stat.specs.Files.{IsChosen, IsCountingSlot, IsDocumentStat, IsSavedStat, counting_usages}
use Rattle.document_stat.specs.declared.counting.CountingSlot.{CountingSlot}
use Rattle.document_stat.specs.declared.file_stat.DocumentStat.{DocumentStat}

abbrev pub documents_at : List ℕ → Slot → Result (Document × Document) Fault
documents_at file s =
    both (summed_document s.version file (working_sum s) s.working) (summed_document s.version file (saved_sum s) s.saved)

stands_counting : (file : List ℕ) (counting : Result Slot Fault) → 1024 ≤ length file → counting_slot (open_slot file 0) (open_slot file 1) ≡ counting → stands file ≡ pair_of_counting file counting
stands_counting file counting long is = cond-false _ _ _ (le-ltb (length file) 1024 long) ∙ ap (pair_of_counting file) is

-- those of the slot that counts
pub stands_chosen : (file : List ℕ) (s : Slot) → IsChosen file s → stands file ≡ documents_at file s
stands_chosen file s is = stands_counting file (Ok s) is.long is.counts ∙ pair_right file s is.right

-- a file that is too short, in which no slot counts, or the one that does leads to none
pub refused_short : (file : List ℕ) → length file < 1024 → stands file ≡ Err NotDocument
refused_short file short = cond-true _ _ _ (lt-ltb (length file) 1024 short)

pub refused_slots : (file : List ℕ) (fault : Fault) → 1024 ≤ length file → counting_slot (open_slot file 0) (open_slot file 1) ≡ Err fault → stands file ≡ Err fault
refused_slots file fault long is = stands_counting file (Err fault) long is

pub refused_header : (file : List ℕ) (s : Slot) (fault : Fault) → 1024 ≤ length file → counting_slot (open_slot file 0) (open_slot file 1) ≡ Ok s → pair_of file s ≡ Err fault → stands file ≡ Err fault
refused_header file s fault long is wrong = stands_counting file (Ok s) long is ∙ wrong

first_none : (first second : Option Document) → first ≡ None → both first second ≡ Err Damaged
first_none first second none = ap (λ (d : Option Document). both d second) none

second_none : (first second : Option Document) → second ≡ None → both first second ≡ Err Damaged
second_none None second none = refl
second_none (Some d) second none = ap (both (Some d)) none

pub refused_updated : (file : List ℕ) (s : Slot) → IsChosen file s → summed_document s.version file (working_sum s) s.working ≡ None → stands file ≡ Err Damaged
refused_updated file s is none = stands_chosen file s is ∙ first_none _ (summed_document s.version file (saved_sum s) s.saved) none

pub refused_saved : (file : List ℕ) (s : Slot) → IsChosen file s → summed_document s.version file (saved_sum s) s.saved ≡ None → stands file ≡ Err Damaged
refused_saved file s is none = stands_chosen file s is ∙ second_none (summed_document s.version file (working_sum s) s.working) _ none

-- the document of a directory
pub document_there : (version : ℕ) (file : List ℕ) (sum : Option ℕ) (e : Extent) (d : Directory) (document : Option Document) → summed_directory version file sum e ≡ Some d → document_of file d ≡ document
    → summed_document version file sum e ≡ document
document_there version file sum e d document is there = ap (option_and_then (document_of file)) is ∙ there

abbrev pub made_of : ℕ → Blocks → Document
made_of map_block bs = record { blocks = from_entries bs; map_block = map_block }

pub document_made : (file : List ℕ) (d : Directory) (bs : Blocks) → blocks_of_entries file d.entries ≡ Some bs → document_of file d ≡ Some (made_of d.map_block bs)
document_made file d bs is = ap (option_map (made_of d.map_block)) is

pub document_none : (file : List ℕ) (d : Directory) → blocks_of_entries file d.entries ≡ None → document_of file d ≡ None
document_none file d is = ap (option_map (made_of d.map_block)) is

-- What is told of them.

-- one extent has one directory, of whichever of its sums
same_directory : (version : ℕ) (file : List ℕ) (sum other : Option ℕ) (e f : Extent) (c d : Directory) → e ≡ f → summed_directory version file sum e ≡ Some c → summed_directory version file other f ≡ Some d
    → summed_directory version file sum e ≡ summed_directory version file other f
same_directory version file sum other e f c d same first second =
    let one = (summed_directory-some version file sum e c first).1 in
    let two = (summed_directory-some version file other f d second).1 in
    first ∙ sym one ∙ ap (directory_of version file) same ∙ two ∙ sym second

-- the saved document, told of or the updated one
pub saved_there : (file : List ℕ) (c : CountingSlot) (updated : Document) (stat : Option DocumentStat) → IsCountingSlot file c
    → summed_document c.slot.version file (working_sum c.slot) c.slot.working ≡ Some updated → IsSavedStat file c.slot stat
    → (d : Document) × (summed_document c.slot.version file (saved_sum c.slot) c.slot.saved ≡ Some d) × MatchOption stat (d ≡ updated) (IsDocumentStat d)
saved_there file c updated None is was same =
    let there = same_directory c.slot.version file (saved_sum c.slot) (working_sum c.slot) c.slot.saved c.slot.working (as_directory c.saved) (as_directory c.updated) same is.saved is.updated in
    (updated, ap (option_and_then (document_of file)) there ∙ was, refl)
saved_there file c updated (Some x) is was told = told

pub usages_read : (file : List ℕ) (c : CountingSlot) → IsCountingSlot file c → counting_usages c ≡ file_usages file c.slot
usages_read file c is = ap₂ (slot_usages c.slot) (sym is.updated) (sym is.saved)

-- what a reading is refused for is what an opening answers, where damage makes an opening answer so
pub refused_by : (file : List ℕ) (fault : Fault) → IsReadRefusal fault → (fault ≡ Damaged → stands file ≡ Err Damaged) → IsResourceFault fault ⊎ (stands file ≡ Err fault)
refused_by file fault (inl resource) wrong = inl resource
refused_by file fault (inr damaged) wrong = inr (wrong damaged ∙ ap Err (sym damaged))

-- a directory that isn't there
pub directory_none : (version : ℕ) (file : List ℕ) (sum : Option ℕ) (e : Extent) → summed_directory version file sum e ≡ None → summed_document version file sum e ≡ None
directory_none version file sum e none = ap (option_and_then (document_of file)) none
