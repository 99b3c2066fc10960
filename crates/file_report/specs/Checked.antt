-- What a check tells of a file.
use Rattle.std.specs.Prelude.{◌≡◌, ◌≢◌, ℕ, ◌*◌, ◌<◌, IsErr, IsOk, All, List, Option, None, Some, Result, Ok, Err, length, is_some, take, drop}
use Rattle.std.specs.Option.{option_and_then, option_map}
use Rattle.std.specs.Result.{result_ok}
use Rattle.geos_model.specs.Document.{Document}
use Rattle.file_format.specs.File.{document_of, slot_of, pair_of, stands}
use Rattle.geos_model.specs.declared.fault.Fault.{Fault}
use Rattle.file_format.specs.declared.file.Slot.{Slot}
use Rattle.file_format.specs.Listed.{as_directory}
use Rattle.file_format.specs.Slots.{chosen_by, header_verdict}
use Rattle.file_report.specs.declared.document.CheckedDocument.{CheckedDocument}
use Rattle.file_report.specs.Findings.{IsSo, named_directory}
use Rattle.file_report.specs.declared.finding.Named.{Named}
use Rattle.file_report.specs.declared.finding.Named.TheVariants.{Updated, Saved}
use Rattle.file_report.specs.declared.checking.SlotReport.{SlotReport}
use Rattle.file_report.specs.declared.checking.SlotState.{SlotState}
use Rattle.file_report.specs.declared.checking.SlotState.TheVariants.{Short, NoMark, Closed, Open}
use Rattle.file_report.specs.declared.checking.Report.{Report}

-- that there are documents, or why there are none
abbrev pub verdict_of : Result (Document × Document) Fault → Result (Unit {0}) Fault
verdict_of (Ok documents) = Ok tt
verdict_of (Err fault) = Err fault

-- one of a slot's documents, if it stands
abbrev pub named_document : List ℕ → Slot → Named → Option Document
named_document file s name = option_and_then (document_of file) (named_directory file s name)

-- whether it stands, and its directory if it has one
pub record IsChecked (file : List ℕ) (s : Slot) (name : Named) (d : CheckedDocument) : Type 0 where
  pub directory : option_map as_directory d.directory ≡ named_directory file s name
  pub stands : d.stands ≡ is_some (named_document file s name)

-- whether a slot's documents stand, and what is wrong where they don't; and the directories that it leads to, where it
-- isn't wrong itself
pub record IsSlotReport (file : List ℕ) (r : SlotReport) : Type 0 where
  pub verdict : r.verdict ≡ verdict_of (pair_of file r.slot)
  pub so : All (IsSo file r.slot) r.findings.items
  pub some : IsErr r.verdict → 0 < length r.findings.items
  pub updated : IsOk (header_verdict r.slot)
      → option_map as_directory r.updated ≡ named_directory file r.slot Updated
  pub saved : IsOk (header_verdict r.slot) → option_map as_directory r.saved ≡ named_directory file r.slot Saved

-- what stands at a slot's page
abbrev pub IsState : List ℕ → ℕ → SlotState → Type 0
IsState file page Short = length file < 1024
IsState file page NoMark = slot_of (take 44 (drop (512 * page) file)) ≡ None
IsState file page (Closed s) = (slot_of (take 44 (drop (512 * page) file)) ≡ Some s) × (s.gate ≢ 1)
IsState file page (Open r) =
    (slot_of (take 44 (drop (512 * page) file)) ≡ Some r.slot) × (r.slot.gate ≡ 1) × IsSlotReport file r

-- what was found of a slot, where it is open
abbrev pub opened : SlotState → Option SlotReport
opened (Open r) = Some r
opened Short = None
opened NoMark = None
opened (Closed s) = None

abbrev pub with_sequence : SlotReport → ℕ × SlotReport
with_sequence r = (r.slot.sequence, r)

-- with what was found of them
abbrev pub chosen : Option SlotReport → Option SlotReport → Result (ℕ × SlotReport) Fault
chosen first second = chosen_by (option_map with_sequence first) (option_map with_sequence second)

abbrev pub chosen_between : SlotState → SlotState → Result (ℕ × SlotReport) Fault
chosen_between first second = chosen (opened first) (opened second)

-- its number, if one counts, and what was found of it
abbrev pub counting_number : SlotState → SlotState → Option ℕ
counting_number first second = option_map (λ p. p.0) (result_ok (chosen_between first second))

abbrev pub counting_between : SlotState → SlotState → Option SlotReport
counting_between first second = option_map (λ p. p.1) (result_ok (chosen_between first second))

-- the verdict of the file is that of the slot that counts
abbrev pub verdict_by : Result (ℕ × SlotReport) Fault → Result (Unit {0}) Fault
verdict_by (Ok p) = p.1.verdict
verdict_by (Err fault) = Err fault

pub record IsReport (file : List ℕ) (r : Report) : Type 0 where
  pub length : r.file_length ≡ length file
  pub verdict : r.verdict ≡ verdict_of (stands file)
  pub first : IsState file 0 r.first
  pub second : IsState file 1 r.second
