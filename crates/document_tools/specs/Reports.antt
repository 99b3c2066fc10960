-- The text of a check's report, one fact a line.
use Rattle.std.specs.Prelude.{ℕ, List, [], ◌++◌, Bool, true, false, ◌&&◌, ◌||◌, if◌then◌else◌, codes, Option, Some, None, is_some, Result, Ok, Err, is_ok}
use Rattle.std.specs.List.{flat_map}
use Rattle.std.specs.Fmt.{decimal}
use Rattle.geos_model.specs.Refusal.{name_of_fault}
use Rattle.geos_model.specs.declared.fault.Fault.{Fault}
use Rattle.file_report.specs.Checked.{counting_number, opened}
use Rattle.file_report.specs.Texts.{finding_text}
use Rattle.file_report.specs.declared.checking.Report.{Report}
use Rattle.file_report.specs.declared.checking.SlotReport.{SlotReport}
use Rattle.file_report.specs.declared.checking.SlotState.{SlotState}
use Rattle.file_report.specs.declared.checking.SlotState.TheVariants.{Short, NoMark, Closed, Open}
use Rattle.file_report.specs.declared.finding.Finding.{Finding}

-- whether the file opens, or why not
abbrev pub opens_line : Result (Unit {0}) Fault → List ℕ
opens_line (Ok v) = codes "opens: yes\n"
opens_line (Err fault) = codes "opens: no, " ++ name_of_fault fault ++ codes "\n"

-- how each line of a slot begins
abbrev pub slot_start : ℕ → List ℕ
slot_start number = codes "slot " ++ decimal number ++ codes ": "

abbrev pub stands_text : Result (Unit {0}) Fault → List ℕ
stands_text (Ok v) = codes "its documents stand\n"
stands_text (Err fault) = codes "its documents don't stand\n"

-- words, and a number behind them
abbrev pub words_and_number : List ℕ → ℕ → List ℕ
words_and_number words n = words ++ decimal n

abbrev pub open_line : ℕ → SlotReport → List ℕ
open_line number r =
    slot_start number ++ words_and_number (codes "open, version ") r.slot.version
    ++ words_and_number (codes ", sequence ") r.slot.sequence ++ codes ": " ++ stands_text r.verdict

abbrev pub finding_line : ℕ → Finding → List ℕ
finding_line number f = slot_start number ++ finding_text f ++ codes "\n"

-- what stands at a slot's page, and what is wrong with it
abbrev pub slot_lines : ℕ → SlotState → List ℕ
slot_lines number Short = slot_start number ++ codes "the file is shorter than 1024 bytes\n"
slot_lines number NoMark = slot_start number ++ codes "its mark is not GVMF\n"
slot_lines number (Closed s) = slot_start number ++ codes "closed, its gate is " ++ decimal s.gate ++ codes "\n"
slot_lines number (Open r) = open_line number r ++ flat_map (finding_line number) r.findings.items

-- why no slot counts
abbrev pub none_line : Option SlotReport → List ℕ
none_line None = codes "counts: no slot, none is open\n"
none_line (Some r) = codes "counts: no slot, both have the same sequence number\n"

-- which slot counts, or why none does
abbrev pub counts_line : Option ℕ → SlotState → List ℕ
counts_line (Some number) first = codes "counts: slot " ++ decimal number ++ codes "\n"
counts_line None first = none_line (opened first)

abbrev pub report_text : Report → List ℕ
report_text r =
    opens_line r.verdict ++ (codes "length: " ++ decimal r.file_length ++ codes " bytes\n")
    ++ slot_lines 0 r.first ++ slot_lines 1 r.second ++ counts_line (counting_number r.first r.second) r.first

-- What can be done of a file that doesn't open.

-- there is a slot, open or closed
abbrev pub is_marked : SlotState → Bool
is_marked Short = false
is_marked NoMark = false
is_marked state = true

-- it is open, and its documents stand
abbrev pub is_standing : SlotState → Bool
is_standing (Open r) = is_ok r.verdict
is_standing state = false

-- it has sums, and so is of version 3
abbrev pub slot_has_sums : SlotState → Bool
slot_has_sums Short = false
slot_has_sums NoMark = false
slot_has_sums (Closed s) = is_some s.sums
slot_has_sums (Open r) = is_some r.slot.sums

-- The file has checksums: one of its slots has them, whether or not it counts.
abbrev pub is_summed : Report → Bool
is_summed r = slot_has_sums r.first || slot_has_sums r.second

-- One counts and one stands. Where the file doesn't open that isn't the same.
abbrev pub has_other : Report → Bool
has_other r = is_some (counting_number r.first r.second) && (is_standing r.first || is_standing r.second)

-- the script goes to a restore, with checksums or without
abbrev pub restore_words : Bool → List ℕ
restore_words summed =
    if summed then codes " FILE | geosdoc restore --checksums FILE2 makes "
    else codes " FILE | geosdoc restore FILE2 makes "

-- a command that writes a script of FILE, and what the script makes in FILE2
abbrev pub step_line : List ℕ → Bool → List ℕ → List ℕ
step_line command summed made = codes "next: geosdoc " ++ command ++ restore_words summed ++ made ++ codes "\n"

abbrev pub other_step : Bool → List ℕ
other_step summed = step_line (codes "dump --other") summed (codes "the documents of the commit before")

abbrev pub salvage_step : Bool → List ℕ
salvage_step summed = step_line (codes "salvage") summed (codes "a document of the blocks that can be read")

-- A salvage wherever there is a slot, and before it, where they stand, the documents of the commit before. What is made
-- has checksums where the file has them.
abbrev pub step_lines : Report → List ℕ
step_lines r =
    if has_other r then other_step (is_summed r) ++ salvage_step (is_summed r)
    else if is_marked r.first || is_marked r.second then salvage_step (is_summed r)
    else codes "next: see whether this is the right file; nothing of a document is where its slots would be\n"

-- nothing where it opens
abbrev pub next_lines : Report → List ℕ
next_lines r = if is_ok r.verdict then [] else step_lines r
