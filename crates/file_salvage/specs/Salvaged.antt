-- What is salvaged of a file: the document of the entries that are taken, and its script. Where all are asked for,
-- entries whose image hasn't its sum are taken too.
use Rattle.std.specs.Prelude.{◌≡◌, ◌⊎◌, ℕ, List, [], ◌∷◌, ◌++◌, Bool, true, false, ◌==◌, if◌then◌else◌, Option, None, Some, codes}
use Rattle.std.specs.Io.KnownBytes.{Appends}
use Rattle.std.specs.Option.{option_and_then, option_map}
use Rattle.geos_model.specs.Document.{Document}
use Rattle.file_format.specs.File.{bytes_in, document_of, has_sum}
use Rattle.geos_model.specs.Words.{word_at}
use Rattle.file_format.specs.declared.file.Entry.{Entry}
use Rattle.geos_model.specs.Script.{four_digits}
use Rattle.document_dump.specs.Dumps.{saved_text}
use Rattle.document_dump.specs.Entries.{listing}
use Rattle.document_dump.specs.declared.fault.DumpFault.{DumpFault}
use Rattle.document_dump.specs.declared.fault.DumpFault.TheVariants.{Memory, Write}
use Rattle.file_report.specs.Texts.{name_text}
use Rattle.file_salvage.specs.Entries.{all_notes, damages, has_handle, taken_entries}
use Rattle.file_salvage.specs.Places.{salvaged_place}
use Rattle.file_salvage.specs.declared.flaw.Flaw.{Flaw}
use Rattle.file_salvage.specs.declared.place.Place.{Place}

-- the bytes of a directory, as far as the file has them
abbrev pub directory_bytes_at : List ℕ → Place → List ℕ
directory_bytes_at file p = bytes_in file p.extent

-- why each of its entries isn't whole
abbrev pub damages_of : List ℕ → Place → List (Option Flaw)
damages_of file p = damages file p.version (directory_bytes_at file p)

-- the entries that are taken of it
abbrev pub salvaged_entries : Bool → List ℕ → Place → List Entry
salvaged_entries all file p = taken_entries all (directory_bytes_at file p) (damages_of file p)

-- the map block, where one of these entries has it, or else none
abbrev pub map_kept : ℕ → List Entry → ℕ
map_kept map_block entries = if has_handle map_block entries then map_block else 0

abbrev pub map_of : List ℕ → Place → ℕ
map_of file p = word_at (directory_bytes_at file p) 8

-- the document that is salvaged
abbrev pub salvaged_document : Bool → List ℕ → Place → Option Document
salvaged_document all file p =
    document_of file
    (listing (map_kept (map_of file p) (salvaged_entries all file p)) (salvaged_entries all file p))

-- Lines before its script: of which document it is, whether its slot is closed, whether the directory's sum is wrong,
-- which blocks are left out or taken without their sum, and whether the map block is left out.

abbrev pub place_note : Place → List ℕ
place_note p =
    codes "# what can be read of the " ++ name_text p.name
    ++ (if p.second then codes " document of slot 1\n" else codes " document of slot 0\n")

-- where its slot isn't open
abbrev pub gate_note : Bool → List ℕ
gate_note is_open =
    if is_open then []
    else codes "# its slot is closed: it may be an earlier document, or written over in part, or not whole yet\n"

-- where the bytes of a directory haven't the sum that its slot gives
abbrev pub sum_note : Option ℕ → List ℕ → List ℕ
sum_note sum bytes =
    if has_sum sum bytes then []
    else codes "# its directory's sum is wrong: handles, user IDs, types and the map block may be, too\n"

abbrev pub head_note : Place → List ℕ → List ℕ
head_note p bytes = place_note p ++ gate_note p.is_open ++ sum_note p.sum bytes

abbrev pub lost_map : ℕ → List ℕ
lost_map map_block = codes "# map block" ++ 32 ∷ four_digits map_block ++ codes " is left out\n"

abbrev pub map_note : ℕ → ℕ → List ℕ
map_note map_block kept = if map_block == kept then [] else lost_map map_block

abbrev pub notes_of : Bool → List ℕ → Place → List ℕ
notes_of all file p =
    head_note p (directory_bytes_at file p) ++ all_notes all (directory_bytes_at file p) (damages_of file p)
    ++ map_note (map_of file p) (map_kept (map_of file p) (salvaged_entries all file p))

-- the script of what a directory has, with those lines
abbrev pub script_of : Bool → List ℕ → Place → Option (List ℕ)
script_of all file p = option_map (λ d. notes_of all file p ++ saved_text d) (salvaged_document all file p)

-- the script of what a file has, if one of its directories can be read
abbrev pub salvage_text : Bool → List ℕ → Option (List ℕ)
salvage_text all file = option_and_then (script_of all file) (salvaged_place file)

-- it is told whether there is a script, and it is written
abbrev pub IsSalvage : Option (List ℕ) → Bool → Option (List ℕ) → Option (List ℕ) → Type 0
IsSalvage None some from to = (some ≡ false) × (to ≡ from)
IsSalvage (Some script) some from to = (some ≡ true) × Appends from to script

-- why a line isn't written
abbrev pub IsNoteFault : DumpFault → Type 0
IsNoteFault fault = (fault ≡ Memory) ⊎ (fault ≡ Write)
