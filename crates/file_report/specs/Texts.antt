-- What is told of a finding: the text that it prints.
use Rattle.std.specs.Prelude.{ℕ, List, [], ◌++◌, codes, false}
use Rattle.std.specs.Fmt.{decimal, digits, format_spec, padded_integral}
use Rattle.file_format.specs.declared.file.Entry.{Entry}
use Rattle.file_format.specs.declared.file.Extent.{Extent}
use Rattle.file_report.specs.declared.finding.Named.{Named}
use Rattle.file_report.specs.declared.finding.Named.TheVariants.{Updated, Saved}
use Rattle.file_report.specs.declared.finding.HeaderFault.{HeaderFault}
use Rattle.file_report.specs.declared.finding.HeaderFault.TheVariants as header
use Rattle.file_report.specs.declared.finding.EntryFault.{EntryFault}
use Rattle.file_report.specs.declared.finding.EntryFault.TheVariants as entry
use Rattle.file_report.specs.declared.finding.Finding.{Finding}
use Rattle.file_report.specs.declared.finding.Finding.TheVariants as finding

-- a handle in hexadecimal digits, with zeros before them where they are fewer than four
abbrev pub handle_text : ℕ → List ℕ
handle_text h = padded_integral (format_spec 32 0 4 4 18446744073709551615) false [] (digits 16 false h)

abbrev pub name_text : Named → List ℕ
name_text Updated = codes "updated"
name_text Saved = codes "saved"

abbrev pub extent_words : Extent → List ℕ
extent_words e = codes "page " ++ decimal e.page ++ codes ", " ++ decimal e.length ++ codes " bytes"

abbrev pub listed_words : Entry → List ℕ
listed_words e = codes "block " ++ handle_text e.handle.0 ++ codes ", image at " ++ extent_words e.extent

abbrev pub no_image_words : Entry → List ℕ
no_image_words e =
    codes "block " ++ handle_text e.handle.0 ++ codes " of type " ++ decimal e.attributes.heap_type
    ++ codes ": no image of one at " ++ extent_words e.extent

abbrev pub header_fault_words : HeaderFault → List ℕ
header_fault_words header.Mark = codes "its mark is not GDIR"
header_fault_words (header.Version v) = codes "its version is " ++ decimal v
header_fault_words header.Zeros = codes "its zeros are not"
header_fault_words (header.Length count) = codes "its length is not that of " ++ decimal count ++ codes " entries"

abbrev pub entry_fault_words : EntryFault → List ℕ
entry_fault_words entry.Order = codes "its handle does not rise"
entry_fault_words entry.Handle = codes "its handle is too great"
entry_fault_words entry.Length = codes "no image has its length"
entry_fault_words entry.Outside = codes "its image is not in the file"
entry_fault_words entry.Zeros = codes "its zeros are not"

abbrev pub finding_text : Finding → List ℕ
finding_text (finding.SlotVersion v) = codes "its version is " ++ decimal v
finding_text finding.SlotZeros = codes "its zeros are not"
finding_text finding.SlotSequence = codes "its sequence number is 0"
finding_text finding.SlotSum = codes "the slot's own sum is wrong"
finding_text (finding.NoDirectory name e) = name_text name ++ codes " document: no directory at " ++ extent_words e
finding_text (finding.Outside name e) = name_text name ++ codes " directory: not in the file: " ++ extent_words e
finding_text (finding.NoLength name e) =
    name_text name ++ codes " directory: none has such a length: " ++ extent_words e
finding_text (finding.DirectorySum name) = name_text name ++ codes " document: the directory's sum is wrong"
finding_text (finding.Header name fault) = name_text name ++ codes " directory: " ++ header_fault_words fault
finding_text (finding.MapBlock name h) =
    name_text name ++ codes " directory: its map block " ++ handle_text h.0 ++ codes " is not listed"
finding_text (finding.Entry name i e fault) =
    name_text name ++ codes " directory: entry " ++ decimal i ++ codes ", " ++ listed_words e ++ codes ": "
    ++ entry_fault_words fault
finding_text (finding.Sum name e) =
    name_text name ++ codes " document: " ++ listed_words e ++ codes ": its sum is wrong"
finding_text (finding.Image name e) = name_text name ++ codes " document: " ++ no_image_words e
