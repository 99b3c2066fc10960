-- Which directory of a file is salvaged.
use Rattle.std.specs.Prelude.{ℕ, List, ◌+◌, ◌*◌, Bool, true, false, ◌==◌, ◌&&◌, ◌||◌, nat_le, nat_lt, length, take, drop, if◌then◌else◌, Option, None, Some}
use Rattle.std.specs.Option.{option_or}
use Rattle.geos_model.specs.Bytes.{same_bytes}
use Rattle.geos_model.specs.Words.{word_at}
use Rattle.file_format.specs.File.{bytes_in, directory_mark, entry_start, is_version, is_version_in, longest_directory, slot_of}
use Rattle.file_format.specs.declared.file.Extent.{Extent}
use Rattle.file_format.specs.declared.file.Slot.{Slot}
use Rattle.file_report.specs.Findings.{directory_extent, directory_sum}
use Rattle.file_report.specs.declared.finding.Named.{Named}
use Rattle.file_report.specs.declared.finding.Named.TheVariants.{Updated, Saved}
use Rattle.file_salvage.specs.declared.place.Place.{Place}

-- the directory of one of a slot's documents, of the second slot or the first
abbrev pub place_in_slot : Bool → Slot → Named → Place
place_in_slot second s name =
    record {
      second = second;
      name = name;
      is_open = s.gate == 1;
      version = s.version;
      extent = directory_extent s name;
      sum = directory_sum s name;
    }

-- the first bytes of an extent, as many as a directory's header has
abbrev pub head_of : Extent → Extent
head_of e = record { page = e.page; length = 16 }

-- a header of a directory of n bytes in a file of a version. Its last bytes, which are zeros, aren't looked at.
abbrev pub is_header : ℕ → ℕ → List ℕ → Bool
is_header version n head =
    same_bytes (take 4 head) directory_mark && is_version_in version (word_at head 4)
    && n == entry_start (word_at head 4) (word_at head 6)

-- a directory can begin there
abbrev pub is_place : ℕ → Place → Bool
is_place file_length p =
    is_version p.version && nat_le 16 p.extent.length && nat_le p.extent.length longest_directory
    && nat_le (512 * p.extent.page + 16) file_length

-- its header can be read
abbrev pub is_readable : List ℕ → Place → Bool
is_readable file p =
    is_place (length file) p && is_header p.version p.extent.length (bytes_in file (head_of p.extent))

abbrev pub if_readable : List ℕ → Place → Option Place
if_readable file p = if is_readable file p then Some p else None

-- of a slot's directories the updated document's, or else the saved one's
abbrev pub readable_in : List ℕ → Bool → Option Slot → Option Place
readable_in file second None = None
readable_in file second (Some s) =
    option_or (if_readable file (place_in_slot second s Updated)) (if_readable file (place_in_slot second s Saved))

-- the slot at a page, whether or not it is open
abbrev pub slot_on_page : List ℕ → ℕ → Option Slot
slot_on_page file page = slot_of (take 44 (drop (512 * page) file))

-- the second slot is tried first: it is open and the first isn't, or has the greater number where both are or neither
abbrev pub is_second_first : Option Slot → Option Slot → Bool
is_second_first (Some s) (Some t) =
    if s.gate == 1 then t.gate == 1 && nat_lt s.sequence t.sequence else t.gate == 1 || nat_lt s.sequence t.sequence
is_second_first first second = false

-- the first directory that can be read
abbrev pub readable_of : List ℕ → Option Slot → Option Slot → Option Place
readable_of file first second =
    if is_second_first first second then option_or (readable_in file true second) (readable_in file false first)
    else option_or (readable_in file false first) (readable_in file true second)

unfoldable pub salvaged_place : List ℕ → Option Place
salvaged_place file =
    if nat_lt (length file) 1024 then None else readable_of file (slot_on_page file 0) (slot_on_page file 1)
