-- What is said to be wrong with a slot and with what it leads to.
use Rattle.std.specs.Prelude.{◌≡◌, ◌≢◌, ◌⊎◌, ℕ, ◌+◌, ◌-◌, ◌<◌, ◌≤◌, ◌==◌, false, All, Bool, List, ◌++◌, Option, None, Some, length, take, drop, if◌then◌else◌}
use Rattle.std.specs.List.{Contains, list_all}
use Rattle.geos_model.specs.Words.{word_at}
use Rattle.file_format.specs.File.{Directory, bytes_in, is_in_file, is_sealed, is_version_in, directory_mark, entry_length, entry_read, entry_start, greatest_handle, has_sum, longest_directory, longest_image, block_of, saved_sum, summed_directory, working_sum}
use Rattle.file_format.specs.declared.file.Extent.{Extent}
use Rattle.file_format.specs.declared.file.Entry.{Entry}
use Rattle.file_format.specs.declared.file.Slot.{Slot}
use Rattle.file_report.specs.declared.finding.Named.{Named}
use Rattle.file_report.specs.declared.finding.Named.TheVariants.{Updated, Saved}
use Rattle.file_report.specs.declared.finding.HeaderFault.{HeaderFault}
use Rattle.file_report.specs.declared.finding.HeaderFault.TheVariants as header
use Rattle.file_report.specs.declared.finding.EntryFault.{EntryFault}
use Rattle.file_report.specs.declared.finding.EntryFault.TheVariants as entry
use Rattle.file_report.specs.declared.finding.Finding.{Finding}
use Rattle.file_report.specs.declared.finding.Finding.TheVariants as finding

-- the extent of the directory of one of a slot's documents
abbrev pub directory_extent : Slot → Named → Extent
directory_extent s Updated = s.working
directory_extent s Saved = s.saved

-- and its sum, if there is one
abbrev pub directory_sum : Slot → Named → Option ℕ
directory_sum s Updated = working_sum s
directory_sum s Saved = saved_sum s

-- the directory of one of a slot's documents, where it has one
abbrev pub named_directory : List ℕ → Slot → Named → Option Directory
named_directory file s name = summed_directory s.version file (directory_sum s name) (directory_extent s name)

-- these bytes are zeros
abbrev pub are_zeros : List ℕ → Bool
are_zeros bytes = list_all (λ b. b == 0) bytes

-- the version of a directory
abbrev pub directory_version : List ℕ → ℕ
directory_version bytes = word_at bytes 4

-- the header of a directory is wrong in a file of a version
abbrev pub IsHeaderFault : ℕ → List ℕ → HeaderFault → Type 0
IsHeaderFault file_version bytes header.Mark = take 4 bytes ≢ directory_mark
IsHeaderFault file_version bytes (header.Version v) = (v ≡ word_at bytes 4) × (is_version_in file_version v ≡ false)
IsHeaderFault file_version bytes header.Zeros = are_zeros (take 6 (drop 10 bytes)) ≡ false
IsHeaderFault file_version bytes (header.Length count) =
    (count ≡ word_at bytes 6) × (length bytes ≢ entry_start (word_at bytes 4) count)

-- a directory has the whole text of an entry
abbrev pub HasEntry : List ℕ → ℕ → Type 0
HasEntry bytes i = entry_start (word_at bytes 4) i + entry_length (word_at bytes 4) ≤ length bytes

-- that text
abbrev pub entry_text_at : List ℕ → ℕ → List ℕ
entry_text_at bytes i = take (entry_length (word_at bytes 4)) (drop (entry_start (word_at bytes 4) i) bytes)

-- and the handle that it begins with
abbrev pub handle_at : List ℕ → ℕ → ℕ
handle_at bytes i = word_at bytes (entry_start (word_at bytes 4) i)

-- the handle of the entry before one, 0 before the first
abbrev pub handle_before : List ℕ → ℕ → ℕ
handle_before bytes i = if i == 0 then 0 else handle_at bytes (i - 1)

-- how many zeros the first 16 bytes of an entry end in, in a directory of a version: its sum stands behind them
abbrev pub zeros_of : ℕ → ℕ
zeros_of version = if version == 1 then 4 else 2

-- the text of an entry has them, in a directory of a version
abbrev pub has_entry_zeros : ℕ → List ℕ → Bool
has_entry_zeros version text = are_zeros (drop (16 - zeros_of version) (take 16 text))

-- An entry with this text is wrong in a directory of a version, behind one with the handle `last`, in a file of a
-- version and of n bytes.
abbrev pub IsEntryFault : ℕ → ℕ → ℕ → ℕ → List ℕ → Entry → EntryFault → Type 0
IsEntryFault file_version n version last text e entry.Order = e.handle.0 ≤ last
IsEntryFault file_version n version last text e entry.Handle = greatest_handle version < e.handle.0
IsEntryFault file_version n version last text e entry.Length = (e.extent.length ≡ 0) ⊎ (longest_image < e.extent.length)
IsEntryFault file_version n version last text e entry.Outside = is_in_file file_version n e.extent ≡ false
IsEntryFault file_version n version last text e entry.Zeros = has_entry_zeros version text ≡ false

-- the map block of a directory is given, and no entry has its handle
pub record IsUnlisted (bytes : List ℕ) (map_block : ℕ) : Type 0 where
  pub is : map_block ≡ word_at bytes 8
  pub some : map_block ≢ 0
  pub unlisted : (i : ℕ) → HasEntry bytes i → handle_at bytes i ≢ map_block

-- one of a slot's documents has a directory, which lists this entry
pub record IsEntryListed (file : List ℕ) (s : Slot) (name : Named) (e : Entry) : Type 0 where
  pub directory : Directory
  pub found : named_directory file s name ≡ Some directory
  pub listed : Contains directory.entries e

-- so it is in a file with this slot
abbrev pub IsSo : List ℕ → Slot → Finding → Type 0
IsSo file s (finding.SlotVersion v) = (v ≡ s.version) × (v ≢ 1) × (v ≢ 2) × (v ≢ 3)
IsSo file s finding.SlotZeros = s.reserved ≢ 0
IsSo file s finding.SlotSequence = s.sequence ≡ 0
IsSo file s finding.SlotSum = is_sealed s ≡ false
IsSo file s (finding.NoDirectory name e) = (e ≡ directory_extent s name) × (named_directory file s name ≡ None)
IsSo file s (finding.Outside name e) = (e ≡ directory_extent s name) × (is_in_file s.version (length file) e ≡ false)
IsSo file s (finding.NoLength name e) =
    (e ≡ directory_extent s name) × ((e.length < 16) ⊎ (longest_directory < e.length))
IsSo file s (finding.DirectorySum name) =
    has_sum (directory_sum s name) (bytes_in file (directory_extent s name)) ≡ false
IsSo file s (finding.Header name fault) = IsHeaderFault s.version (bytes_in file (directory_extent s name)) fault
IsSo file s (finding.MapBlock name h) = IsUnlisted (bytes_in file (directory_extent s name)) h.0
IsSo file s (finding.Entry name i e fault) =
    let bytes = bytes_in file (directory_extent s name) in
    let version = word_at bytes 4 in
    (e ≡ entry_read version (entry_text_at bytes i))
    × IsEntryFault s.version (length file) version (handle_before bytes i) (entry_text_at bytes i) e fault
IsSo file s (finding.Sum name e) = IsEntryListed file s name e × (has_sum e.sum (bytes_in file e.extent) ≡ false)
IsSo file s (finding.Image name e) = IsEntryListed file s name e × (block_of file e ≡ None)

-- more was found, or nothing, and all that is new is so
pub record FindsMore (so : Finding → Type 0) (old new : List Finding) : Type 0 where
  pub more : List Finding
  pub is : new ≡ old ++ more
  pub all : All so more

-- the directory of one of a slot's documents, in a file of a version and of n bytes, is these bytes
pub record IsLooked (file_version n : ℕ) (bytes : List ℕ) (name : Named) (file : List ℕ) (s : Slot) : Type 0 where
  pub bytes_are : bytes ≡ bytes_in file (directory_extent s name)
  pub length_is : n ≡ length file
  pub version_is : file_version ≡ s.version

-- so it is in each file where this directory was looked through
abbrev pub IsSeen : ℕ → ℕ → List ℕ → Named → Finding → Type 0
IsSeen file_version n bytes name f =
    (file : List ℕ) (s : Slot) → IsLooked file_version n bytes name file s → IsSo file s f

-- it is this finding, and what it denies doesn't hold
abbrev pub IsNoted : Bool → Finding → Finding → Type 0
IsNoted holds finding f = (f ≡ finding) × (holds ≡ false)
