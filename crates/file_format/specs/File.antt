-- A document file: two slots, of which one counts and names the directories of the updated and of the saved document.
-- The file is of the version of the slot that counts, 1 to 3, and a directory has a version of its own. In version 3
-- what is read is held to what was written: a slot has the sums of its directories and its own, a directory those of
-- the images.
use Rattle.std.specs.Prelude.{ℕ, List, [], ◌∷◌, ◌++◌, ◌+◌, ◌*◌, ◌/◌, Bool, true, not, ◌==◌, ◌&&◌, ◌||◌, nat_le, nat_lt, length, map, take, drop, slice_index, if◌then◌else◌, Option, Some, None, Result, Ok, Err}
use Rattle.std.specs.List.{range_with_len, flat_map, list_all, list_any}
use Rattle.std.specs.Option.{option_and_then, option_map}
use Rattle.std.specs.FinMap.{from_entries}
use Rattle.checksum.specs.Crc32c.{crc32c}
use Rattle.geos_model.specs.Bytes.{same_bytes}
use Rattle.geos_model.specs.Words.{word, double_word, quad_word, word_at, double_word_at, quad_word_at}
use Rattle.geos_model.specs.Heap.{capacity}
use Rattle.geos_model.specs.Document.{Block, Document, most_blocks, is_heap_body}
use Rattle.geos_model.specs.Image.{body_of}
use Rattle.geos_model.specs.declared.command.Body.{Body}
use Rattle.geos_model.specs.declared.limit.TheConstants.{PAGE_LIMIT, PAGE_LIMIT_OF_VERSION_1, MOST_BLOCKS_OF_VERSION_1}
use Rattle.geos_model.specs.declared.fault.Fault.{Fault}
use Rattle.geos_model.specs.declared.fault.Fault.TheVariants.{NotDocument, Damaged}
use Rattle.file_format.specs.declared.file.Extent.{Extent}
use Rattle.file_format.specs.declared.file.Entry.{Entry}
use Rattle.file_format.specs.declared.file.Slot.{Slot}
use Rattle.file_format.specs.declared.file.SlotSums.{SlotSums}

-- Extents.

-- how many pages of 512 bytes so many bytes take
abbrev pub pages_of : ℕ → ℕ
pages_of n = (n + 511) / 512

-- the page behind an extent's last one
abbrev pub end_page : Extent → ℕ
end_page e = e.page + pages_of e.length

-- the first page that can't be used, and that in a file of a version
abbrev pub page_limit : ℕ
page_limit = PAGE_LIMIT

abbrev pub page_limit_of : ℕ → ℕ
page_limit_of version = if version == 1 then PAGE_LIMIT_OF_VERSION_1 else page_limit

-- the bytes of an extent
abbrev pub bytes_in : List ℕ → Extent → List ℕ
bytes_in file e = take e.length (drop (512 * e.page) file)

-- in a file of a version and of so many bytes, behind its slots, on pages that can be used
abbrev pub is_in_file : ℕ → ℕ → Extent → Bool
is_in_file version file_length e =
    nat_le 2 e.page && nat_le (512 * e.page + e.length) file_length && nat_le (end_page e) (page_limit_of version)

abbrev pub extent_text : Extent → List ℕ
extent_text e = double_word e.page ++ double_word e.length

-- the extent whose text stands at a place
abbrev pub extent_at : List ℕ → ℕ → Extent
extent_at bytes at = record { page = double_word_at bytes at; length = double_word_at bytes (at + 4) }

-- Slots.

-- GVMF
abbrev pub slot_mark : List ℕ
slot_mark = 0x47 ∷ 0x56 ∷ 0x4d ∷ 0x46 ∷ []

-- the sums at the end of a slot, for which version 3 alone has room
abbrev pub slot_sums_text : Option SlotSums → List ℕ
slot_sums_text None = []
slot_sums_text (Some sums) = double_word sums.working ++ double_word sums.saved ++ double_word sums.own

-- 32 bytes, and 44 in version 3
abbrev pub slot_text : Slot → List ℕ
slot_text s =
    slot_mark ++ s.gate ∷ s.version ∷ word s.reserved ++ quad_word s.sequence ++ extent_text s.working
    ++ extent_text s.saved ++ slot_sums_text s.sums

-- what a slot's own sum is of: its text from the version on, and so without mark and gate
abbrev pub sealed_text : Slot → SlotSums → List ℕ
sealed_text s sums =
    s.version ∷ word s.reserved ++ quad_word s.sequence ++ extent_text s.working ++ extent_text s.saved
    ++ double_word sums.working ++ double_word sums.saved

-- a slot's own sum is right, where it has one
abbrev pub is_sealed_by : Slot → Option SlotSums → Bool
is_sealed_by s None = true
is_sealed_by s (Some sums) = sums.own == crc32c (sealed_text s sums)

abbrev pub is_sealed : Slot → Bool
is_sealed s = is_sealed_by s s.sums

-- the sums in a slot's text, of a version
abbrev pub slot_sums_at : ℕ → List ℕ → Option SlotSums
slot_sums_at version bytes =
    if version == 3
    then Some (record {
      working = double_word_at bytes 32;
      saved = double_word_at bytes 36;
      own = double_word_at bytes 40;
    })
    else None

-- the fields of a slot's text
abbrev pub slot_fields : List ℕ → Slot
slot_fields bytes =
    record {
      gate = slice_index bytes 4;
      version = slice_index bytes 5;
      reserved = word_at bytes 6;
      sequence = quad_word_at bytes 8;
      working = extent_at bytes 16;
      saved = extent_at bytes 24;
      sums = slot_sums_at (slice_index bytes 5) bytes;
    }

-- the slot whose text these bytes are, if the mark stands
abbrev pub slot_of : List ℕ → Option Slot
slot_of bytes = if same_bytes (take 4 bytes) slot_mark then Some (slot_fields bytes) else None

abbrev pub if_open : Slot → Option Slot
if_open s = if s.gate == 1 then Some s else None

-- the slot at a page, where its mark stands and its gate is open
abbrev pub open_slot : List ℕ → ℕ → Option Slot
open_slot file page = option_and_then if_open (slot_of (take 44 (drop (512 * page) file)))

-- Directories.

-- what a directory says of a document: its map block, 0 for none, and its blocks. In one of version 1 no heap has a
-- type, and in one of version 3 each image has a sum.
pub record Directory : Type 0 where
  pub version : ℕ
  pub map_block : ℕ
  pub entries : List Entry

-- GDIR
abbrev pub directory_mark : List ℕ
directory_mark = 0x47 ∷ 0x44 ∷ 0x49 ∷ 0x52 ∷ []

-- the type of a heap, for which version 1 has zeros
abbrev pub type_text : ℕ → ℕ → List ℕ
type_text version heap_type = if version == 1 then 0 ∷ 0 ∷ [] else word heap_type

-- the sum of an image, for which version 3 alone has room
abbrev pub number_or_zero : Option ℕ → ℕ
number_or_zero None = 0
number_or_zero (Some n) = n

abbrev pub sum_text : ℕ → Option ℕ → List ℕ
sum_text version sum = if version == 3 then double_word (number_or_zero sum) else []

-- how many bytes an entry has in a directory of a version
abbrev pub entry_length : ℕ → ℕ
entry_length version = if version == 3 then 20 else 16

abbrev pub entry_text : ℕ → Entry → List ℕ
entry_text version e =
    word e.handle.0 ++ word e.attributes.user_id ++ extent_text e.extent ++ type_text version e.attributes.heap_type
    ++ 0 ∷ 0 ∷ sum_text version e.sum

-- before the entries: 16 bytes, with the version, the count of the entries and the map block
abbrev pub header_text : ℕ → ℕ → ℕ → List ℕ
header_text version count map_block =
    directory_mark ++ word version ++ word count ++ word map_block ++ 0 ∷ 0 ∷ 0 ∷ 0 ∷ 0 ∷ 0 ∷ []

abbrev pub directory_text : Directory → List ℕ
directory_text d = header_text d.version (length d.entries) d.map_block ++ flat_map (entry_text d.version) d.entries

-- the type at a place of a directory of a version
abbrev pub type_at : ℕ → List ℕ → ℕ → ℕ
type_at version bytes at = if version == 1 then 0 else word_at bytes at

-- and the sum
abbrev pub sum_at : ℕ → List ℕ → ℕ → Option ℕ
sum_at version bytes at = if version == 3 then Some (double_word_at bytes at) else None

-- the fields of an entry's text, in a directory of a version
abbrev pub entry_read : ℕ → List ℕ → Entry
entry_read version bytes =
    record {
      handle = record { 0 = word_at bytes 0 };
      attributes = record { user_id = word_at bytes 2; heap_type = type_at version bytes 12 };
      extent = extent_at bytes 4;
      sum = sum_at version bytes 16;
    }

-- where the text of an entry begins, in a directory of a version
abbrev pub entry_start : ℕ → ℕ → ℕ
entry_start version i = 16 + entry_length version * i

-- the fields of a directory's text
abbrev pub directory_read : List ℕ → Directory
directory_read bytes =
    record {
      version = word_at bytes 4;
      map_block = word_at bytes 8;
      entries =
          map (λ i. entry_read (word_at bytes 4) (drop (entry_start (word_at bytes 4) i) bytes))
          (range_with_len 0 (word_at bytes 6));
    }

-- the handles rise from above a number
abbrev pub is_rising : ℕ → List Entry → Bool
is_rising last [] = true
is_rising last (e ∷ es) = nat_lt last e.handle.0 && is_rising e.handle.0 es

-- how many bytes an image has at most, and a directory
abbrev pub longest_image : ℕ
longest_image = capacity + 1

abbrev pub longest_directory : ℕ
longest_directory = entry_start 3 most_blocks

-- the greatest handle in a directory of a version
abbrev pub greatest_handle : ℕ → ℕ
greatest_handle version = if version == 1 then MOST_BLOCKS_OF_VERSION_1 else most_blocks

-- an entry of a directory of the last of these versions that can stand in a file of the first one and of so many bytes
abbrev pub is_entry : ℕ → ℕ → ℕ → Entry → Bool
is_entry file_version file_length version e =
    nat_le e.handle.0 (greatest_handle version) && nat_le 1 e.extent.length && nat_le e.extent.length longest_image
    && is_in_file file_version file_length e.extent

-- the map block is none or listed
abbrev pub is_map_block : ℕ → List Entry → Bool
is_map_block map_block entries = map_block == 0 || list_any (λ e. e.handle.0 == map_block) entries

-- in a file of version 1 a directory has version 1, in one of version 2 that or 2, and in one of version 3 that
abbrev pub is_version_in : ℕ → ℕ → Bool
is_version_in file_version version =
    if file_version == 3 then version == 3 else version == 1 || (version == 2 && file_version == 2)

-- a directory that can stand in a file of a version and of so many bytes
abbrev pub is_directory : ℕ → ℕ → Directory → Bool
is_directory file_version file_length d =
    is_version_in file_version d.version && is_rising 0 d.entries
    && list_all (is_entry file_version file_length d.version) d.entries && is_map_block d.map_block d.entries

-- the directory whose text these bytes are, if they are the text of one that can stand in a file of a version and of so
-- many bytes
abbrev pub directory_in : ℕ → ℕ → List ℕ → Option Directory
directory_in file_version file_length bytes =
    let d = directory_read bytes in
    if is_directory file_version file_length d && same_bytes (directory_text d) bytes then Some d else None

-- the directory in an extent of a file of a version
abbrev pub directory_of : ℕ → List ℕ → Extent → Option Directory
directory_of version file e =
    if is_in_file version (length file) e then directory_in version (length file) (bytes_in file e) else None

-- bytes have a sum, where one is given
abbrev pub has_sum : Option ℕ → List ℕ → Bool
has_sum None bytes = true
has_sum (Some sum) bytes = sum == crc32c bytes

-- the directory in an extent of a file of a version, where its bytes have the sum
abbrev pub summed_directory : ℕ → List ℕ → Option ℕ → Extent → Option Directory
summed_directory version file sum e = if has_sum sum (bytes_in file e) then directory_of version file e else None

-- Documents.

abbrev pub prepended : Option (ℕ × Block) → Option (List (ℕ × Block)) → Option (List (ℕ × Block))
prepended block blocks = option_and_then (λ b. option_map (λ bs. b ∷ bs) blocks) block

-- the body, where it is a heap or no type is given: a raw body has none
abbrev pub if_typed : ℕ → Body → Option Body
if_typed heap_type body = if is_heap_body body || heap_type == 0 then Some body else None

-- the body whose image these bytes are, where they have the sum
abbrev pub summed_body : Option ℕ → List ℕ → Option Body
summed_body sum bytes = if has_sum sum bytes then body_of bytes else None

-- the block of an entry, where its extent has the image of a body that can have its type, with its sum
abbrev pub block_of : List ℕ → Entry → Option (ℕ × Block)
block_of file e =
    option_map (λ body. (e.handle.0, record { attributes = e.attributes; body = body }))
    (option_and_then (if_typed e.attributes.heap_type) (summed_body e.sum (bytes_in file e.extent)))

-- the blocks of these entries, where each of them has one
abbrev pub blocks_of_entries : List ℕ → List Entry → Option (List (ℕ × Block))
blocks_of_entries file [] = Some []
blocks_of_entries file (e ∷ es) = prepended (block_of file e) (blocks_of_entries file es)

abbrev pub document_of : List ℕ → Directory → Option Document
document_of file d =
    option_map (λ blocks. record { blocks = from_entries blocks; map_block = d.map_block })
    (blocks_of_entries file d.entries)

-- the document of the directory in an extent of a file of a version
abbrev pub document_at : ℕ → List ℕ → Extent → Option Document
document_at version file e = option_and_then (document_of file) (directory_of version file e)

-- and of one with a sum
abbrev pub summed_document : ℕ → List ℕ → Option ℕ → Extent → Option Document
summed_document version file sum e = option_and_then (document_of file) (summed_directory version file sum e)

-- the sums of a slot's directories
abbrev pub working_sum : Slot → Option ℕ
working_sum s = option_map (λ sums. sums.working) s.sums

abbrev pub saved_sum : Slot → Option ℕ
saved_sum s = option_map (λ sums. sums.saved) s.sums

-- What a file stands for.

-- the versions of the format
abbrev pub is_version : ℕ → Bool
is_version version = version == 1 || (version == 2 || version == 3)

-- the slot that counts: of two open ones that of the greater sequence number
abbrev pub counting_slot : Option Slot → Option Slot → Result Slot Fault
counting_slot None None = Err NotDocument
counting_slot (Some s) None = Ok s
counting_slot None (Some t) = Ok t
counting_slot (Some s) (Some t) =
    if s.sequence == t.sequence then Err Damaged else if nat_lt s.sequence t.sequence then Ok t else Ok s

abbrev pub both : Option Document → Option Document → Result (Document × Document) Fault
both (Some updated) (Some saved) = Ok (updated, saved)
both None saved = Err Damaged
both (Some updated) None = Err Damaged

-- the documents of a slot: the updated and the saved one
abbrev pub pair_of : List ℕ → Slot → Result (Document × Document) Fault
pair_of file s =
    if not (is_version s.version) then Err NotDocument
    else if not (s.reserved == 0) || (s.sequence == 0 || not (is_sealed s)) then Err Damaged
    else both (summed_document s.version file (working_sum s) s.working)
    (summed_document s.version file (saved_sum s) s.saved)

abbrev pub pair_of_counting : List ℕ → Result Slot Fault → Result (Document × Document) Fault
pair_of_counting file (Err fault) = Err fault
pair_of_counting file (Ok s) = pair_of file s

-- the updated and the saved document of a file, or why it is no document
abbrev pub stands : List ℕ → Result (Document × Document) Fault
stands file =
    if nat_lt (length file) 1024 then Err NotDocument
    else pair_of_counting file (counting_slot (open_slot file 0) (open_slot file 1))
