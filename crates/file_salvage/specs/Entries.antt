-- Which entries of a directory are whole, and which are taken. Its bytes may be fewer than its header tells: then
-- entries are missing.
use Rattle.std.specs.Prelude.{ℕ, List, [], ◌∷◌, ◌++◌, ◌-◌, ◌/◌, Bool, not, ◌==◌, ◌&&◌, nat_le, length, map, slice_index, slice_index_or, if◌then◌else◌, Option, None, Some, is_some, codes}
use Rattle.std.specs.List.{flat_map, list_all, list_any, range_with_len}
use Rattle.file_format.specs.File.{block_of, entry_length, entry_read, is_entry}
use Rattle.file_format.specs.declared.file.Entry.{Entry}
use Rattle.file_report.specs.Findings.{directory_version, entry_text_at, has_entry_zeros}
use Rattle.geos_model.specs.Script.{four_digits}
use Rattle.file_salvage.specs.Rows.{longest_row}
use Rattle.file_salvage.specs.declared.flaw.Flaw.{Flaw}
use Rattle.file_salvage.specs.declared.flaw.Flaw.TheVariants as flaws

-- how many entries these bytes of a directory have whole
abbrev pub entry_count : List ℕ → ℕ
entry_count bytes = (length bytes - 16) / entry_length (directory_version bytes)

abbrev pub entry_at : List ℕ → ℕ → Entry
entry_at bytes i = entry_read (directory_version bytes) (entry_text_at bytes i)

-- the text of an entry is one of a directory in a file of a version and of n bytes
abbrev pub is_right : ℕ → ℕ → List ℕ → ℕ → Bool
is_right file_version n bytes i =
    let e = entry_at bytes i in
    nat_le 1 e.handle.0 && is_entry file_version n (directory_version bytes) e
    && has_entry_zeros (directory_version bytes) (entry_text_at bytes i)

-- an entry without its sum
abbrev pub without_sum : Entry → Entry
without_sum e = record { handle = e.handle; attributes = e.attributes; extent = e.extent; sum = None }

-- why an entry hasn't its block: there is an image, but with another sum, or there is none
abbrev pub image_flaw : List ℕ → Entry → Flaw
image_flaw file e = if is_some (block_of file (without_sum e)) then flaws.Sum else flaws.Image

-- why an entry isn't whole
abbrev pub damage_at : List ℕ → ℕ → List ℕ → ℕ → Option Flaw
damage_at file version bytes i =
    if not (is_right version (length file) bytes i) then Some flaws.Entry
    else if not (is_some (block_of file (entry_at bytes i))) then Some (image_flaw file (entry_at bytes i)) else None

-- the same of each entry of a directory
abbrev pub damages : List ℕ → ℕ → List ℕ → List (Option Flaw)
damages file version bytes = map (damage_at file version bytes) (range_with_len 0 (entry_count bytes))

-- How many handles up to that of an entry, its own among them, the entries before it leave free; 0 for one that isn't
-- whole. In a directory handles rise, so this is at least 1 and never falls.

abbrev pub free_below : ℕ → Entry → Option Flaw → ℕ
free_below i e None = e.handle.0 - i
free_below i e (Some flaw) = 0

abbrev pub free_at : List ℕ → List (Option Flaw) → ℕ → ℕ
free_at bytes damages i = free_below i (entry_at bytes i) (slice_index_or damages i None)

abbrev pub free_numbers : List ℕ → List (Option Flaw) → List ℕ
free_numbers bytes damages = map (free_at bytes damages) (range_with_len 0 (length damages))

-- the whole entries that are taken, by their places in the directory: as many as can stand in one
abbrev pub whole_row : List ℕ → List (Option Flaw) → List ℕ
whole_row bytes damages = longest_row (free_numbers bytes damages)

-- Beside these, where all are asked for, entries whose image hasn't its sum: as many as can stand among them.

-- the same number of an entry whose image can be read, whether or not that has its sum
abbrev pub free_unsummed : ℕ → Entry → Option Flaw → ℕ
free_unsummed i e None = e.handle.0 - i
free_unsummed i e (Some flaws.Sum) = e.handle.0 - i
free_unsummed i e (Some flaw) = 0

-- a number at a place is at least each of a row's at places up to there, and at most each of those behind
abbrev pub fits_row : List ℕ → List ℕ → ℕ → ℕ → Bool
fits_row numbers row i n =
    list_all (λ j. if nat_le j i then nat_le (slice_index numbers j) n else nat_le n (slice_index numbers j)) row

-- that number where it can stand among those of a row, and else 0
abbrev pub free_among : List ℕ → List ℕ → ℕ → ℕ → ℕ
free_among numbers row i n = if fits_row numbers row i n then n else 0

abbrev pub free_beside : List ℕ → List (Option Flaw) → List ℕ → List ℕ → ℕ → ℕ
free_beside bytes damages numbers row i =
    free_among numbers row i (free_unsummed i (entry_at bytes i) (slice_index_or damages i None))

abbrev pub frees_beside : List ℕ → List (Option Flaw) → List ℕ → List ℕ → List ℕ
frees_beside bytes damages numbers row =
    map (free_beside bytes damages numbers row) (range_with_len 0 (length damages))

abbrev pub unsummed_row : List ℕ → List (Option Flaw) → List ℕ
unsummed_row bytes damages =
    longest_row (frees_beside bytes damages (free_numbers bytes damages) (whole_row bytes damages))

-- the entries that are taken, by their places: the whole ones, or all whose image can be read
abbrev pub taken_row : Bool → List ℕ → List (Option Flaw) → List ℕ
taken_row all bytes damages = if all then unsummed_row bytes damages else whole_row bytes damages

-- one of these entries has a handle
abbrev pub has_handle : ℕ → List Entry → Bool
has_handle h entries = list_any (λ e. e.handle.0 == h) entries

abbrev pub is_taken : ℕ → List ℕ → Bool
is_taken i row = list_any (λ j. j == i) row

-- what is wrong with the block of an entry that is taken or isn't: it isn't whole, or isn't taken, or is taken without
-- its sum
abbrev pub flaw_beside : Bool → Option Flaw → Option Flaw
flaw_beside is_taken None = if is_taken then None else Some flaws.Order
flaw_beside is_taken (Some flaws.Sum) = Some (if is_taken then flaws.Taken else flaws.Sum)
flaw_beside is_taken (Some flaw) = Some flaw

abbrev pub flaw_words : Flaw → List ℕ
flaw_words flaws.Entry = codes " is left out: its entry is damaged\n"
flaw_words flaws.Image = codes " is left out: its image is damaged\n"
flaw_words flaws.Sum = codes " is left out: its sum is wrong\n"
flaw_words flaws.Order = codes " is left out: its handle isn't in order\n"
flaw_words flaws.Taken = codes " is taken, though its sum is wrong\n"

-- the line that tells it
abbrev pub note_of : ℕ → Option Flaw → List ℕ
note_of h None = []
note_of h (Some flaw) = codes "# block" ++ 32 ∷ four_digits h ++ flaw_words flaw

abbrev pub note_at : List ℕ → List (Option Flaw) → List ℕ → ℕ → List ℕ
note_at bytes damages row i =
    note_of (entry_at bytes i).handle.0 (flaw_beside (is_taken i row) (slice_index_or damages i None))

-- the lines of the first n entries
unfoldable pub notes : List ℕ → List (Option Flaw) → List ℕ → ℕ → List ℕ
notes bytes damages row n = flat_map (note_at bytes damages row) (range_with_len 0 n)

-- an entry that is taken, without its sum where its image hasn't that
abbrev pub entry_beside : Entry → Option Flaw → Entry
entry_beside e None = e
entry_beside e (Some flaw) = without_sum e

abbrev pub taken_at : List ℕ → List (Option Flaw) → ℕ → Entry
taken_at bytes damages i = entry_beside (entry_at bytes i) (slice_index_or damages i None)

-- what there is to a directory: the entries that are taken, the last one first, and the lines
abbrev pub taken_entries : Bool → List ℕ → List (Option Flaw) → List Entry
taken_entries all bytes damages = map (taken_at bytes damages) (taken_row all bytes damages)

abbrev pub all_notes : Bool → List ℕ → List (Option Flaw) → List ℕ
all_notes all bytes damages = notes bytes damages (taken_row all bytes damages) (length damages)
