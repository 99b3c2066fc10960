-- Directories as code reads them.
use Rattle.std.specs.Prelude.{◌≡◌, ◌<◌, ℕ, List, Bool, true, ◌&&◌, length, take, drop}
use Rattle.std.specs.List.{flat_map, list_all}
use Rattle.geos_model.specs.Words.{word_at}
use Rattle.geos_model.specs.Bytes.{same_bytes}
use Rattle.file_format.specs.File as file
use Rattle.file_format.specs.File.{directory_read, header_text, entry_text, entry_start, is_rising, is_entry, is_version_in}
use Rattle.file_format.specs.declared.file.Entry.{Entry}
use Rattle.file_format.specs.declared.directory.Directory.{Directory}

-- a directory as the definitions see it
abbrev pub as_directory : Directory → file.Directory
as_directory d = record { version = d.version; map_block = d.map_block.0; entries = d.entries.items }

-- the version of a directory, behind its mark
abbrev pub version_read : List ℕ → ℕ
version_read bytes = word_at bytes 4

-- These bytes begin with the header of a directory that can be in a file of a version, and have room for just the
-- entries that it counts.
pub record HasHeader (file_version : ℕ) (bytes : List ℕ) : Type 0 where
  pub version : is_version_in file_version (version_read bytes) ≡ true
  pub header : take 16 bytes ≡ header_text (version_read bytes) (word_at bytes 6) (word_at bytes 8)
  pub size : length bytes ≡ entry_start (version_read bytes) (word_at bytes 6)

-- the entries whose texts these bytes are, behind a header
abbrev pub entries_read : List ℕ → List Entry
entries_read bytes = (directory_read bytes).entries

-- they can stand in a file of a version and of so many bytes, and the bytes are their texts
abbrev pub are_entries : ℕ → ℕ → List ℕ → Bool
are_entries file_version n bytes =
    let es = entries_read bytes in
    let version = version_read bytes in
    is_rising 0 es && list_all (is_entry file_version n version) es
    && same_bytes (flat_map (entry_text version) es) (drop 16 bytes)

-- An entry with this text can stand in a directory of a version, in a file of a version and of n bytes, behind one with
-- the handle `last`.
pub record IsNextEntry (file_version n version last : ℕ) (text : List ℕ) (e : Entry) : Type 0 where
  pub above : last < e.handle.0
  pub stands : is_entry file_version n version e ≡ true
  pub text_is : text ≡ entry_text version e
