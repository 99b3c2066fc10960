-- A document by its entries.
use Rattle.std.specs.Prelude.{◌≡◌, ◌==◌, ℕ, true, List, Option, Some, find, is_some}
use Rattle.geos_model.specs.Document.{Document}
use Rattle.file_format.specs.File.{Directory, blocks_of_entries, document_of}
use Rattle.file_format.specs.declared.file.Entry.{Entry}

-- a directory of this map block and these entries
abbrev pub listing : ℕ → List Entry → Directory
listing map_block entries = record { version = 2; map_block = map_block; entries = entries }

-- the first of these entries that has a handle
abbrev pub entry_with : ℕ → List Entry → Option Entry
entry_with h entries = find (λ e. e.handle.0 == h) entries

-- in a file each of these entries has its block
abbrev pub HasBlocks : List ℕ → List Entry → Type 0
HasBlocks file entries = is_some (blocks_of_entries file entries) ≡ true

-- in a file these entries and this map block make a document
abbrev pub IsListedAs : List ℕ → ℕ → List Entry → Document → Type 0
IsListedAs file map_block entries d = document_of file (listing map_block entries) ≡ Some d
