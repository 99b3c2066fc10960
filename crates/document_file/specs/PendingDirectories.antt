-- A directory that is to be written.
use Rattle.std.specs.Prelude.{◌≡◌, ◌++◌, All, Option, None, Some, length}
use Rattle.file_format.specs.File.{directory_text}
use Rattle.geos_model.specs.Document.{FitAttributes}
use Rattle.document_file.specs.Ranges.{start_of, IsPlaced, IsClear}
use Rattle.document_file.specs.Slots.{block_extents, referenced_extents}
use Rattle.document_file.specs.Documents.{entries_of, directory_of_table}
use Rattle.document_file.specs.Copies.{IsCopy}
use Rattle.document_file.specs.Sums.{has_sums, sum_for}
use Rattle.document_file.specs.declared.directory.PendingDirectory.{PendingDirectory}
use Rattle.document_file.specs.declared.table.BlockTable.{BlockTable}
use Rattle.document_file.specs.declared.table.DocumentRef.{DocumentRef}
use Rattle.document_file.specs.declared.slot.Slots.{Slots}

-- The directory of a table in the version that commits write, with its text and its sum.
pub record IsMadeDirectory (table : BlockTable) (slots : Slots) (pending : PendingDirectory) : Type 0 where
  pub table_is : IsCopy pending.document.table.value table
  pub text : pending.text.items ≡
      directory_text (directory_of_table slots.next_version pending.document.table.value)
  pub sum : pending.document.sum ≡ sum_for (has_sums slots.next_version) pending.text.items
  pub attributes : All (λ e. FitAttributes e.attributes) (entries_of 1 pending.document.table.value.places.items)

-- that of the saved document, with the sums that the file gets
pub record IsSavedAnew (slots : Slots) (pending : PendingDirectory) : Type 0 where
  pub table : BlockTable
  pub given : slots.saved_sums ≡ Some table
  pub made : IsMadeDirectory table slots pending

-- The directory of the live table in the version that commits write, with its text, its sum and a place on which
-- nothing lies that stays.
pub record IsPendingDirectory (live : BlockTable) (slots : Slots) (pending : PendingDirectory) : Type 0 where
  pub table : IsCopy pending.document.table.value live
  pub text : pending.text.items ≡
      directory_text (directory_of_table slots.next_version pending.document.table.value)
  pub sum : pending.document.sum ≡ sum_for (has_sums slots.next_version) pending.text.items
  pub size : pending.document.directory.length ≡ length pending.text.items
  pub placed : IsPlaced pending.document.directory
  pub clear : IsClear (start_of pending.document.directory) pending.document.directory.length
      (block_extents live.places.items ++ referenced_extents slots)
  pub attributes : All (λ e. FitAttributes e.attributes) (entries_of 1 pending.document.table.value.places.items)

-- It can be placed, apart from all that the file has and keeps.
pub record IsSpared (live : BlockTable) (slots : Slots) (pending : PendingDirectory) : Type 0 where
  pub size : pending.document.directory.length ≡ length pending.text.items
  pub placed : IsPlaced pending.document.directory
  pub clear : IsClear (start_of pending.document.directory) pending.document.directory.length
      (block_extents live.places.items ++ referenced_extents slots)

-- what a revert commits: the saved document, with the directory that it gets, if it gets one
abbrev pub reverted : Slots → Option PendingDirectory → DocumentRef
reverted slots None = slots.committed.saved
reverted slots (Some pending) = pending.document
