-- Copies of tables, and documents that share one.
use Rattle.std.specs.Prelude.{◌≡◌}
use Rattle.document_file.specs.declared.table.BlockTable.{BlockTable}
use Rattle.document_file.specs.declared.table.DocumentRef.{DocumentRef}

-- a vector of its own, with the same places
pub record IsCopy (copy table : BlockTable) : Type 0 where
  pub map_block : copy.map_block ≡ table.map_block
  pub places : copy.places.items ≡ table.places.items

-- the same document in the file
pub record IsSameStored (other stored : DocumentRef) : Type 0 where
  pub directory : other.directory ≡ stored.directory
  pub sum : other.sum ≡ stored.sum
  pub table : other.table.value ≡ stored.table.value
