-- Of which part of the document an edit is, by what it touches.
use Rattle.std.proofs.Common.{◌≡◌, refl}
use Rattle.geos_model.specs.Machine.{kind_of}
use Rattle.geos_model.specs.Scope.{Plain, New, Block, Raw, Heap, Chunk, scope_of}
use Rattle.geos_model.specs.Targets.{array_edit, block_edit, byte_edit, chunk_edit, new_block, new_chunk, raw_edit, setting}
use Rattle.geos_model.specs.declared.command.Kind.TheVariants.{In}
use Rattle.geos_model.specs.declared.handle.ChunkHandle.{ChunkHandle}
use Rattle.geos_model.specs.declared.handle.VmHandle.{VmHandle}
use Rattle.geos_model.specs.declared.target.ArrayEdit.{ArrayEdit}
use Rattle.geos_model.specs.declared.target.ArrayEdit.TheVariants as array_edits
use Rattle.geos_model.specs.declared.target.BlockEdit.{BlockEdit}
use Rattle.geos_model.specs.declared.target.BlockEdit.TheVariants as block_edits
use Rattle.geos_model.specs.declared.target.ByteEdit.{ByteEdit}
use Rattle.geos_model.specs.declared.target.ByteEdit.TheVariants as byte_edits
use Rattle.geos_model.specs.declared.target.ChunkArrayEdit.TheVariants as chunk_array_edits
use Rattle.geos_model.specs.declared.target.ChunkEdit.{ChunkEdit}
use Rattle.geos_model.specs.declared.target.ChunkEdit.TheVariants as chunk_edits
use Rattle.geos_model.specs.declared.target.ElementArrayEdit.TheVariants as element_array_edits
use Rattle.geos_model.specs.declared.target.NameArrayEdit.TheVariants as name_array_edits
use Rattle.geos_model.specs.declared.target.NewBlock.{NewBlock}
use Rattle.geos_model.specs.declared.target.NewBlock.TheVariants as new_blocks
use Rattle.geos_model.specs.declared.target.NewChunk.{NewChunk}
use Rattle.geos_model.specs.declared.target.NewChunk.TheVariants as new_chunks
use Rattle.geos_model.specs.declared.target.RawEdit.{RawEdit}
use Rattle.geos_model.specs.declared.target.RawEdit.TheVariants as raw_edits
use Rattle.geos_model.specs.declared.target.Setting.{Setting}
use Rattle.geos_model.specs.declared.target.Setting.TheVariants as settings

pub setting_scope : (set : Setting) → scope_of (setting set) ≡ Plain
setting_scope (settings.UserId b uid) = refl
setting_scope (settings.Type b heap_type) = refl
setting_scope (settings.MapBlock b) = refl

pub new_scope : (new : NewBlock) → scope_of (new_block new) ≡ New
new_scope (new_blocks.Raw uid size) = refl
new_scope (new_blocks.Heap uid) = refl

pub block_scope : (b : VmHandle) (edit : BlockEdit) → scope_of (block_edit b edit) ≡ Block b
block_scope b block_edits.Free = refl
block_scope b block_edits.Copy = refl

pub raw_scope : (b : VmHandle) (edit : RawEdit) → scope_of (raw_edit b edit) ≡ Raw b
raw_scope b (raw_edits.Write at bytes) = refl
raw_scope b (raw_edits.Splice at n bytes) = refl
raw_scope b (raw_edits.Attach bytes) = refl

pub heap_scope : (b : VmHandle) (new : NewChunk) → scope_of (new_chunk b new) ≡ Heap b
heap_scope b (new_chunks.Zeros n) = refl
heap_scope b (new_chunks.Array size extra) = refl
heap_scope b (new_chunks.ElementArray size) = refl
heap_scope b (new_chunks.NameArray part) = refl

module _ (b : VmHandle) (c : ChunkHandle) where
  pub byte_scope : (edit : ByteEdit) → scope_of (byte_edit b c edit) ≡ Chunk b c
  byte_scope (byte_edits.Resize n) = refl
  byte_scope (byte_edits.Insert at n) = refl
  byte_scope (byte_edits.Delete at n) = refl
  byte_scope (byte_edits.Write at bytes) = refl
  byte_scope (byte_edits.Splice at n bytes) = refl

  -- an edit of an array is a step inside its block
  pub array_scope : (edit : ArrayEdit) → (scope_of (array_edit b c edit) ≡ Chunk b c) × (kind_of (array_edit b c edit) ≡ In b)
  array_scope (array_edits.Chunk (chunk_array_edits.Insert i bytes)) = (refl, refl)
  array_scope (array_edits.Chunk (chunk_array_edits.Set i bytes)) = (refl, refl)
  array_scope (array_edits.Chunk (chunk_array_edits.Resize i n)) = (refl, refl)
  array_scope (array_edits.Chunk (chunk_array_edits.Delete i k)) = (refl, refl)
  array_scope (array_edits.Chunk chunk_array_edits.Zero) = (refl, refl)
  array_scope (array_edits.Element (element_array_edits.Add bytes)) = (refl, refl)
  array_scope (array_edits.Element (element_array_edits.AddReference t)) = (refl, refl)
  array_scope (array_edits.Element (element_array_edits.RemoveReference t)) = (refl, refl)
  array_scope (array_edits.Element (element_array_edits.Delete t)) = (refl, refl)
  array_scope (array_edits.Element (element_array_edits.Change t bytes)) = (refl, refl)
  array_scope (array_edits.Name (name_array_edits.Add name part replace)) = (refl, refl)
  array_scope (array_edits.Name (name_array_edits.Change t name)) = (refl, refl)
  array_scope (array_edits.Name (name_array_edits.SetPart t part)) = (refl, refl)
  array_scope (array_edits.Name (name_array_edits.Remove t)) = (refl, refl)

  pub chunk_scope : (edit : ChunkEdit) → scope_of (chunk_edit b c edit) ≡ Chunk b c
  chunk_scope chunk_edits.Free = refl
  chunk_scope (chunk_edits.Bytes edit) = byte_scope edit
  chunk_scope (chunk_edits.Array edit) = (array_scope edit).0
