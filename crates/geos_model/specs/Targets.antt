-- The edit that is seen as a target, of one change or of a large array. It is all that is said of the view: what is
-- said of an edit, each layer says of the edit, and its match is over the view.
use Rattle.geos_model.specs.declared.command.Edit.{Edit}
use Rattle.geos_model.specs.declared.command.Edit.TheVariants as edits
use Rattle.geos_model.specs.declared.handle.ChunkHandle.{ChunkHandle}
use Rattle.geos_model.specs.declared.handle.VmHandle.{VmHandle}
use Rattle.geos_model.specs.declared.target.ArrayEdit.{ArrayEdit}
use Rattle.geos_model.specs.declared.target.ArrayEdit.TheVariants as array_edits
use Rattle.geos_model.specs.declared.target.BlockEdit.{BlockEdit}
use Rattle.geos_model.specs.declared.target.BlockEdit.TheVariants as block_edits
use Rattle.geos_model.specs.declared.target.ByteEdit.{ByteEdit}
use Rattle.geos_model.specs.declared.target.ByteEdit.TheVariants as byte_edits
use Rattle.geos_model.specs.declared.target.ChainEdit.{ChainEdit}
use Rattle.geos_model.specs.declared.target.ChainEdit.TheVariants as chain_edits
use Rattle.geos_model.specs.declared.target.ChunkArrayEdit.{ChunkArrayEdit}
use Rattle.geos_model.specs.declared.target.ChunkArrayEdit.TheVariants as chunk_array_edits
use Rattle.geos_model.specs.declared.target.ChunkEdit.{ChunkEdit}
use Rattle.geos_model.specs.declared.target.ChunkEdit.TheVariants as chunk_edits
use Rattle.geos_model.specs.declared.target.ElementArrayEdit.{ElementArrayEdit}
use Rattle.geos_model.specs.declared.target.ElementArrayEdit.TheVariants as element_array_edits
use Rattle.geos_model.specs.declared.target.EditTarget.{EditTarget}
use Rattle.geos_model.specs.declared.target.EditTarget.TheVariants as seen
use Rattle.geos_model.specs.declared.target.LargeEdit.{LargeEdit}
use Rattle.geos_model.specs.declared.target.LargeEdit.TheVariants as large_edits
use Rattle.geos_model.specs.declared.target.NameArrayEdit.{NameArrayEdit}
use Rattle.geos_model.specs.declared.target.NameArrayEdit.TheVariants as name_array_edits
use Rattle.geos_model.specs.declared.target.NewBlock.{NewBlock}
use Rattle.geos_model.specs.declared.target.NewBlock.TheVariants as new_blocks
use Rattle.geos_model.specs.declared.target.NewChunk.{NewChunk}
use Rattle.geos_model.specs.declared.target.NewChunk.TheVariants as new_chunks
use Rattle.geos_model.specs.declared.target.RawEdit.{RawEdit}
use Rattle.geos_model.specs.declared.target.RawEdit.TheVariants as raw_edits
use Rattle.geos_model.specs.declared.target.Setting.{Setting}
use Rattle.geos_model.specs.declared.target.Setting.TheVariants as settings
use Rattle.geos_model.specs.declared.target.Target.{Target}
use Rattle.geos_model.specs.declared.target.Target.TheVariants as targets

abbrev pub setting : Setting → Edit
setting (settings.UserId b uid) = edits.SetUserId b uid
setting (settings.Type b heap_type) = edits.SetType b heap_type
setting (settings.MapBlock b) = edits.SetMap b

abbrev pub new_block : NewBlock → Edit
new_block (new_blocks.Raw uid size) = edits.NewRaw uid size
new_block (new_blocks.Heap uid) = edits.NewHeap uid

abbrev pub block_edit : VmHandle → BlockEdit → Edit
block_edit b block_edits.Free = edits.FreeBlock b
block_edit b block_edits.Copy = edits.CopyBlock b

abbrev pub raw_edit : VmHandle → RawEdit → Edit
raw_edit b (raw_edits.Write at bytes) = edits.WriteRaw b at bytes.now
raw_edit b (raw_edits.Splice at n bytes) = edits.SpliceRaw b at n bytes.now
raw_edit b (raw_edits.Attach bytes) = edits.Attach b bytes.now

abbrev pub new_chunk : VmHandle → NewChunk → Edit
new_chunk b (new_chunks.Zeros n) = edits.Alloc b n
new_chunk b (new_chunks.Array size extra) = edits.CreateArray b size extra
new_chunk b (new_chunks.ElementArray size) = edits.CreateElementArray b size
new_chunk b (new_chunks.NameArray part) = edits.CreateNameArray b part

abbrev pub byte_edit : VmHandle → ChunkHandle → ByteEdit → Edit
byte_edit b c (byte_edits.Resize n) = edits.Resize b c n
byte_edit b c (byte_edits.Insert at n) = edits.Insert b c at n
byte_edit b c (byte_edits.Delete at n) = edits.Delete b c at n
byte_edit b c (byte_edits.Write at bytes) = edits.Write b c at bytes.now
byte_edit b c (byte_edits.Splice at n bytes) = edits.Splice b c at n bytes.now

abbrev pub chunk_array_edit : VmHandle → ChunkHandle → ChunkArrayEdit → Edit
chunk_array_edit b c (chunk_array_edits.Insert i bytes) = edits.InsertElement b c i bytes.now
chunk_array_edit b c (chunk_array_edits.Set i bytes) = edits.SetElement b c i bytes.now
chunk_array_edit b c (chunk_array_edits.Resize i n) = edits.ResizeElement b c i n
chunk_array_edit b c (chunk_array_edits.Delete i k) = edits.DeleteElements b c i k
chunk_array_edit b c chunk_array_edits.Zero = edits.ZeroArray b c

abbrev pub element_array_edit : VmHandle → ChunkHandle → ElementArrayEdit → Edit
element_array_edit b c (element_array_edits.Add bytes) = edits.AddElement b c bytes.now
element_array_edit b c (element_array_edits.AddReference t) = edits.AddReference b c t
element_array_edit b c (element_array_edits.RemoveReference t) = edits.RemoveReference b c t
element_array_edit b c (element_array_edits.Delete t) = edits.DeleteElement b c t
element_array_edit b c (element_array_edits.Change t bytes) = edits.ChangeElement b c t bytes.now

abbrev pub name_array_edit : VmHandle → ChunkHandle → NameArrayEdit → Edit
name_array_edit b c (name_array_edits.Add name part replace) = edits.AddName b c name.now part.now replace
name_array_edit b c (name_array_edits.Change t name) = edits.ChangeName b c t name.now
name_array_edit b c (name_array_edits.SetPart t part) = edits.SetNamePart b c t part.now
name_array_edit b c (name_array_edits.Remove t) = edits.RemoveName b c t

abbrev pub array_edit : VmHandle → ChunkHandle → ArrayEdit → Edit
array_edit b c (array_edits.Chunk edit) = chunk_array_edit b c edit
array_edit b c (array_edits.Element edit) = element_array_edit b c edit
array_edit b c (array_edits.Name edit) = name_array_edit b c edit

abbrev pub chunk_edit : VmHandle → ChunkHandle → ChunkEdit → Edit
chunk_edit b c chunk_edits.Free = edits.Free b c
chunk_edit b c (chunk_edits.Bytes edit) = byte_edit b c edit
chunk_edit b c (chunk_edits.Array edit) = array_edit b c edit

abbrev pub chain_edit : VmHandle → ChainEdit → Edit
chain_edit b chain_edits.Copy = edits.CopyChain b
chain_edit b chain_edits.Free = edits.FreeChain b

abbrev pub edit_of : Target → Edit
edit_of (targets.Setting set) = setting set
edit_of (targets.NewBlock new) = new_block new
edit_of (targets.Block b edit) = block_edit b edit
edit_of (targets.Raw b edit) = raw_edit b edit
edit_of (targets.NewChunk b new) = new_chunk b new
edit_of (targets.Chunk b c edit) = chunk_edit b c edit
edit_of (targets.Chain b edit) = chain_edit b edit
edit_of (targets.NewLarge uid size) = edits.CreateLarge uid size

abbrev pub large_edit : VmHandle → LargeEdit → Edit
large_edit b (large_edits.Insert i bytes) = edits.InsertLarge b i bytes.now
large_edit b (large_edits.Set i bytes) = edits.SetLarge b i bytes.now
large_edit b (large_edits.Delete i n) = edits.DeleteLarge b i n

abbrev pub edit_seen : EditTarget → Edit
edit_seen (seen.One target) = edit_of target
edit_seen (seen.Large b edit) = large_edit b edit
