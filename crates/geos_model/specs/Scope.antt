-- Which part of a document an edit is of: the block and the chunk that it names, or that it makes one.
use Rattle.geos_model.specs.declared.command.Edit.{Edit}
use Rattle.geos_model.specs.declared.command.Edit.TheVariants as edits
use Rattle.geos_model.specs.declared.handle.ChunkHandle.{ChunkHandle}
use Rattle.geos_model.specs.declared.handle.VmHandle.{VmHandle}

-- No body: a user ID, a type or the map block. A new block. A block as a whole, of either kind. The bytes of a raw
-- block. A heap, in which a chunk is made. A chunk of a heap. The blocks of a chain, and those of a large array, by
-- their root.
pub data Scope : Type 0 where
  Plain : Scope
  New : Scope
  Block : (block : VmHandle) → Scope
  Raw : (block : VmHandle) → Scope
  Heap : (block : VmHandle) → Scope
  Chunk : (block : VmHandle) (chunk : ChunkHandle) → Scope
  Chain : (root : VmHandle) → Scope
  Large : (root : VmHandle) → Scope

abbrev pub scope_of : Edit → Scope
scope_of (edits.SetUserId b uid) = Plain
scope_of (edits.SetType b heap_type) = Plain
scope_of (edits.SetMap b) = Plain
scope_of (edits.NewRaw uid size) = New
scope_of (edits.NewHeap uid) = New
scope_of (edits.FreeBlock b) = Block b
scope_of (edits.CopyBlock b) = Block b
scope_of (edits.WriteRaw b at bytes) = Raw b
scope_of (edits.SpliceRaw b at n bytes) = Raw b
scope_of (edits.Attach b bytes) = Raw b
scope_of (edits.Alloc b n) = Heap b
scope_of (edits.CreateArray b size extra) = Heap b
scope_of (edits.CreateElementArray b size) = Heap b
scope_of (edits.CreateNameArray b part) = Heap b
scope_of (edits.Free b c) = Chunk b c
scope_of (edits.Resize b c n) = Chunk b c
scope_of (edits.Insert b c at n) = Chunk b c
scope_of (edits.Delete b c at n) = Chunk b c
scope_of (edits.Write b c at bytes) = Chunk b c
scope_of (edits.Splice b c at n bytes) = Chunk b c
scope_of (edits.InsertElement b c i element) = Chunk b c
scope_of (edits.SetElement b c i element) = Chunk b c
scope_of (edits.ResizeElement b c i n) = Chunk b c
scope_of (edits.DeleteElements b c i k) = Chunk b c
scope_of (edits.ZeroArray b c) = Chunk b c
scope_of (edits.AddElement b c element) = Chunk b c
scope_of (edits.AddReference b c t) = Chunk b c
scope_of (edits.RemoveReference b c t) = Chunk b c
scope_of (edits.DeleteElement b c t) = Chunk b c
scope_of (edits.ChangeElement b c t element) = Chunk b c
scope_of (edits.AddName b c name part replace) = Chunk b c
scope_of (edits.ChangeName b c t name) = Chunk b c
scope_of (edits.SetNamePart b c t part) = Chunk b c
scope_of (edits.RemoveName b c t) = Chunk b c
scope_of (edits.CopyChain b) = Chain b
scope_of (edits.FreeChain b) = Chain b
scope_of (edits.CreateLarge uid size) = New
scope_of (edits.InsertLarge b i bytes) = Large b
scope_of (edits.SetLarge b i bytes) = Large b
scope_of (edits.DeleteLarge b i n) = Large b
