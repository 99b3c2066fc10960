-- Which chunks are known to be arrays.
use Rattle.std.specs.Prelude.{◌≡◌, true, None}
use Rattle.geos_model.specs.Document.{Document}
use Rattle.geos_model.specs.Meaning.{conditions, effect}
use Rattle.geos_model.specs.Refusal.{first_refusal}
use Rattle.geos_model.specs.declared.command.Edit.{Edit}
use Rattle.geos_model.specs.declared.handle.VmHandle.{VmHandle}
use Rattle.geos_model.specs.declared.target.ArrayEdit.{ArrayEdit}
use Rattle.geos_model.specs.declared.target.ArrayEdit.TheVariants as array_edits
use Rattle.lmem_heap.specs.declared.known.ArrayKind.{ArrayKind}
use Rattle.lmem_heap.specs.declared.known.ArrayKind.TheVariants.{Chunk, Element, Name}
use Rattle.vm_blocks.specs.State.{CacheState}
use Rattle.vm_blocks.specs.Keeping.{is_loaded}

-- of which kind an array is, by what is done to it
abbrev pub array_kind : ArrayEdit → ArrayKind
array_kind (array_edits.Chunk edit) = Chunk
array_kind (array_edits.Element edit) = Element
array_kind (array_edits.Name edit) = Name

-- The document is what an edit makes of another that doesn't refuse it.
pub record IsMade (edit : Edit) (new : Document) : Type 0 where
  pub before : Document
  pub accepted : first_refusal (conditions edit before) ≡ None
  pub document : new ≡ (effect edit before).0

-- The block of an array is in memory, and the document is what the edit of it just made.
pub record IsJustEdited {S : Type 0} (edit : Edit) (b : VmHandle) (state : CacheState S) : Type 0 where
  pub loaded : is_loaded state b.0 ≡ true
  pub made : IsMade edit state.document
