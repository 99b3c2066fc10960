use Rattle.std.proofs.Common.{◌≡◌, true, refl, sym, ap, ◌∙◌, subst}
use Rattle.std.specs.FinMap.{contains_key}
use Rattle.geos_model.specs.Heap.{ChunkMap, is_heap_map}
use Rattle.geos_model.specs.Targets.{array_edit, chunk_edit, edit_of}
use Rattle.geos_model.specs.declared.command.Edit.{Edit}
use Rattle.geos_model.specs.declared.target.ChunkEdit.{ChunkEdit}
use Rattle.geos_model.specs.declared.target.ChunkEdit.TheVariants as chunk_edits
use Rattle.doc_edits.specs.Marking.{IsMade}
use Rattle.doc_edits.proofs.Documents.{chunks_are}
use Rattle.doc_edits.proofs.EditedArrays.{marked}
use Rattle.doc_edits.proofs.marking.mark_edited.Goals as goal

pub heap_at-requires : goal.heap_at-requires
heap_at-requires g c =
    let b = c.in-Chunk-default-default-Array.block in let k = c.in-Chunk-default-default-Array.chunk in let e = c.in-Chunk-default-default-Array.edit in let d = c.args.blocks.now.document in
    let of : c.in-Chunk-default-default-Array.field-2 ≡ chunk_edits.Array e = rw c.in-Chunk-default-default-Array.is at c.in-Chunk-default-default-Array.field-2-is in
    let is : edit_of c.args.target ≡ array_edit b k e = ap edit_of c.in-Chunk-default-default-Array.is ∙ ap (λ (x : ChunkEdit). chunk_edit b k x) of in
    let just = c.requires b k e is in
    record { loaded = just.loaded; heap = (marked d b k e (subst (λ (x : Edit). IsMade x d) is just.made)).0 }

pub mark_array-requires : goal.mark_array-requires
mark_array-requires g c =
    let b = c.in-Chunk-default-default-Array.block in let k = c.in-Chunk-default-default-Array.chunk in let e = c.in-Chunk-default-default-Array.edit in let d = c.args.blocks.now.document in
    let of : c.in-Chunk-default-default-Array.field-2 ≡ chunk_edits.Array e = rw c.in-Chunk-default-default-Array.is at c.in-Chunk-default-default-Array.field-2-is in
    let is : edit_of c.args.target ≡ array_edit b k e = ap edit_of c.in-Chunk-default-default-Array.is ∙ ap (λ (x : ChunkEdit). chunk_edit b k x) of in
    let just = c.requires b k e is in
    let left = marked d b k e (subst (λ (x : Edit). IsMade x d) is just.made) in
    let chunks = sym (chunks_are d b.0 c.heap_at.result.now.chunks c.heap_at.ensures) in
    let live = subst (λ (m : ChunkMap). contains_key m k.0 ≡ true) chunks (c.if-is_worth_a_mark.ensures.live refl) in
    let valid = subst (λ (m : ChunkMap). is_heap_map m ≡ true) chunks c.if-is_worth_a_mark.ensures.valid in
    record { loaded = just.loaded; heap = left.0; live = live; array = rw c.array_kind-kind.ensures (left.1 valid live) }
