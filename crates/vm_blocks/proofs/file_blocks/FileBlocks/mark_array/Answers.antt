use Rattle.std.proofs.Common.{◌≡◌, true, is_some, sym, ap, subst, ◌∙◌}
use Rattle.std.specs.FinMap.{contains_key}
use Rattle.geos_model.specs.Document.{chunks_of}
use Rattle.geos_model.specs.Heap.{ChunkMap, chunk_bytes}
use Rattle.lmem_heap.specs.Known.{is_array_of}
use Rattle.vm_blocks.specs.Frames.{chunks_in_frames, frame_of}
use Rattle.vm_blocks.specs.State.{CacheState, is_resident}
use Rattle.vm_blocks.proofs.KeepingLaws.{loaded-resident}
use Rattle.vm_blocks.proofs.OrderOfUse.{resident_is}
use Rattle.vm_blocks.proofs.Tables.{chunks_under}
use Rattle.vm_blocks.proofs.file_blocks.FileBlocks.mark_array.Goals as goal

pub mark_array-requires-clause-live : goal.mark_array-requires-clause-live
mark_array-requires-clause-live g c =
    let es = c.self.inside.frames.entries in
    let d = c.self.inside.file.document in
    let h = c.args.handle.0 in
    let there : is_some (frame_of es h) ≡ true = sym (resident_is h es) ∙ ap (λ s. is_resident s.resident h) c.self.view_is ∙ loaded-resident c.args.self.now h c.requires.loaded in
    let same : chunks_of c.args.self.now.document h ≡ chunks_in_frames es h = ap (λ (s : CacheState g.row.S.Denot). chunks_of s.document h) (sym c.self.view_is) ∙ chunks_under es d h there in
    subst (λ (m : ChunkMap). contains_key m c.args.chunk.0 ≡ true) same c.requires.live

pub mark_array-requires-clause-array : goal.mark_array-requires-clause-array
mark_array-requires-clause-array g c =
    let es = c.self.inside.frames.entries in
    let d = c.self.inside.file.document in
    let h = c.args.handle.0 in
    let there : is_some (frame_of es h) ≡ true = sym (resident_is h es) ∙ ap (λ s. is_resident s.resident h) c.self.view_is ∙ loaded-resident c.args.self.now h c.requires.loaded in
    let same : chunks_of c.args.self.now.document h ≡ chunks_in_frames es h = ap (λ (s : CacheState g.row.S.Denot). chunks_of s.document h) (sym c.self.view_is) ∙ chunks_under es d h there in
    subst (λ (m : ChunkMap). is_array_of c.args.kind (chunk_bytes m c.args.chunk.0) ≡ true) same c.requires.array
