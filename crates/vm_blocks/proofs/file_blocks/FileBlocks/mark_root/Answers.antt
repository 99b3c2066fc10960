use Rattle.std.proofs.Common.{◌≡◌, ℕ, List, true, is_some, sym, ap, subst, ◌∙◌}
use Rattle.geos_model.specs.Document.{raw_bytes_of}
use Rattle.raw_region.specs.Roots.{is_large_root}
use Rattle.vm_blocks.specs.Frames.{bytes_in_frames, frame_of}
use Rattle.vm_blocks.specs.State.{CacheState, is_resident}
use Rattle.vm_blocks.proofs.KeepingLaws.{loaded-resident}
use Rattle.vm_blocks.proofs.OrderOfUse.{resident_is}
use Rattle.vm_blocks.proofs.Tables.{bytes_under}
use Rattle.vm_blocks.proofs.file_blocks.FileBlocks.mark_root.Goals as goal

pub mark_root-requires : goal.mark_root-requires
mark_root-requires g c =
    let es = c.self.inside.frames.entries in
    let d = c.self.inside.file.document in
    let h = c.args.handle.0 in
    let there : is_some (frame_of es h) ≡ true = sym (resident_is h es) ∙ ap (λ s. is_resident s.resident h) c.self.view_is ∙ loaded-resident c.args.self.now h c.requires.loaded in
    let same : raw_bytes_of c.args.self.now.document h ≡ bytes_in_frames es h = ap (λ (s : CacheState g.row.S.Denot). raw_bytes_of s.document h) (sym c.self.view_is) ∙ bytes_under es d h there in
    subst (λ (bytes : List ℕ). is_large_root bytes ≡ true) same c.requires.root
