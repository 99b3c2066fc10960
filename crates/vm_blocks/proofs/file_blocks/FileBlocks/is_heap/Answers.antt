use Rattle.std.proofs.Common.{◌≡◌, sym, ap, ◌∙◌}
use Rattle.geos_model.specs.Document.{is_heap, is_live}
use Rattle.vm_blocks.proofs.DocumentUnderFrames.{overlay_kind, overlay_live}
use Rattle.vm_blocks.proofs.file_blocks.FileBlocks.is_heap.Goals as goal

pub unwrap-requires : goal.unwrap-requires
unwrap-requires g c = c.entry.ensures.live ∙ sym (overlay_live _ c.self.inside.frames.entries c.self.inside.file.document c.args.handle.0 c.self.invariant.0.kept) ∙ ap (λ s. is_live s.document c.args.handle.0) c.self.view_is ∙ c.requires

pub returns : goal.returns
returns g c =
    let d = c.self.inside.file.document in
    let h = c.args.handle.0 in
    let kind : c.unwrap.result.is_heap ≡ is_heap d h = rw c.unwrap.ensures at c.entry.ensures.kind in
    kind ∙ sym (overlay_kind _ c.self.inside.frames.entries d h c.self.invariant.0.kept) ∙ ap (λ s. is_heap s.document h) c.self.view_is
