use Rattle.std.proofs.Common.{is_some, sym, ap, ◌∙◌}
use Rattle.geos_model.specs.Document.{is_heap, is_live}
use Rattle.vm_blocks.proofs.DocumentUnderFrames.{overlay_kind, overlay_live}
use Rattle.vm_blocks.proofs.file_blocks.FileBlocks.kind.Goals as goal

pub returns-in-Some : goal.returns-in-Some
returns-in-Some g c =
    let i = c.self.inside in let h = c.args.handle.0 in
    let live = sym (ap (λ s. is_live s.document h) c.self.view_is) ∙ overlay_live _ i.frames.entries i.file.document h c.self.invariant.0.kept ∙ sym c.in-Some.ensures.live in
    (live, sym (ap (λ s. is_heap s.document h) c.self.view_is) ∙ overlay_kind _ i.frames.entries i.file.document h c.self.invariant.0.kept ∙ sym c.in-Some.ensures.kind)

pub returns-in-None : goal.returns-in-None
returns-in-None g c =
    let i = c.self.inside in let h = c.args.handle.0 in
    sym (ap (λ s. is_live s.document h) c.self.view_is) ∙ overlay_live _ i.frames.entries i.file.document h c.self.invariant.0.kept ∙ sym c.entry.ensures.live ∙ ap is_some c.in-None.is
