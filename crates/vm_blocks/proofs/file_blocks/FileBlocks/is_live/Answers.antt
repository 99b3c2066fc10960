use Rattle.std.proofs.Common.{sym, ap, ◌∙◌}
use Rattle.geos_model.specs.Document.{is_live}
use Rattle.vm_blocks.proofs.DocumentUnderFrames.{overlay_live}
use Rattle.vm_blocks.proofs.file_blocks.FileBlocks.is_live.Goals as goal

pub returns : goal.returns
returns g c = c.is_some.ensures ∙ c.entry.ensures.live ∙ sym (overlay_live _ c.self.inside.frames.entries c.self.inside.file.document c.args.handle.0 c.self.invariant.0.kept) ∙ ap (λ s. is_live s.document c.args.handle.0) c.self.view_is
