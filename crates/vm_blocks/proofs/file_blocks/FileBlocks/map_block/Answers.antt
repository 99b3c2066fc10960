use Rattle.std.proofs.Common.{sym, ap, ◌∙◌}
use Rattle.vm_blocks.proofs.DocumentUnderFrames.{overlay_map}
use Rattle.vm_blocks.proofs.file_blocks.FileBlocks.map_block.Goals as goal

pub returns : goal.returns
returns g c = c.map_block.ensures ∙ sym (overlay_map c.self.inside.frames.entries c.self.inside.file.document) ∙ ap (λ s. s.document.map_block) c.self.view_is
