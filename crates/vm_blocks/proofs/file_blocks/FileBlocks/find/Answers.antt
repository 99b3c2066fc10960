use Rattle.std.proofs.Common.{sym, ap, ◌∙◌}
use Rattle.geos_model.specs.Reply.{found}
use Rattle.vm_blocks.proofs.Listing.{overlay_found}
use Rattle.vm_blocks.proofs.file_blocks.FileBlocks.find.Goals as goal

pub returns : goal.returns
returns g c =
    c.find.ensures ∙ sym (overlay_found _ c.self.inside.frames.entries c.self.inside.file.document c.self.invariant.0.kept c.args.user_id c.args.start.0) ∙ ap (λ s. found s.document c.args.user_id c.args.start.0) c.self.view_is
