use Rattle.std.proofs.Common.{sym, ap, ◌∙◌}
use Rattle.std.specs.FinMap.{keys}
use Rattle.std.proofs.lemmas.Result.{IfOk-weaker}
use Rattle.vm_blocks.proofs.Listing.{overlay_keys}
use Rattle.vm_blocks.proofs.file_blocks.FileBlocks.list.Goals as goal

pub returns : goal.returns
returns g c =
    let shown = sym (overlay_keys _ c.self.inside.frames.entries c.self.inside.file.document c.self.invariant.0.kept) ∙ ap (λ s. keys s.document.blocks) c.self.view_is in
    IfOk-weaker c.list.result _ _ (λ handles is. is ∙ shown) c.list.ensures
