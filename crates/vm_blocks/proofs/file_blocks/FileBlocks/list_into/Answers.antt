use Rattle.std.proofs.Common.{ℕ, List, sym, subst, ap, ◌∙◌}
use Rattle.std.specs.FinMap.{keys}
use Rattle.document_file.specs.Listing.{IsListed}
use Rattle.vm_blocks.proofs.Listing.{overlay_keys}
use Rattle.vm_blocks.proofs.file_blocks.FileBlocks.list_into.Goals as goal

pub returns : goal.returns
returns g c =
    let shown = sym (overlay_keys _ c.self.inside.frames.entries c.self.inside.file.document c.self.invariant.0.kept) ∙ ap (λ s. keys s.document.blocks) c.self.view_is in
    subst (λ (live : List ℕ). IsListed live c.args.handles.now c.list_into.new.handles c.list_into.result) shown c.list_into.ensures
