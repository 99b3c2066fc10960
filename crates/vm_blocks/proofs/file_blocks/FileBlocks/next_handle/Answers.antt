use Rattle.std.proofs.Common.{◌≡◌, None, sym, ap, subst, ◌∙◌}
use Rattle.std.specs.Option.{IfSome}
use Rattle.std.specs.FinMap.{get}
use Rattle.geos_model.specs.Document.{next_handle}
use Rattle.vm_blocks.specs.State.{CacheState}
use Rattle.vm_blocks.proofs.Listing.{overlay_next, overlay_free, some_weaker}
use Rattle.vm_blocks.proofs.file_blocks.FileBlocks.next_handle.Goals as goal

pub returns-clause-value : goal.returns-clause-value
returns-clause-value g c =
    c.next_handle.ensures.value ∙ sym (overlay_next _ c.self.inside.frames.entries c.self.inside.file.document c.self.invariant.0.kept) ∙ ap (λ s. next_handle s.document) c.self.view_is

pub returns-clause-free : goal.returns-clause-free
returns-clause-free g c =
    subst (λ (s : CacheState g.row.S.Denot). IfSome c.next_handle.result (λ h. get s.document.blocks h.0 ≡ None)) c.self.view_is
    (some_weaker c.next_handle.result _ _ (λ h none. overlay_free _ c.self.inside.frames.entries c.self.inside.file.document c.self.invariant.0.kept h.0 none) c.next_handle.ensures.free)
