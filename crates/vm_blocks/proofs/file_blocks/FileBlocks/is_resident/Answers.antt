use Rattle.std.proofs.Common.{◌≡◌, ◌∙◌, sym, subst}
use Rattle.geos_model.specs.Document.{is_live}
use Rattle.vm_blocks.specs.Keeping.{is_loaded}
use Rattle.vm_blocks.specs.Frames.{residents, overlay}
use Rattle.vm_blocks.specs.State.{CacheState, is_resident}
use Rattle.vm_blocks.proofs.OrderOfUse.{resident_is}
use Rattle.vm_blocks.proofs.StateValidity.{seen_live}
use Rattle.vm_blocks.proofs.Residents.{first_of_both}
use Rattle.vm_blocks.proofs.file_blocks.FileBlocks.is_resident.Goals as goal

pub returns : goal.returns
unfolding is_loaded
returns g c =
    let h = c.args.handle.0 in
    let es = c.self.inside.frames.entries in
    let d = c.self.inside.file.document in
    subst (λ (s : CacheState g.row.S.Denot). c.contains.result ≡ is_loaded s h) c.self.view_is
    (c.contains.ensures ∙ sym (resident_is h es) ∙ first_of_both (is_resident (residents es) h) (is_live (overlay es d) h) (seen_live _ es d c.self.invariant.0.kept h))
