use Rattle.std.proofs.Common.{◌≡◌, Some, sym, ap, subst, ◌∙◌}
use Rattle.std.specs.Option.{option_map}
use Rattle.std.specs.FinMap.{get}
use Rattle.geos_model.specs.Document.{Block}
use Rattle.vm_blocks.specs.Bodies.{body_value}
use Rattle.vm_blocks.specs.State.{CacheState, is_resident}
use Rattle.vm_blocks.proofs.KeepingLaws.{loaded-resident}
use Rattle.vm_blocks.proofs.OrderOfUse.{resident_is}
use Rattle.vm_blocks.proofs.Tables.{body_under}
use Rattle.vm_blocks.proofs.file_blocks.FileBlocks.body.Goals as goal

pub body_in-requires : goal.body_in-requires
body_in-requires g c = sym (resident_is c.args.handle.0 c.self.inside.frames.entries) ∙ ap (λ s. is_resident s.resident c.args.handle.0) c.self.view_is ∙ loaded-resident c.args.self.now c.args.handle.0 c.requires

pub returns : goal.returns
returns g c =
    subst (λ (s : CacheState g.row.S.Denot). option_map (λ (b : Block). b.body) (get s.document.blocks c.args.handle.0) ≡ Some (body_value c.body_in.result.now)) c.self.view_is
    (body_under c.self.inside.frames.entries c.self.inside.file.document c.args.handle.0 c.body_in.result.now c.body_in.ensures)
