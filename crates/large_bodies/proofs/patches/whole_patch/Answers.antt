use Rattle.std.proofs.Common.{List, sym, subst}
use Rattle.chunk_edits.specs.Patching.{PatchPiece}
use Rattle.large_bodies.specs.declared.cut_body.CutBody.{CutBody}
use Rattle.large_bodies.proofs.PatchedRegions.{IsBodyPatch, by_bodies}
use Rattle.large_bodies.proofs.patches.whole_patch.Goals as goal

pub returns : goal.returns
returns c =
    let old : CutBody = c.args.old.now in let new : CutBody = c.args.new.now in
    let made : IsBodyPatch old new c.add_region.new.patch = by_bodies old new c.in_ok-patch.patch c.add_region.new.patch c.in_ok-patch.ensures c.in_ok-add_region.ensures c.requires in
    let all : IsBodyPatch old new c.shrink_to_fit.new.self = subst (IsBodyPatch old new) (sym {A = List PatchPiece} c.shrink_to_fit.ensures) made in
    record { leads = all.leads; room = all.room; held = all.held }
