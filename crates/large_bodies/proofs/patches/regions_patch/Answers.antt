use Rattle.std.proofs.Common.{List, sym, subst}
use Rattle.chunk_edits.specs.Patching.{PatchPiece}
use Rattle.large_bodies.specs.declared.cut_body.CutBody.{CutBody}
use Rattle.large_bodies.specs.Differences.{header_of, table_of, rest_of}
use Rattle.large_bodies.proofs.PatchedRegions.{IsBodyPatch, by_regions, region-as, table-as}
use Rattle.large_bodies.proofs.patches.regions_patch.Goals as goal

pub returns : goal.returns
returns c =
    let old : CutBody = c.args.old.now in let new : CutBody = c.args.new.now in
    let p : List PatchPiece = c.in_ok-patch.patch in
    let q : List PatchPiece = c.add_region.new.patch in let r : List PatchPiece = c.add_table.new.patch in let s : List PatchPiece = c.add_region-2.new.patch in
    let made : IsBodyPatch old new s =
    by_regions old new p q r s c.in_ok-patch.ensures
    (region-as p q c.header_bytes.result.now (header_of old) c.header_bytes-2.result.now (header_of new) c.header_bytes.ensures c.header_bytes-2.ensures c.in_ok-add_region.ensures)
    (table-as q r c.table_bytes.result.now (table_of old) c.table_bytes-2.result.now (table_of new) c.table_bytes.ensures c.table_bytes-2.ensures c.in_ok-add_table.ensures)
    (region-as r s c.rest_bytes.result.now (rest_of old) c.rest_bytes-2.result.now (rest_of new) c.rest_bytes.ensures c.rest_bytes-2.ensures c.in_ok-add_region-2.ensures)
    c.requires in
    let all : IsBodyPatch old new c.shrink_to_fit.new.self = subst (IsBodyPatch old new) (sym {A = List PatchPiece} c.shrink_to_fit.ensures) made in
    record { leads = all.leads; room = all.room; held = all.held }
