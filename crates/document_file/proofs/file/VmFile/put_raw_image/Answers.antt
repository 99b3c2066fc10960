use Rattle.std.proofs.Common.{◌≡◌, ◌-◌, ◌++◌, IsTrue, Some, drop, length, set, refl, sym, ap, subst, ◌∙◌, arith, length-set}
use Rattle.std.specs.Prelude.{MatchResult}
use Rattle.std.specs.Vec.{with_items}
use Rattle.std.proofs.lemmas.Result.{err_from_is_err_and}
use Rattle.geos_model.specs.Document.{is_live, is_heap, with_body}
use Rattle.geos_model.specs.declared.command.Body.TheVariants.{Raw}
use Rattle.document_file.specs.Disk.{FileState}
use Rattle.document_file.specs.Documents.{document_in}
use Rattle.document_file.specs.Effects.{LeavesDocument}
use Rattle.document_file.specs.FreeSpace.{IsSpaceOf}
use Rattle.document_file.specs.Listing.{IsPlaceOf}
use Rattle.document_file.specs.Slots.{block_extents, marked_extents, referenced_extents}
use Rattle.document_file.specs.Sound.{disk_of}
use Rattle.document_file.specs.Writing.{SparesExtents}
use Rattle.document_file.specs.declared.table.BlockTable.{BlockTable}
use Rattle.document_file.specs.declared.table.Place.{Place}
use Rattle.file_space.specs.Placing.{AreFewLong}
use Rattle.document_file.proofs.PutBlocksLemmas.{few_extents, few_long, spared_passes, spared_drifts, spared_sound}
use Rattle.document_file.proofs.PutRawLemmas.{raw_length, rewritten, bounds_rewritten, raw_sound, raw_drifts}
use Rattle.document_file.proofs.TableLemmas.{entry_live, items_kept}
use Rattle.document_file.proofs.file.VmFile.put_raw_image.Goals as goal

pub unwrap-place-requires : goal.unwrap-place-requires
unwrap-place-requires g c =
    let i = c.self.inside in
    entry_live (g.S.Store.facts i.store).content i.live.places.items i.live.map_block c.args.block.0 c.place_in.result c.place_in.ensures
    ∙ ap (λ s. is_live s.document c.args.block.0) c.self.view_is ∙ c.requires.live

pub write_image-requires-clause-few : goal.write_image-requires-clause-few
write_image-requires-clause-few g c =
    let i = c.self.inside in
    let few = few_extents i.live i.slots c.self.invariant.sound.formed in
    let same = ap (λ ps. length (block_extents ps ++ referenced_extents i.slots)) c.deref.ensures.value in
    omega (arith, few, same)

pub write_image-requires-clause-few_long : goal.write_image-requires-clause-few_long
write_image-requires-clause-few_long g c =
    let i = c.self.inside in
    subst (λ ps. AreFewLong (block_extents ps ++ referenced_extents i.slots)) (sym c.deref.ensures.value) (few_long i.live i.slots c.self.invariant.sound.formed)

pub write_image-requires-clause-size : goal.write_image-requires-clause-size
write_image-requires-clause-size g c = raw_length c.args.image.now c.requires.image

pub invariant_of-self : goal.invariant_of-self
invariant_of-self g c =
    let i = c.self.inside in
    let b = c.write_image.new.store in
    let facts = g.S.Store.facts in
    record {
      sound = spared_sound facts i.store b i.live i.slots c.self.invariant.sound c.write_image.ensures.honest (λ so. (g.met.S.Store.timely b so).now)
          (λ so. subst (λ ps. SparesExtents (block_extents ps ++ marked_extents i.slots.marked) i.slots (facts i.store) (facts b)) c.deref.ensures.value (c.write_image.ensures.spared so));
      bounded = c.self.invariant.bounded;
      known = subst (λ space. IsSpaceOf (block_extents i.live.places.items ++ referenced_extents i.slots) space) (sym c.take.ensures.after) tt;
    }

pub returns-in_err-written-clause-keeps : goal.returns-in_err-written-clause-keeps
returns-in_err-written-clause-keeps g c =
    let p = err_from_is_err_and c.from_residual.result c.from_residual.ensures.1 in
    let facts = g.S.Store.facts in let i = c.self.inside in
    let b = c.write_image.new.store in
    let f = c.args.self.now in
    let timely : IsTrue (facts b).honest → (facts b).may_leave (facts b).content = λ so. (g.met.S.Store.timely b so).now in
    let spared : IsTrue (facts i.store).honest → SparesExtents (block_extents i.live.places.items ++ marked_extents i.slots.marked) i.slots (facts i.store) (facts b) = λ so. subst (λ ps. SparesExtents (block_extents ps ++ marked_extents i.slots.marked) i.slots (facts i.store) (facts b)) c.deref.ensures.value (c.write_image.ensures.spared so) in
    let new : FileState g.row.S.Denot = record { disk = disk_of facts b i.slots; document = document_in (facts b).content i.live } in
    let kept : LeavesDocument facts (document_in (facts i.store).content i.live) (record { disk = disk_of facts i.store i.slots; document = document_in (facts i.store).content i.live }) new = record {
      passes = spared_passes facts i.store b i.live i.slots c.self.invariant.sound c.write_image.ensures.honest timely spared c.write_image.ensures.failures;
      document = spared_drifts facts i.store b i.live i.slots c.self.invariant.sound c.write_image.ensures.honest timely spared;
    } in
    subst (λ r. MatchResult r (λ _. LeavesDocument facts (with_body f.document c.args.block.0 (Raw (drop 1 c.args.image.now))) f new) (λ _. LeavesDocument facts f.document f new)) (sym p.1)
    (subst (λ (s : FileState g.row.S.Denot). LeavesDocument facts s.document s new) c.self.view_is kept)

pub invariant_of-self-2 : goal.invariant_of-self-2
invariant_of-self-2 g c =
    let i = c.self.inside in
    let facts = g.S.Store.facts in
    let places = i.live.places.items in
    let h = c.args.block.0 in
    let bytes = c.args.image.now in
    let b = c.write_image.new.store in
    let place = c.unwrap-place.result in
    let e = c.in_ok-written.written.extent in
    let at : IsPlaceOf places h (Some place) = subst (IsPlaceOf places h) c.unwrap-place.ensures c.place_in.ensures in
    let moved : c.move_block.new.places ≡ set places (h - 1) (Some (rewritten i.slots.next_version place e bytes)) =
    c.move_block.ensures.places ∙ ap (λ ps. set ps (h - 1) (Some c.rewritten-place.result)) c.deref_mut.ensures.value ∙ ap (λ (p : Place). set places (h - 1) (Some p)) c.rewritten-place.ensures.rewritten in
    let kept : (with_items i.live.places c.move_block.new.places).items ≡ c.move_block.new.places =
    items_kept i.live.places.len c.move_block.new.places places i.live.places.ok.0 (ap length moved ∙ length-set places (h - 1) (Some (rewritten i.slots.next_version place e bytes))) in
    let new : BlockTable = record { map_block = i.live.map_block; places = with_items i.live.places c.move_block.new.places } in
    record {
      sound = raw_sound facts i.store b i.live i.slots c.self.invariant.sound c.write_image.ensures.honest (λ so. (g.met.S.Store.timely b so).now)
          (λ so. subst (λ ps. SparesExtents (block_extents ps ++ marked_extents i.slots.marked) i.slots (facts i.store) (facts b)) c.deref.ensures.value (c.write_image.ensures.spared so))
          h bytes c.requires.image place at c.rewritten-place.ensures.attributes
          (ap (λ s. is_heap s.document h) c.self.view_is ∙ c.requires.raw)
          _ e c.in_ok-written.ensures.found c.in_ok-written.ensures.written new refl (kept ∙ moved);
      bounded = bounds_rewritten places new.places.items h place (rewritten i.slots.next_version place e bytes) i.bounds at (kept ∙ moved) c.self.invariant.bounded;
      known = subst (λ ps. IsSpaceOf (block_extents ps ++ referenced_extents i.slots) c.move_block.new.space) (sym kept) c.move_block.ensures.known;
    }

pub returns-clause-keeps : goal.returns-clause-keeps
returns-clause-keeps g c =
    let i = c.self.inside in
    let facts = g.S.Store.facts in
    let places = i.live.places.items in
    let h = c.args.block.0 in
    let bytes = c.args.image.now in
    let b = c.write_image.new.store in
    let place = c.unwrap-place.result in
    let e = c.in_ok-written.written.extent in
    let at : IsPlaceOf places h (Some place) = subst (IsPlaceOf places h) c.unwrap-place.ensures c.place_in.ensures in
    let moved : c.move_block.new.places ≡ set places (h - 1) (Some (rewritten i.slots.next_version place e bytes)) =
    c.move_block.ensures.places ∙ ap (λ ps. set ps (h - 1) (Some c.rewritten-place.result)) c.deref_mut.ensures.value ∙ ap (λ (p : Place). set places (h - 1) (Some p)) c.rewritten-place.ensures.rewritten in
    let kept : (with_items i.live.places c.move_block.new.places).items ≡ c.move_block.new.places =
    items_kept i.live.places.len c.move_block.new.places places i.live.places.ok.0 (ap length moved ∙ length-set places (h - 1) (Some (rewritten i.slots.next_version place e bytes))) in
    let new : BlockTable = record { map_block = i.live.map_block; places = with_items i.live.places c.move_block.new.places } in
    let timely : IsTrue (facts b).honest → (facts b).may_leave (facts b).content = λ so. (g.met.S.Store.timely b so).now in
    let spared : IsTrue (facts i.store).honest → SparesExtents (block_extents places ++ marked_extents i.slots.marked) i.slots (facts i.store) (facts b) = λ so. subst (λ ps. SparesExtents (block_extents ps ++ marked_extents i.slots.marked) i.slots (facts i.store) (facts b)) c.deref.ensures.value (c.write_image.ensures.spared so) in
    subst (λ (s : FileState g.row.S.Denot). LeavesDocument facts (with_body s.document h (Raw (drop 1 bytes))) s (record { disk = disk_of facts b i.slots; document = document_in (facts b).content new })) c.self.view_is (record {
      passes = spared_passes facts i.store b i.live i.slots c.self.invariant.sound c.write_image.ensures.honest timely spared c.write_image.ensures.failures;
      document = raw_drifts facts i.store b i.live i.slots c.self.invariant.sound c.write_image.ensures.honest timely spared h bytes c.requires.image place at c.rewritten-place.ensures.attributes
          (ap (λ s. is_heap s.document h) c.self.view_is ∙ c.requires.raw)
          _ e c.in_ok-written.ensures.found c.in_ok-written.ensures.written new refl (kept ∙ moved);
    })
