use Rattle.std.proofs.Common.{◌≡◌, ◌≢◌, ◌≤◌, ◌++◌, All, IsTrue, length, refl, sym, ap, ap₂, subst, ◌∙◌, arith}
use Rattle.std.specs.Prelude.{MatchResult}
use Rattle.std.specs.Vec.{with_items}
use Rattle.std.proofs.lemmas.Result.{err_from_is_err_and}
use Rattle.document_file.specs.Calls.{put_all, remove_all}
use Rattle.document_file.specs.Disk.{FileState}
use Rattle.document_file.specs.Effects.{LeavesDocument}
use Rattle.document_file.specs.Documents.{document_in}
use Rattle.document_file.specs.Slots.{block_extents, marked_extents, referenced_extents}
use Rattle.document_file.specs.Sound.{disk_of}
use Rattle.document_file.specs.Writing.{SparesExtents, with_places, without_places}
use Rattle.document_file.specs.declared.table.BlockTable.{BlockTable}
use Rattle.document_file.specs.FreeSpace.{IsSpaceOf}
use Rattle.document_file.specs.Listing.{AreBounds}
use Rattle.document_file.proofs.ListingLemmas.{bounds_changed}
use Rattle.document_file.proofs.TableChangeLemmas.{shown_without_all, grown_extents, grown_bounds, grown_sound, roomy_sound, grown_view}
use Rattle.document_file.proofs.TableLemmas.{shown}
use Rattle.document_file.proofs.PutBlocksLemmas.{few_extents, few_long, changed_places, spared_passes, spared_drifts, spared_sound, put_drifts, put_sound}
use Rattle.document_file.proofs.PassingLemmas.{SameUnlessCorrupt-refl, KeepsCommitted-refl}
use Rattle.geos_model.specs.Document.{most_blocks}
use Rattle.document_file.specs.Ranges.{IsPlaced}
use Rattle.file_space.specs.Placing.{AreFewLong}
use Rattle.document_file.proofs.file.VmFile.put_blocks.Goals as goal

pub write_puts-requires-clause-live : goal.write_puts-requires-clause-live
write_puts-requires-clause-live g c =
    let i = c.self.inside in
    let extents = grown_extents i.live.places.items c.make_room.new.places.items c.make_room.ensures.grown in
    subst (λ ps. All IsPlaced (block_extents ps)) (sym c.deref.ensures.value) (subst (All IsPlaced) (sym extents) c.self.invariant.sound.formed.placed)

pub write_puts-requires-clause-few : goal.write_puts-requires-clause-few
write_puts-requires-clause-few g c =
    let i = c.self.inside in
    let few = few_extents i.live i.slots c.self.invariant.sound.formed in
    let same = ap (λ ps. length (block_extents ps ++ referenced_extents i.slots)) c.deref.ensures.value
    ∙ ap (λ es. length (es ++ referenced_extents i.slots)) (grown_extents i.live.places.items c.make_room.new.places.items c.make_room.ensures.grown) in
    let puts = c.requires.few in
    omega (arith, few, same, puts)

pub write_puts-requires-clause-few_long : goal.write_puts-requires-clause-few_long
write_puts-requires-clause-few_long g c =
    let i = c.self.inside in
    let extents = grown_extents i.live.places.items c.make_room.new.places.items c.make_room.ensures.grown in
    subst (λ ps. AreFewLong (block_extents ps ++ referenced_extents i.slots)) (sym c.deref.ensures.value)
    (subst (λ es. AreFewLong (es ++ referenced_extents i.slots)) (sym extents) (few_long i.live i.slots c.self.invariant.sound.formed))

pub write_puts-requires-clause-known : goal.write_puts-requires-clause-known
write_puts-requires-clause-known g c =
    let i = c.self.inside in
    let extents = grown_extents i.live.places.items c.make_room.new.places.items c.make_room.ensures.grown in
    subst (λ ps. IsSpaceOf (block_extents ps ++ referenced_extents i.slots) c.take.result) (sym c.deref.ensures.value)
    (subst (λ es. IsSpaceOf (es ++ referenced_extents i.slots) c.take.result) (sym extents) (subst (λ space. IsSpaceOf (block_extents i.live.places.items ++ referenced_extents i.slots) space) (sym c.take.ensures.value) c.self.invariant.known))

pub change_places-requires-clause-room : goal.change_places-requires-clause-room
change_places-requires-clause-room g c = λ k p inside.
    let reached = c.widened-bounds.ensures.reached k p inside in
    let long = c.in_ok-make_room.ensures.size in
    let same = ap length c.deref_mut.ensures.value in
    omega (arith, reached, long, same)

pub change_places-requires-clause-known : goal.change_places-requires-clause-known
change_places-requires-clause-known g c =
    let kept = referenced_extents c.self.inside.slots in
    let es = c.in_ok-written.written.extents.items in
    let space = c.in_ok-written.written.space in
    subst (λ xs. IsSpaceOf (xs ++ (block_extents c.deref_mut.result.now ++ kept)) space) (sym c.deref-2.ensures.value)
    (subst (λ ps. IsSpaceOf (es ++ (block_extents ps ++ kept)) space) (c.deref.ensures.value ∙ sym c.deref_mut.ensures.value) c.in_ok-written.ensures.known)

pub invariant_of-self : goal.invariant_of-self
invariant_of-self g c =
    let i = c.self.inside in
    let grown = c.make_room.ensures.grown in
    let live : BlockTable = record { map_block = i.live.map_block; places = c.make_room.new.places } in
    let few : length live.places.items ≤ most_blocks = (let same = ap length c.in_err-make_room.ensures.err in let was = c.self.invariant.sound.formed.table.size in omega (arith, same, was)) in
    record {
      sound = grown_sound (g.S.Store.facts i.store) i.live live i.slots grown few refl c.self.invariant.sound;
      bounded = grown_bounds i.live.places.items live.places.items grown i.bounds c.self.invariant.bounded;
      known = subst (λ es. IsSpaceOf (es ++ referenced_extents i.slots) i.space) (sym (grown_extents i.live.places.items live.places.items grown)) c.self.invariant.known;
    }

pub returns-in_err-make_room-clause-keeps : goal.returns-in_err-make_room-clause-keeps
returns-in_err-make_room-clause-keeps g c =
    let p = err_from_is_err_and c.from_residual.result c.from_residual.ensures.1 in
    let facts = g.S.Store.facts in let i = c.self.inside in
    let f = c.args.self.now in
    let live : BlockTable = record { map_block = i.live.map_block; places = c.make_room.new.places } in
    let view = grown_view facts i.store i.live live i.slots f c.make_room.ensures.grown refl c.self.view_is in
    let kept : LeavesDocument facts f.document f f = record { passes = KeepsCommitted-refl facts f.disk; document = SameUnlessCorrupt-refl (facts f.disk.store).honest f.document } in
    subst (λ r. MatchResult r (λ _. LeavesDocument facts (remove_all c.args.removals.now (put_all c.args.puts.now f.document)) f (record { disk = disk_of facts i.store i.slots; document = document_in (facts i.store).content live })) (λ _. LeavesDocument facts f.document f (record { disk = disk_of facts i.store i.slots; document = document_in (facts i.store).content live }))) (sym p.1)
    (subst (λ (s : FileState g.row.S.Denot). LeavesDocument facts f.document f s) (sym view) kept)

pub invariant_of-self-in_err-written : goal.invariant_of-self-in_err-written
invariant_of-self-in_err-written g c =
    let i = c.self.inside in
    let grown = c.make_room.ensures.grown in
    let live : BlockTable = record { map_block = i.live.map_block; places = c.make_room.new.places } in
    let sound = roomy_sound (g.S.Store.facts i.store) i.live live i.slots c.widened-bounds.result.end grown c.in_ok-make_room.ensures.size c.widened-bounds.ensures.within refl c.self.invariant.sound in
    let b = c.write_puts.new.store in
    record {
      sound = spared_sound g.S.Store.facts i.store b live i.slots sound c.write_puts.ensures.honest (λ so. (g.met.S.Store.timely b so).now)
          (λ so. subst (λ ps. SparesExtents (block_extents ps ++ marked_extents i.slots.marked) i.slots (g.S.Store.facts i.store) (g.S.Store.facts b)) c.deref.ensures.value (c.write_puts.ensures.spared so));
      bounded = grown_bounds i.live.places.items live.places.items grown i.bounds c.self.invariant.bounded;
      known = subst (λ space. IsSpaceOf (block_extents live.places.items ++ referenced_extents i.slots) space) (sym c.take.ensures.after) tt;
    }

pub returns-in_err-written-clause-keeps : goal.returns-in_err-written-clause-keeps
returns-in_err-written-clause-keeps g c =
    let p = err_from_is_err_and c.from_residual-in_err-written.result c.from_residual-in_err-written.ensures.1 in
    let facts = g.S.Store.facts in let i = c.self.inside in
    let grown = c.make_room.ensures.grown in
    let live : BlockTable = record { map_block = i.live.map_block; places = c.make_room.new.places } in
    let sound = roomy_sound (g.S.Store.facts i.store) i.live live i.slots c.widened-bounds.result.end grown c.in_ok-make_room.ensures.size c.widened-bounds.ensures.within refl c.self.invariant.sound in
    let view = grown_view g.S.Store.facts i.store i.live live i.slots c.args.self.now grown refl c.self.view_is in
    let b = c.write_puts.new.store in
    let timely : IsTrue (facts b).honest → (facts b).may_leave (facts b).content = λ so. (g.met.S.Store.timely b so).now in
    let spared : IsTrue (facts i.store).honest → SparesExtents (block_extents live.places.items ++ marked_extents i.slots.marked) i.slots (facts i.store) (facts b) = λ so. subst (λ ps. SparesExtents (block_extents ps ++ marked_extents i.slots.marked) i.slots (facts i.store) (facts b)) c.deref.ensures.value (c.write_puts.ensures.spared so) in
    let new : FileState g.row.S.Denot = record { disk = disk_of facts b i.slots; document = document_in (facts b).content live } in
    let kept : LeavesDocument facts (document_in (facts i.store).content live) (record { disk = disk_of facts i.store i.slots; document = document_in (facts i.store).content live }) new = record {
      passes = spared_passes facts i.store b live i.slots sound c.write_puts.ensures.honest timely spared c.write_puts.ensures.failures;
      document = spared_drifts facts i.store b live i.slots sound c.write_puts.ensures.honest timely spared;
    } in
    subst (λ r. MatchResult r (λ _. LeavesDocument facts (remove_all c.args.removals.now (put_all c.args.puts.now c.args.self.now.document)) c.args.self.now new) (λ _. LeavesDocument facts c.args.self.now.document c.args.self.now new)) (sym p.1)
    (subst (λ (s : FileState g.row.S.Denot). LeavesDocument facts s.document s new) view kept)

pub returns-in_err-written-clause-early : goal.returns-in_err-written-clause-early
returns-in_err-written-clause-early g c =
    let p = err_from_is_err_and c.from_residual-in_err-written.result c.from_residual-in_err-written.ensures.1 in
    let i = c.self.inside in
    let facts = g.S.Store.facts in
    let grown = c.make_room.ensures.grown in
    let live : BlockTable = record { map_block = i.live.map_block; places = c.make_room.new.places } in
    let view = grown_view g.S.Store.facts i.store i.live live i.slots c.args.self.now grown refl c.self.view_is in
    rw (p.1) (λ other.
    let same = c.in_err-written.ensures.early (λ is. other (p.2 ∙ is)) in
    (λ j. record { disk = disk_of facts (same j) i.slots; document = document_in (facts (same j)).content live }) ∙ view)

pub invariant_of-self-2 : goal.invariant_of-self-2
invariant_of-self-2 g c =
    let i = c.self.inside in
    let grown = c.make_room.ensures.grown in
    let live : BlockTable = record { map_block = i.live.map_block; places = c.make_room.new.places } in
    let sound = roomy_sound (g.S.Store.facts i.store) i.live live i.slots c.widened-bounds.result.end grown c.in_ok-make_room.ensures.size c.widened-bounds.ensures.within refl c.self.invariant.sound in
    let view = grown_view g.S.Store.facts i.store i.live live i.slots c.args.self.now grown refl c.self.view_is in
    let room : All (λ p. p.handle.0 ≤ length live.places.items) c.args.puts.now = λ k p inside. (let reached = c.widened-bounds.ensures.reached k p inside in let size = c.in_ok-make_room.ensures.size in omega (arith, reached, size)) in
    let b = c.write_puts.new.store in
    let es = c.in_ok-written.written.extents.items in
    let is = c.change_places.ensures.places ∙ ap₂ (λ xs ps. without_places c.args.removals.now (with_places i.slots.next_version c.args.puts.now xs ps)) c.deref-2.ensures.value c.deref_mut.ensures.value in
    let new : BlockTable = record { map_block = live.map_block; places = with_items live.places c.change_places.new.places } in
    let changed : new.places.items ≡ without_places c.args.removals.now (with_places i.slots.next_version c.args.puts.now es live.places.items) =
    changed_places i.slots.next_version live.places.len live.places.items c.change_places.new.places c.args.puts.now es c.args.removals.now live.places.ok.0 is in
    record {
      sound = put_sound g.S.Store.facts i.store b live i.slots sound c.write_puts.ensures.honest (λ so. (g.met.S.Store.timely b so).now)
          (λ so. subst (λ ps. SparesExtents (block_extents ps ++ marked_extents i.slots.marked) i.slots (g.S.Store.facts i.store) (g.S.Store.facts b)) c.deref.ensures.value (c.write_puts.ensures.spared so))
          c.args.puts.now es c.args.removals.now new c.requires.puts _ c.in_ok-written.ensures.found c.in_ok-written.ensures.written refl room changed
          (subst (λ s. All (λ h. h.0 ≢ s.document.map_block) c.args.removals.now) (sym view) c.requires.removals);
      bounded = subst (λ ps. AreBounds ps c.tightened-self-inside.result) c.deref-3.ensures.value c.tightened-self-inside.ensures;
      known = subst (λ ps. IsSpaceOf (block_extents ps ++ referenced_extents i.slots) c.change_places.new.space) (is ∙ sym changed) c.change_places.ensures.known;
    }

pub returns-clause-keeps : goal.returns-clause-keeps
returns-clause-keeps g c =
    let facts = g.S.Store.facts in let i = c.self.inside in
    let grown = c.make_room.ensures.grown in
    let live : BlockTable = record { map_block = i.live.map_block; places = c.make_room.new.places } in
    let sound = roomy_sound (g.S.Store.facts i.store) i.live live i.slots c.widened-bounds.result.end grown c.in_ok-make_room.ensures.size c.widened-bounds.ensures.within refl c.self.invariant.sound in
    let view = grown_view g.S.Store.facts i.store i.live live i.slots c.args.self.now grown refl c.self.view_is in
    let room : All (λ p. p.handle.0 ≤ length live.places.items) c.args.puts.now = λ k p inside. (let reached = c.widened-bounds.ensures.reached k p inside in let size = c.in_ok-make_room.ensures.size in omega (arith, reached, size)) in
    let b = c.write_puts.new.store in
    let es = c.in_ok-written.written.extents.items in
    let is = c.change_places.ensures.places ∙ ap₂ (λ xs ps. without_places c.args.removals.now (with_places i.slots.next_version c.args.puts.now xs ps)) c.deref-2.ensures.value c.deref_mut.ensures.value in
    let new : BlockTable = record { map_block = live.map_block; places = with_items live.places c.change_places.new.places } in
    let changed : new.places.items ≡ without_places c.args.removals.now (with_places i.slots.next_version c.args.puts.now es live.places.items) =
    changed_places i.slots.next_version live.places.len live.places.items c.change_places.new.places c.args.puts.now es c.args.removals.now live.places.ok.0 is in
    let timely : IsTrue (facts b).honest → (facts b).may_leave (facts b).content = λ so. (g.met.S.Store.timely b so).now in
    let spared : IsTrue (facts i.store).honest → SparesExtents (block_extents live.places.items ++ marked_extents i.slots.marked) i.slots (facts i.store) (facts b) = λ so. subst (λ ps. SparesExtents (block_extents ps ++ marked_extents i.slots.marked) i.slots (facts i.store) (facts b)) c.deref.ensures.value (c.write_puts.ensures.spared so) in
    subst (λ (s : FileState g.row.S.Denot). LeavesDocument facts (remove_all c.args.removals.now (put_all c.args.puts.now s.document)) s (record { disk = disk_of facts b i.slots; document = document_in (facts b).content new })) view (record {
      passes = spared_passes facts i.store b live i.slots sound c.write_puts.ensures.honest timely spared c.write_puts.ensures.failures;
      document = put_drifts facts i.store b live i.slots sound c.write_puts.ensures.honest timely spared
          c.args.puts.now es c.args.removals.now new c.requires.puts _ c.in_ok-written.ensures.found c.in_ok-written.ensures.written refl room changed;
    })

pub returns-clause-removals_alone : goal.returns-clause-removals_alone
returns-clause-removals_alone g c none =
    let i = c.self.inside in
    let grown = c.make_room.ensures.grown in
    let live : BlockTable = record { map_block = i.live.map_block; places = c.make_room.new.places } in
    let view = grown_view g.S.Store.facts i.store i.live live i.slots c.args.self.now grown refl c.self.view_is in
    let b = c.write_puts.new.store in
    let es = c.in_ok-written.written.extents.items in
    let is = c.change_places.ensures.places ∙ ap₂ (λ xs ps. without_places c.args.removals.now (with_places i.slots.next_version c.args.puts.now xs ps)) c.deref-2.ensures.value c.deref_mut.ensures.value in
    let new : BlockTable = record { map_block = live.map_block; places = with_items live.places c.change_places.new.places } in
    let changed : new.places.items ≡ without_places c.args.removals.now (with_places i.slots.next_version c.args.puts.now es live.places.items) =
    changed_places i.slots.next_version live.places.len live.places.items c.change_places.new.places c.args.puts.now es c.args.removals.now live.places.ok.0 is in
    let facts = g.S.Store.facts in
    let m = live.map_block in
    let same = (c.write_puts.ensures.nothing none).1 in
    let disk = ap (λ t. disk_of facts t i.slots) same ∙ ap (λ s. s.disk) view in
    let document =
    ap (λ t. shown (facts t).content new.places.items m) same ∙ ap (λ ps. shown (facts i.store).content ps m) changed
    ∙ ap (λ ps. shown (facts i.store).content (without_places c.args.removals.now (with_places i.slots.next_version ps es live.places.items)) m) none
    ∙ shown_without_all (facts i.store).content c.args.removals.now live.places.items m ∙ ap (λ s. remove_all c.args.removals.now s.document) view in
    (refl, λ j. record { disk = disk j; document = document j })

pub tightened-self-inside-requires : goal.tightened-self-inside-requires
tightened-self-inside-requires g c =
    let i = c.self.inside in
    let grown = c.make_room.ensures.grown in
    let live : BlockTable = record { map_block = i.live.map_block; places = c.make_room.new.places } in
    let puts = c.args.puts.now in
    let removals = c.args.removals.now in
    let es = c.in_ok-written.written.extents.items in
    let is = c.change_places.ensures.places ∙ ap₂ (λ xs ps. without_places removals (with_places i.slots.next_version puts xs ps)) c.deref-2.ensures.value c.deref_mut.ensures.value in
    let changed = changed_places i.slots.next_version live.places.len live.places.items c.change_places.new.places puts es removals live.places.ok.0 is in
    subst (λ ps. AreBounds ps c.widened-bounds.result) (sym (c.deref-3.ensures.value ∙ changed))
    (bounds_changed i.slots.next_version puts es removals live.places.items i.bounds c.widened-bounds.result (let size = c.in_ok-make_room.ensures.size in omega (arith, size)) c.requires.puts (grown_bounds i.live.places.items live.places.items grown i.bounds c.self.invariant.bounded) c.widened-bounds.ensures)
