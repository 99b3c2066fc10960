use Rattle.std.proofs.Common.{◌≡◌, ◌-◌, ◌++◌, List, true, Some, is_some, length, set, refl, sym, ap, subst, ◌∙◌, length-set}
use Rattle.geos_model.specs.Document.{is_live, is_heap, with_attributes, IsTyped}
use Rattle.geos_model.proofs.Tables.{slot_at}
use Rattle.file_format.specs.declared.file.Extent.{Extent}
use Rattle.document_file.specs.FreeSpace.{IsSpaceOf}
use Rattle.document_file.specs.Listing.{AreBounds}
use Rattle.document_file.specs.Slots.{block_extents, referenced_extents}
use Rattle.document_file.proofs.ListingLemmas.{bounds_set}
use Rattle.document_file.proofs.SoundLemmas.{sound_attributes}
use Rattle.document_file.proofs.FreeSpaceLemmas.{same_extents}
use Rattle.document_file.proofs.TableLemmas.{lies, shown, shown_attributes, heap_at, items_kept}
use Rattle.document_file.proofs.file.VmFile.set_attributes.Goals as goal

pub invariant_of-self : goal.invariant_of-self
invariant_of-self g c =
    let live = c.self.inside.live in
    let h = c.args.block.0 in
    let file = (g.S.Store.facts c.self.inside.store).content in
    let l = lies file live.places.items live.map_block h (subst (λ s. is_live s.document h ≡ true) (sym c.self.view_is) c.requires.live) in
    let is = c.set_attributes.ensures l.place l.low (ap (λ ps. slot_at ps (h - 1)) c.deref_mut.ensures.value ∙ l.at) ∙ ap (λ ps. set ps (h - 1) (Some (record l.place { attributes = c.args.attributes }))) c.deref_mut.ensures.value in
    let long = ap length is ∙ length-set live.places.items (h - 1) (Some (record l.place { attributes = c.args.attributes })) in
    let kept = items_kept live.places.len c.set_attributes.new.places live.places.items live.places.ok.0 long ∙ is in
    let typed : IsTyped l.place.is_heap c.args.attributes = λ raw. c.requires.typed (ap (λ s. is_heap s.document h) (sym c.self.view_is) ∙ heap_at file live.places.items live.map_block h l.place l.low l.at ∙ raw) in
    record {
      sound = sound_attributes (g.S.Store.facts c.self.inside.store) live _ c.self.inside.slots h c.args.attributes l.place c.self.invariant.sound l.at typed refl kept;
      bounded = subst (λ ps. AreBounds ps c.self.inside.bounds) (sym kept) (bounds_set live.places.items (h - 1) (record l.place { attributes = c.args.attributes }) c.self.inside.bounds (ap is_some l.at) c.self.invariant.bounded);
      known = subst (λ (es : List Extent). IsSpaceOf (es ++ referenced_extents c.self.inside.slots) c.self.inside.space) (sym (ap block_extents kept ∙ same_extents live.places.items (h - 1) l.place (record l.place { attributes = c.args.attributes }) l.at refl)) c.self.invariant.known;
    }

pub returns : goal.returns
returns g c =
    let live = c.self.inside.live in
    let h = c.args.block.0 in
    let file = (g.S.Store.facts c.self.inside.store).content in
    let l = lies file live.places.items live.map_block h (subst (λ s. is_live s.document h ≡ true) (sym c.self.view_is) c.requires.live) in
    let is = c.set_attributes.ensures l.place l.low (ap (λ ps. slot_at ps (h - 1)) c.deref_mut.ensures.value ∙ l.at) ∙ ap (λ ps. set ps (h - 1) (Some (record l.place { attributes = c.args.attributes }))) c.deref_mut.ensures.value in
    let long = ap length is ∙ length-set live.places.items (h - 1) (Some (record l.place { attributes = c.args.attributes })) in
    let kept = items_kept live.places.len c.set_attributes.new.places live.places.items live.places.ok.0 long ∙ is in
    let made = ap (λ ps. shown file ps live.map_block) kept ∙ shown_attributes file live.places.items live.map_block h c.args.attributes l.place l.low l.at ∙ ap (λ s. with_attributes s.document h c.args.attributes) c.self.view_is in
    λ i. record { disk = (c.self.view_is i).disk; document = made i }
