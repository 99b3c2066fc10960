use Rattle.std.proofs.Common.{◌≡◌, ap, subst, ◌∙◌}
use Rattle.std.specs.Prelude.{IfSome}
use Rattle.geos_model.specs.Document.{is_live, attributes_of}
use Rattle.document_file.specs.Listing.{IsPlaceOf}
use Rattle.document_file.specs.declared.table.BlockTable.{BlockTable}
use Rattle.document_file.proofs.TableLemmas.{entry_live, entry_attributes, entry_handle}
use Rattle.document_file.proofs.file.VmFile.saved_entry.Goals as goal

pub returns-clause-live : goal.returns-clause-live
returns-clause-live g c =
    let saved = c.self.inside.slots.committed.saved.table.value in
    let h = c.args.block.0 in
    entry_live (g.S.Store.facts c.self.inside.store).content saved.places.items saved.map_block h c.place_in.result (subst (λ (t : BlockTable). IsPlaceOf t.places.items h c.place_in.result) c.deref.ensures c.place_in.ensures)
    ∙ ap (λ s. is_live s.disk.saved h) c.self.view_is

pub returns-clause-attributes : goal.returns-clause-attributes
returns-clause-attributes g c =
    let saved = c.self.inside.slots.committed.saved.table.value in
    let h = c.args.block.0 in
    subst (λ s. IfSome c.place_in.result (λ place. place.attributes ≡ attributes_of s.disk.saved h)) c.self.view_is
    (entry_attributes (g.S.Store.facts c.self.inside.store).content saved.places.items saved.map_block h c.place_in.result (subst (λ (t : BlockTable). IsPlaceOf t.places.items h c.place_in.result) c.deref.ensures c.place_in.ensures))

pub returns-clause-handle : goal.returns-clause-handle
returns-clause-handle g c =
    let saved = c.self.inside.slots.committed.saved.table.value in
    let h = c.args.block.0 in
    entry_handle saved.places.items h c.place_in.result c.self.invariant.sound.formed.committed.saved.size (subst (λ (t : BlockTable). IsPlaceOf t.places.items h c.place_in.result) c.deref.ensures c.place_in.ensures)
