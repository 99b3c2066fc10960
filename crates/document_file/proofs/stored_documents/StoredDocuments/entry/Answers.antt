use Rattle.std.proofs.Common.{◌≡◌, ap, subst, ◌∙◌}
use Rattle.std.specs.Prelude.{IfSome}
use Rattle.geos_model.specs.Document.{is_live, attributes_of}
use Rattle.document_file.specs.Listing.{IsPlaceOf}
use Rattle.document_file.specs.declared.table.BlockTable.{BlockTable}
use Rattle.document_file.proofs.TableLemmas.{entry_live, entry_attributes}
use Rattle.document_file.proofs.stored_documents.StoredDocuments.entry.Goals as goal

pub returns-clause-live : goal.returns-clause-live
returns-clause-live g c =
    let table = c.self.inside.pair.updated.table.value in
    let h = c.args.block.0 in
    entry_live (g.S.Store.facts c.self.inside.store).content table.places.items table.map_block h c.place_in.result (subst (λ (t : BlockTable). IsPlaceOf t.places.items h c.place_in.result) c.deref.ensures c.place_in.ensures)
    ∙ ap (λ s. is_live s.updated h) c.self.view_is

pub returns-clause-attributes : goal.returns-clause-attributes
returns-clause-attributes g c =
    let table = c.self.inside.pair.updated.table.value in
    let h = c.args.block.0 in
    subst (λ s. IfSome c.place_in.result (λ place. place.attributes ≡ attributes_of s.updated h)) c.self.view_is
    (entry_attributes (g.S.Store.facts c.self.inside.store).content table.places.items table.map_block h c.place_in.result (subst (λ (t : BlockTable). IsPlaceOf t.places.items h c.place_in.result) c.deref.ensures c.place_in.ensures))
