use Rattle.std.proofs.Common.{◌≡◌, IsTrue, length, ap, subst, ◌∙◌}
use Rattle.std.specs.Prelude.{IfSome}
use Rattle.geos_model.specs.Document.{is_live, attributes_of, block_at, is_heap}
use Rattle.geos_model.specs.Image.{image}
use Rattle.file_format.specs.File.{bytes_in}
use Rattle.document_file.specs.Calls.{IsImageLength}
use Rattle.document_file.proofs.FrontLemmas.{entry_size}
use Rattle.document_file.proofs.PlaceImageLemmas.{entry_image, image_lengths}
use Rattle.document_file.proofs.TableLemmas.{entry_live, entry_attributes, entry_kind, entry_handle, entry_place}
use Rattle.document_file.proofs.file.VmFile.entry.Goals as goal

pub returns-clause-live : goal.returns-clause-live
returns-clause-live g c =
    let live = c.self.inside.live in
    let h = c.args.block.0 in
    entry_live (g.S.Store.facts c.self.inside.store).content live.places.items live.map_block h c.place_in.result c.place_in.ensures ∙ ap (λ s. is_live s.document h) c.self.view_is

pub returns-clause-attributes : goal.returns-clause-attributes
returns-clause-attributes g c =
    let live = c.self.inside.live in
    let h = c.args.block.0 in
    subst (λ s. IfSome c.place_in.result (λ place. place.attributes ≡ attributes_of s.document h)) c.self.view_is
    (entry_attributes (g.S.Store.facts c.self.inside.store).content live.places.items live.map_block h c.place_in.result c.place_in.ensures)

pub returns-clause-kind : goal.returns-clause-kind
returns-clause-kind g c =
    let live = c.self.inside.live in
    let h = c.args.block.0 in
    let facts = g.S.Store.facts c.self.inside.store in
    subst (λ s. IfSome c.place_in.result (λ place. place.is_heap ≡ is_heap s.document h)) c.self.view_is
    (entry_kind facts.content live.places.items live.map_block h c.place_in.result c.place_in.ensures)

pub returns-clause-handle : goal.returns-clause-handle
returns-clause-handle g c =
    let live = c.self.inside.live in
    let h = c.args.block.0 in
    entry_handle live.places.items h c.place_in.result c.self.invariant.sound.formed.table.size c.place_in.ensures

pub returns-clause-length : goal.returns-clause-length
returns-clause-length g c =
    let live = c.self.inside.live in
    let h = c.args.block.0 in
    entry_place (λ p. IsImageLength p.extent.length) live.places.items h c.place_in.result (image_lengths live.places.items c.self.invariant.sound.formed.placed c.self.invariant.sound.formed.table.places) c.place_in.ensures

pub returns-clause-image : goal.returns-clause-image
returns-clause-image g c =
    let live = c.self.inside.live in
    let h = c.args.block.0 in
    let facts = g.S.Store.facts c.self.inside.store in
    subst (λ s. IfSome c.place_in.result (λ place. IsTrue (g.S.Store.facts s.disk.store).honest → bytes_in (g.S.Store.facts s.disk.store).content place.extent ≡ image (block_at s.document h).body)) c.self.view_is
    (entry_image (IsTrue facts.honest) facts.content live.places.items live.map_block h c.place_in.result (λ yes. (c.self.invariant.sound.whole yes).images) c.place_in.ensures)

pub returns-clause-size : goal.returns-clause-size
returns-clause-size g c =
    let live = c.self.inside.live in
    let h = c.args.block.0 in
    let facts = g.S.Store.facts c.self.inside.store in
    subst (λ s. IfSome c.place_in.result (λ place. IsTrue (g.S.Store.facts s.disk.store).honest → length (image (block_at s.document h).body) ≡ place.extent.length)) c.self.view_is
    (entry_size (IsTrue facts.honest) facts.content live.places.items live.map_block h c.place_in.result (λ yes. (c.self.invariant.sound.whole yes).images) (λ yes. (c.self.invariant.sound.whole yes).within) c.place_in.ensures)
