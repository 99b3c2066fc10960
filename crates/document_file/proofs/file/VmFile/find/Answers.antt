use Rattle.std.proofs.Common.{ℕ, List, find, take, nat_lt, ◌==◌, ◌&&◌, ap, sym, ◌∙◌}
use Rattle.std.specs.Option.{option_map}
use Rattle.geos_model.specs.Reply.{found}
use Rattle.document_file.specs.Listing.{found_in}
use Rattle.document_file.specs.declared.table.Place.{Place}
use Rattle.document_file.proofs.ListingLemmas.{entries_past, found_shown}
use Rattle.document_file.proofs.file.VmFile.find.Goals as goal

pub returns : goal.returns
returns g c =
    let i = c.self.inside in
    let places = i.live.places.items in
    let uid = c.args.user_id in
    let start = c.args.start.0 in
    c.find_from.ensures
    ∙ ap (λ ps. found_in (take i.bounds.end ps) uid start) c.deref.ensures.value
    ∙ ap (λ (es : List (ℕ × Place)). option_map (λ e. e.0) (find (λ e. nat_lt start e.0 && (e.1.attributes.user_id == uid)) es)) (entries_past i.bounds.end 1 places c.self.invariant.bounded.past)
    ∙ sym (found_shown (g.S.Store.facts i.store).content places i.live.map_block uid start)
    ∙ ap (λ s. found s.document uid start) c.self.view_is
