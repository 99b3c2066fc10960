use Rattle.std.proofs.Common.{◌≡◌, ℕ, List, map, take, ap, sym, subst, ◌∙◌}
use Rattle.std.specs.FinMap.{keys}
use Rattle.document_file.specs.Listing.{IsListed}
use Rattle.document_file.specs.declared.table.Place.{Place}
use Rattle.document_file.proofs.ListingLemmas.{handles_from, entries_past, keys_shown}
use Rattle.document_file.proofs.file.VmFile.list_into.Goals as goal

pub returns : goal.returns
returns g c =
    let i = c.self.inside in
    let places = i.live.places.items in
    let listed : handles_from 1 (take i.bounds.end c.deref.result.now) ≡ keys c.args.self.now.document.blocks =
    ap (λ ps. handles_from 1 (take i.bounds.end ps)) c.deref.ensures.value
    ∙ ap (map (λ (e : ℕ × Place). e.0)) (entries_past i.bounds.end 1 places c.self.invariant.bounded.past)
    ∙ sym (keys_shown (g.S.Store.facts i.store).content places i.live.map_block)
    ∙ ap (λ s. keys s.document.blocks) c.self.view_is in
    subst (λ (live : List ℕ). IsListed live c.args.handles.now c.list_live.new.handles c.list_live.result) listed c.list_live.ensures
