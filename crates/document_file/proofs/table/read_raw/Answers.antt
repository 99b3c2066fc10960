use Rattle.std.proofs.Common.{◌≡◌, ◌-◌, is_some, true, sym, ap, subst, ◌∙◌}
use Rattle.std.proofs.lemmas.Result.{IfOk-weaker}
use Rattle.geos_model.specs.Image.{image}
use Rattle.geos_model.specs.declared.command.Body.TheVariants.{Raw}
use Rattle.file_format.specs.File.{has_sum}
use Rattle.document_file.specs.Documents.{document_in}
use Rattle.document_file.specs.Listing.{IsPlaceOf}
use Rattle.document_file.specs.Sums.{HasSumOf}
use Rattle.document_file.proofs.PlaceImageLemmas.{image_lengths, lying_sum, sum_of_handle}
use Rattle.document_file.proofs.RawReadLemmas.{raw_at, raw_kind, read_raw_body}
use Rattle.document_file.proofs.TableLemmas.{entry_live, entry_lies, each_at}
use Rattle.document_file.specs.Calls.{IsImageLength}
use Rattle.document_file.proofs.table.read_raw.Goals as goal

pub unreachable-requires : goal.unreachable-requires
unreachable-requires g c =
    let t = c.args.table.now in
    cc (sym (ap is_some c.in-None.is) ∙ entry_live (g.S.Store.facts c.args.store.now).content t.places.items t.map_block c.args.block.0 c.place_in.result c.place_in.ensures ∙ c.requires.live)

pub read_raw_image-requires : goal.read_raw_image-requires
read_raw_image-requires g c =
    let t = c.args.table.now in let h = c.args.block.0 in let place = c.in-Some.place in
    let at = entry_lies t.places.items h place (subst (λ o. IsPlaceOf t.places.items h o) c.in-Some.is c.place_in.ensures) in
    each_at (λ p. IsImageLength p.extent.length) t.places.items (h - 1) place at.1 (image_lengths t.places.items c.requires.placed c.requires.places)

pub returns-clause-body : goal.returns-clause-body
returns-clause-body g c =
    let t = c.args.table.now in let h = c.args.block.0 in let place = c.in-Some.place in
    let a = g.S.Store.facts c.args.store.now in
    let raw = raw_at (document_in a.content t) h c.requires.raw in
    let at = entry_lies t.places.items h place (subst (λ o. IsPlaceOf t.places.items h o) c.in-Some.is c.place_in.ensures) in
    let long = each_at (λ p. IsImageLength p.extent.length) t.places.items (h - 1) place at.1 (image_lengths t.places.items c.requires.placed c.requires.places) in
    IfOk-weaker c.read_raw_image.result _ _ (λ body is so.
    let first = raw_kind a.content t.places.items t.map_block h place at.0 at.1 (c.requires.images so) raw long.0 in
    read_raw_body a.content body t.places.items t.map_block h place at.0 at.1 (c.requires.images so) raw (is so first)) c.read_raw_image.ensures.image

pub returns-clause-summed : goal.returns-clause-summed
returns-clause-summed g c =
    let t = c.args.table.now in let h = c.args.block.0 in let place = c.in-Some.place in
    let at = entry_lies t.places.items h place (subst (λ o. IsPlaceOf t.places.items h o) c.in-Some.is c.place_in.ensures) in
    IfOk-weaker c.read_raw_image.result (λ body. has_sum place.sum (image (Raw body)) ≡ true) (λ body. HasSumOf t.places.items h (image (Raw body))) (λ body has. sum_of_handle t.places.items h place (image (Raw body)) at.1 has) c.read_raw_image.ensures.summed

pub returns-clause-damaged : goal.returns-clause-damaged
returns-clause-damaged g c = λ is so.
    let t = c.args.table.now in let h = c.args.block.0 in let place = c.in-Some.place in
    let a = g.S.Store.facts c.args.store.now in
    let at = entry_lies t.places.items h place (subst (λ o. IsPlaceOf t.places.items h o) c.in-Some.is c.place_in.ensures) in
    let long = each_at (λ p. IsImageLength p.extent.length) t.places.items (h - 1) place at.1 (image_lengths t.places.items c.requires.placed c.requires.places) in
    let first = raw_kind a.content t.places.items t.map_block h place at.0 at.1 (c.requires.images so) (raw_at (document_in a.content t) h c.requires.raw) long.0 in
    lying_sum a.content t.places.items h place at.1 (c.requires.sums so) (c.read_raw_image.ensures.damaged is so first)
