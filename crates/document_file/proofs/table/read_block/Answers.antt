use Rattle.std.proofs.Common.{◌≡◌, ◌-◌, length, is_some, true, sym, ap, subst, ◌∙◌, arith}
use Rattle.std.proofs.lemmas.Result.{IfOk-weaker}
use Rattle.document_file.specs.Calls.{IsImageLength}
use Rattle.document_file.specs.Listing.{IsPlaceOf}
use Rattle.document_file.specs.Ranges.{IsPlaced}
use Rattle.document_file.specs.Slots.{block_extents}
use Rattle.document_file.specs.Sound.{ArePlaces}
use Rattle.document_file.specs.Sums.{HasSumOf}
use Rattle.file_format.specs.File.{has_sum}
use Rattle.std.specs.Prelude.{All}
use Rattle.document_file.proofs.PlaceImageLemmas.{read_image, image_lengths, lying_sum, sum_of_handle}
use Rattle.document_file.proofs.TableLemmas.{entry_live, entry_lies, each_at}
use Rattle.document_file.proofs.table.read_block.Goals as goal

pub unreachable-requires : goal.unreachable-requires
unreachable-requires g c =
    let t = c.args.table.now in
    cc (sym (ap is_some c.in-None.is) ∙ entry_live (g.S.Store.facts c.args.store.now).content t.places.items t.map_block c.args.block.0 c.place_in.result c.place_in.ensures ∙ c.requires.live)

pub returns-clause-image : goal.returns-clause-image
returns-clause-image g c =
    let t = c.args.table.now in let h = c.args.block.0 in let place = c.in-Some.place in
    let a = g.S.Store.facts c.args.store.now in
    let at = entry_lies t.places.items h place (subst (λ o. IsPlaceOf t.places.items h o) c.in-Some.is c.place_in.ensures) in
    IfOk-weaker c.read_summed.result _ _ (λ bytes is so. read_image a.content bytes.items t.places.items t.map_block h place at.0 at.1 (c.requires.images so) (is so)) c.read_summed.ensures.bytes

pub returns-clause-size : goal.returns-clause-size
returns-clause-size g c =
    let t = c.args.table.now in let h = c.args.block.0 in let place = c.in-Some.place in
    let at = entry_lies t.places.items h place (subst (λ o. IsPlaceOf t.places.items h o) c.in-Some.is c.place_in.ensures) in
    IfOk-weaker c.read_summed.result (λ bytes. length bytes.items ≡ place.extent.length) (λ bytes. All IsPlaced (block_extents t.places.items) → ArePlaces t.places.items → IsImageLength (length bytes.items)) (λ bytes size placed are.
    let long : IsImageLength place.extent.length = each_at (λ p. IsImageLength p.extent.length) t.places.items (h - 1) place at.1 (image_lengths t.places.items placed are) in
    (omega (arith, size, long.0), omega (arith, size, long.1))) c.read_summed.ensures.size

pub returns-clause-summed : goal.returns-clause-summed
returns-clause-summed g c =
    let t = c.args.table.now in let h = c.args.block.0 in let place = c.in-Some.place in
    let at = entry_lies t.places.items h place (subst (λ o. IsPlaceOf t.places.items h o) c.in-Some.is c.place_in.ensures) in
    IfOk-weaker c.read_summed.result (λ bytes. has_sum place.sum bytes.items ≡ true) (λ bytes. HasSumOf t.places.items h bytes.items) (λ bytes has. sum_of_handle t.places.items h place bytes.items at.1 has) c.read_summed.ensures.summed

pub returns-clause-damaged : goal.returns-clause-damaged
returns-clause-damaged g c = λ is so.
    let t = c.args.table.now in let h = c.args.block.0 in let place = c.in-Some.place in
    let at = entry_lies t.places.items h place (subst (λ o. IsPlaceOf t.places.items h o) c.in-Some.is c.place_in.ensures) in
    lying_sum (g.S.Store.facts c.args.store.now).content t.places.items h place at.1 (c.requires.sums so) (c.read_summed.ensures.damaged is so)
