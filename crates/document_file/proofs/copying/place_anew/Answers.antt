use Rattle.std.proofs.Common.{◌∷◌, ◌++◌, [], None, get_or, take, length, ◌<◌, sym, ap, ◌∙◌, arith}
use Rattle.std.proofs.lemmas.List.{take_more}
use Rattle.document_file.specs.Making.{laid_out, moved_to}
use Rattle.document_file.proofs.LaidOutLemmas.{behind_more, laid_out-more}
use Rattle.document_file.proofs.copying.place_anew.Goals as goal

pub loop-place-preserved : goal.loop-place-preserved
loop-place-preserved c =
    let places = c.args.places.now in
    let i = c.loop-place.place-index in
    let inside : i < length places = omega arith in
    let was = c.loop-place.invariant in
    let more = take_more places i None inside in
    let page = was.1.is in (
      c.in_ok-push.ensures.items ∙ ap (λ l. l ++ c.moved.result ∷ []) was.0 ∙ ap (λ o. laid_out c.args.checksums 2 (take i places) ++ o ∷ []) (c.moved.ensures ∙ ap (λ p. moved_to c.args.checksums p (get_or places i None)) page)
          ∙ sym (laid_out-more c.args.checksums 2 (take i places) (get_or places i None)) ∙ ap (laid_out c.args.checksums 2) (sym more),
      behind_more places i c.loop-place.page c.page_count-page.result inside c.requires.placed c.page_count-page.ensures was.1,
    )
