use Rattle.std.proofs.Common.{None, get_or, take, length, ◌<◌, IsTrue, sym, subst, ◌∙◌, arith}
use Rattle.std.proofs.lemmas.List.{take_more}
use Rattle.document_file.specs.Making.{AreCopied, IsBlockCopied}
use Rattle.document_file.proofs.LaidOutLemmas.{behind_more, one_placed, pages_few, copied_more, copied_as}
use Rattle.file_format.proofs.LooksLemmas.{OnlyReadsStore-trans, still, same_bytes_then}
use Rattle.document_file.proofs.copying.copy_images.Goals as goal

pub overflow_add-page : goal.overflow_add-page
overflow_add-page g c =
    let places = c.args.places.now in
    let i = c.loop-place.place-index in
    let inside : i < length places = omega arith in
    let few = pages_few (get_or places i None) (one_placed places i inside c.requires.placed) in
    let was = c.loop-place.invariant in
    omega (arith, few, was.3.low, c.page_count-page.ensures, c.requires.few)

pub loop-place-preserved : goal.loop-place-preserved
loop-place-preserved g c =
    let places = c.args.places.now in
    let i = c.loop-place.place-index in
    let inside : i < length places = omega arith in
    let was = c.loop-place.invariant in
    let is = was.3 in
    let facts = g.S.Store.facts in
    let source = facts c.args.source.now in
    let read = facts c.loop-place.source in
    let old = facts c.args.target.now in
    let mid = facts c.loop-place.target in
    let new = facts c.copy_image.new.target in
    let o = get_or places i None in
    let more = take_more places i None inside in (
      OnlyReadsStore-trans source read _ (λ so. g.met.S.Store.timely c.args.source.now so) was.0 c.in_ok-copy_image.ensures.looks,
      c.in_ok-copy_image.ensures.honest ∙ was.1,
      omega (arith, c.in_ok-copy_image.ensures.failures, was.2),
      behind_more places i c.loop-place.page c.page_count-page.result inside c.requires.placed c.page_count-page.ensures is,
      λ so.
          let yet = subst IsTrue (sym was.1) so in
          let step : IsBlockCopied c.args.checksums c.loop-place.page o (IsTrue read.honest) read.content mid.content new.content = c.in_ok-copy_image.ensures.copied yet in
          subst (λ ps. AreCopied c.args.checksums (IsTrue source.honest) source.content ps old.content new.content) (sym more)
          (copied_more c.args.checksums source.content old.content mid.content new.content (IsTrue source.honest) (take i places) (was.4 so) o
          (copied_as c.args.checksums _ _ o (IsTrue read.honest) (IsTrue source.honest) read.content source.content mid.content new.content is.is (still source read was.0) (same_bytes_then source read was.0) step)),
    )
