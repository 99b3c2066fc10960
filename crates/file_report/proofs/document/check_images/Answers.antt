use Rattle.std.proofs.Common.{◌≡◌, ◌<◌, ◌&&◌, length, get_or, take, is_some, arith, inl, inr, refl, sym, ap, ap₂, ◌∙◌}
use Rattle.std.proofs.lemmas.List.{take_more}
use Rattle.file_format.specs.File.{block_of, blocks_of_entries}
use Rattle.file_format.proofs.Files.{no_entry}
use Rattle.file_format.proofs.LooksLemmas.{OnlyReadsStore-refl, OnlyReadsStore-trans, held_before, still_holds}
use Rattle.file_report.specs.Findings.{FindsMore, IsEntryListed, IsSo}
use Rattle.file_report.specs.Reading.{IsSoOfEntries}
use Rattle.file_report.proofs.FindingsLemmas.{finds_nothing, finds_both, finds_length, noted}
use Rattle.file_report.proofs.ImagesLemmas.{some_with, and_false}
use Rattle.file_report.proofs.document.check_images.Goals as goal

pub loop-entry-init : goal.loop-entry-init
loop-entry-init g c = (OnlyReadsStore-refl _, λ so. refl, finds_nothing _ _, λ no. absurd (cc no))

pub loop-entry-preserved : goal.loop-entry-preserved
loop-entry-preserved g c =
    let es = c.args.entries.now in
    let i = c.loop-entry.entry-index in
    let e = get_or es i no_entry in
    let inside : i < length es = omega arith in
    let file = (g.S.Store.facts c.args.store.now).content in
    let was = c.loop-entry.invariant in
    let image = held_before (λ f. c.in_ok-has.has ≡ is_some (block_of f e)) _ _ was.0 c.in_ok-has.ensures.image in
    let found : FindsMore (IsSoOfEntries (g.S.Store.facts c.args.store.now) c.args.name es) _ _ =
    noted _ _ _ _ _ (λ isnt s so listed.
    held_before (λ f. IsSo f s c.in_ok-has.wrong) _ _ was.0
    (λ then. c.in_ok-has.ensures.wrong isnt s then (still_holds (λ f. IsEntryListed f s c.args.name e) _ _ was.0 (λ now. listed i no_entry inside) then)) so) c.in_ok-note_unless.ensures.found in
    let before = finds_length _ _ _ was.2 in
    let after = finds_length _ _ _ found in (
      OnlyReadsStore-trans _ _ _ (λ so. g.met.S.Store.timely c.args.store.now so) was.0 c.in_ok-has.ensures.looks,
      λ so. ap₂ (λ a b. a && b) (was.1 so) (image so) ∙ sym (some_with file (take i es) e) ∙ ap (λ l. is_some (blocks_of_entries file l)) (sym (take_more es i no_entry inside)),
      finds_both _ _ _ _ was.2 found,
      λ no. elim (and_false _ _ no) [
        | inl old ↦ let less = was.3 old in omega (arith, less, after)
        | inr new ↦ let less = c.in_ok-note_unless.ensures.told new in omega (arith, less, before)
      ],
    )

pub returns-in_err-has-clause-looks : goal.returns-in_err-has-clause-looks
returns-in_err-has-clause-looks g c = OnlyReadsStore-trans _ _ _ (λ so. g.met.S.Store.timely c.args.store.now so) c.loop-entry.invariant.0 c.look_for_image.ensures.looks

pub returns-clause-looks : goal.returns-clause-looks
returns-clause-looks g c = c.loop-entry.invariant.0

pub returns-clause-found : goal.returns-clause-found
returns-clause-found g c = c.loop-entry.invariant.2

pub returns-clause-some : goal.returns-clause-some
returns-clause-some g c = c.loop-entry.invariant.3
