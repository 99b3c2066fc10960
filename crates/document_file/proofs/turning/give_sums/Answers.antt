use Rattle.std.proofs.Common.{Some, true, sym, subst}
use Rattle.document_file.specs.Sound.{IsSound}
use Rattle.document_file.specs.Sums.{AreSummed, IsResummed}
use Rattle.file_format.proofs.LooksLemmas.{OnlyReadsStore-trans, still_holds}
use Rattle.document_file.proofs.GivenSumsLemmas.{given_sound}
use Rattle.document_file.proofs.SoundLemmas.{sound_rested}
use Rattle.document_file.proofs.turning.give_sums.Goals as goal

pub returns-in_err-saved-clause-looks : goal.returns-in_err-saved-clause-looks
returns-in_err-saved-clause-looks g c = OnlyReadsStore-trans _ _ _ (λ so. g.met.S.Store.timely c.args.store.now so) c.summed_table.ensures.looks c.summed_table-2.ensures.looks

pub returns-clause-looks : goal.returns-clause-looks
returns-clause-looks g c = OnlyReadsStore-trans _ _ _ (λ so. g.met.S.Store.timely c.args.store.now so) c.summed_table.ensures.looks c.summed_table-2.ensures.looks

pub returns-clause-sound : goal.returns-clause-sound
returns-clause-sound g c =
    let facts = g.S.Store.facts in
    let summed = c.in_ok-summed.summed in
    let saved = c.in_ok-saved.saved in
    let slots = c.args.slots in
    let looks = OnlyReadsStore-trans _ _ _ (λ so. g.met.S.Store.timely c.args.store.now so) c.summed_table.ensures.looks c.summed_table-2.ensures.looks in
    let sound = sound_rested _ _ c.args.live slots c.requires.sound looks.honest looks.unchanged in
    let alike = subst (IsResummed saved) c.deref.ensures c.in_ok-saved.ensures.alike in
    subst (λ n. IsSound (facts c.summed_table-2.new.store) summed (record slots { next_version = n; saved_sums = Some saved })) (sym c.version_for.ensures)
    (given_sound (facts c.summed_table-2.new.store) c.args.live summed saved slots c.in_ok-summed.ensures.alike alike c.requires.alone c.requires.unmarked sound (still_holds (λ file. AreSummed true file summed.places.items) _ _ looks c.in_ok-summed.ensures.summed)
    (still_holds (λ file. AreSummed true file saved.places.items) _ _ c.summed_table-2.ensures.looks c.in_ok-saved.ensures.summed))
