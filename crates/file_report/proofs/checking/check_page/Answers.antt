use Rattle.file_format.proofs.LooksLemmas.{OnlyReadsStore-trans}
use Rattle.file_report.proofs.checking.check_page.Goals as goal

pub returns-in_ok-check_slot-in-Some-2-clause-looks : goal.returns-in_ok-check_slot-in-Some-2-clause-looks
returns-in_ok-check_slot-in-Some-2-clause-looks g c = OnlyReadsStore-trans _ _ _ (λ so. g.met.S.Store.timely c.args.store.now so) c.read_raw_slot.ensures.looks c.check_slot.ensures.looks

pub returns-in_err-check_slot-in-Some-2-clause-looks : goal.returns-in_err-check_slot-in-Some-2-clause-looks
returns-in_err-check_slot-in-Some-2-clause-looks g c = OnlyReadsStore-trans _ _ _ (λ so. g.met.S.Store.timely c.args.store.now so) c.read_raw_slot.ensures.looks c.check_slot.ensures.looks
