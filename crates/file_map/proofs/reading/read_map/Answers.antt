use Rattle.std.proofs.Common.{Result, Ok, Err, ap, subst, sym}
use Rattle.std.specs.Prelude.{IfOk, IsTrue}
use Rattle.std.proofs.lemmas.Result.{err_from_is_err_and}
use Rattle.vm_store.specs.Facts.{StoreFacts}
use Rattle.file_format.specs.Reading.{OnlyReadsStore}
use Rattle.file_format.proofs.LooksLemmas.{OnlyReadsStore-trans, held_before}
use Rattle.file_report.specs.Checked.{IsReport}
use Rattle.file_map.specs.Drawn.{IsFileMap}
use Rattle.file_map.specs.declared.fault.MapFault.{MapFault}
use Rattle.file_map.specs.declared.reading.FileMap.{FileMap}
use Rattle.file_map.proofs.FaultLemmas.{read_file}
use Rattle.file_map.proofs.MapLemmas.{refusals_before}
use Rattle.file_map.proofs.reading.read_map.Goals as goal

-- what was read behind a look is there before it
read_before : (a b : StoreFacts) (r : Result FileMap MapFault) → OnlyReadsStore a b → IfOk r (λ m. IsTrue b.honest → IsFileMap b.content m) → IfOk r (λ m. IsTrue a.honest → IsFileMap a.content m)
read_before a b (Ok m) looks is = held_before (λ file. IsFileMap file m) a b looks is
read_before a b (Err fault) looks is = tt

pub read_report-requires : goal.read_report-requires
read_report-requires g c so =
    let looks = c.check.ensures.looks in
    let first = subst IsTrue looks.honest so in
    subst (λ file. IsReport file c.in_ok-report.report) (sym (looks.unchanged first).content) (c.in_ok-report.ensures.report first)

pub returns-in_err-report-clause-file : goal.returns-in_err-report-clause-file
returns-in_err-report-clause-file g c =
    let fault = c.in_err-report.field-0.0 in
    let p = err_from_is_err_and c.from_residual.result c.from_residual.ensures.1 in
    rw (p.1, p.2) (λ is. c.in_err-report.ensures.file (ap (λ f. Err f) (read_file fault c.in_err-report.ensures.refusals (cc is))))

pub returns-clause-looks : goal.returns-clause-looks
returns-clause-looks g c = OnlyReadsStore-trans _ _ _ (λ so. g.met.S.Store.timely c.args.store.now so) c.check.ensures.looks c.read_report.ensures.looks

pub returns-clause-map : goal.returns-clause-map
returns-clause-map g c = read_before _ _ c.read_report.result c.check.ensures.looks c.read_report.ensures.map

pub returns-clause-refusals : goal.returns-clause-refusals
returns-clause-refusals g c = refusals_before _ _ c.read_report.result c.check.ensures.looks c.read_report.ensures.refusals
