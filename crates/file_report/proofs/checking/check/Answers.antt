use Rattle.std.proofs.Common.{◌≤◌, length, arith, ◌∙◌}
use Rattle.file_format.proofs.LooksLemmas.{OnlyReadsStore-trans, held_before}
use Rattle.file_report.specs.Checked.{IsState}
use Rattle.file_report.proofs.StandsLemmas.{file_verdict}
use Rattle.file_report.proofs.checking.check.Goals as goal

pub returns-clause-report : goal.returns-clause-report
returns-clause-report g c so =
    let file = (g.S.Store.facts c.args.store.now).content in
    let size = c.in_ok-file_length.ensures.length so in
    let long : 1024 ≤ length file = omega (arith, size) in
    let one = held_before (λ f. IsState f 0 c.in_ok-first.first) _ _ c.read_length.ensures.looks c.in_ok-first.ensures.state so in
    let looks = OnlyReadsStore-trans _ _ _ (λ so. g.met.S.Store.timely c.args.store.now so) c.read_length.ensures.looks c.check_page.ensures.looks in
    let two = held_before (λ f. IsState f 1 c.in_ok-second.second) _ _ looks c.in_ok-second.ensures.state so in
    record {
      length = size;
      verdict = c.verdict_between.ensures ∙ file_verdict file c.in_ok-first.first c.in_ok-second.second long one two;
      first = one;
      second = two;
    }
