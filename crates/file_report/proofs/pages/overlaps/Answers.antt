use Rattle.std.proofs.Common.{◌≤◌, ◌<◌, length, arith, subst, take_all}
use Rattle.file_report.specs.Pages.{AreReportedIn}
use Rattle.file_report.proofs.OverlapLemmas.{swept_next}
use Rattle.file_report.proofs.pages.overlaps.Goals as goal

pub loop-usage-preserved : goal.loop-usage-preserved
loop-usage-preserved c =
    let within : c.loop-usage.usage-index < length c.args.usages.now = omega arith in
    record {
      overlap = c.in_ok-push_overlap.ensures.overlap c.loop-usage.invariant.overlap;
      swept = λ order. swept_next c.args.usages.now c.loop-usage.usage-index _ _ _ _ _ within order (c.loop-usage.invariant.swept order) c.in_ok-push_overlap.ensures.kept
          c.in_ok-push_overlap.ensures.told c.further.ensures.one c.further.ensures.behind c.further.ensures.behind_all;
    }

pub returns-clause-all : goal.returns-clause-all
returns-clause-all c = λ order.
    let past : length c.args.usages.now ≤ c.loop-usage.usage-index = omega arith in
    subst (λ us. AreReportedIn us c.loop-usage.pairs.items) (take_all c.loop-usage.usage-index c.args.usages.now past) (c.loop-usage.invariant.swept order).told
