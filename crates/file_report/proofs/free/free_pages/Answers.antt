use Rattle.std.proofs.Common.{◌<◌, ◌≤◌, arith, length, refl}
use Rattle.file_report.proofs.FreeLemmas.{passed_all, passed_more, passed_none}
use Rattle.file_report.proofs.free.free_pages.Goals as goal

pub loop-usage-init : goal.loop-usage-init
loop-usage-init c = passed_none c.args.usages.now c.args.pages _ refl refl refl refl

pub loop-usage-preserved : goal.loop-usage-preserved
loop-usage-preserved c =
    let within : c.loop-usage.usage-index < length c.args.usages.now = omega arith in
    passed_more c.args.usages.now c.args.pages c.loop-usage.usage-index _ c.loop-usage.walk c.past-walk.result c.requires within c.loop-usage.invariant c.past-walk.ensures

pub returns : goal.returns
returns c =
    let past : length c.args.usages.now ≤ c.loop-usage.usage-index = omega arith in
    passed_all c.args.usages.now c.args.pages c.loop-usage.usage-index c.loop-usage.walk c.past_free.result (omega arith) past c.loop-usage.invariant c.past_free.ensures
