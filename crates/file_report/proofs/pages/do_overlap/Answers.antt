use Rattle.std.proofs.Common.{sym, ◌∙◌}
use Rattle.file_report.proofs.OverlapLemmas.{not_both, not_from, overlap_by_test}
use Rattle.file_report.proofs.pages.do_overlap.Goals as goal

pub returns-then-share_a_page : goal.returns-then-share_a_page
returns-then-share_a_page c = (
  (λ apart. overlap_by_test c.args.one c.args.other (sym c.share_a_page.ensures ∙ c.if-share_a_page.true) (λ s. not_both c.is_shared.result (c.is_shared.ensures.1 s) apart)),
  (λ o. not_from c.is_shared.result (λ yes. o.differ (c.is_shared.ensures.0 yes))),
)
