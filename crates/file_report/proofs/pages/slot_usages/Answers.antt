use Rattle.std.proofs.Common.{rules}
use Rattle.std.proofs.lemmas.List.Sorted.{IsNonDecreasingBy-from_sort_by_key}
use Rattle.file_report.proofs.pages.slot_usages.Goals as goal

pub returns-clause-order : goal.returns-clause-order
returns-clause-order c = IsNonDecreasingBy-from_sort_by_key (λ u. u.extent.page) _ c.in_ok-sort_by_key.ensures.sorted (λ a r q k. search rules)
