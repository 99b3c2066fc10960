use Rattle.std.proofs.Common.{rules}
use Rattle.std.proofs.lemmas.List.Sorted.{IsNonDecreasingBy-from_sort_by_key, IsPermutation-trans}
use Rattle.file_map.proofs.reading.join_blocks.Goals as goal

pub returns-clause-all : goal.returns-clause-all
returns-clause-all c = IsPermutation-trans _ _ _ c.sort_by_key.ensures.permutation c.sort_by_key-2.ensures.permutation

pub returns-clause-order : goal.returns-clause-order
returns-clause-order c = IsNonDecreasingBy-from_sort_by_key (λ u. u.extent.page) _ c.in_ok-sort_by_key-2.ensures.sorted (λ a r q k. search rules)
