use Rattle.std.proofs.Common.{rules}
use Rattle.std.proofs.lemmas.List.Sorted.{IsNonDecreasingBy-from_sort_by_key}
use Rattle.file_map.specs.Parts.{handle_rank}
use Rattle.file_map.proofs.drawing.by_handle.Goals as goal

pub returns-clause-parts : goal.returns-clause-parts
returns-clause-parts c = record {
  same = c.in_ok-sort_by_key.ensures.permutation;
  sorted = IsNonDecreasingBy-from_sort_by_key handle_rank _ c.in_ok-sort_by_key.ensures.sorted (λ a r q k. search rules);
}
