use Rattle.std.proofs.Common.{leb, leb-false, leb-true, arith, rules}
use Rattle.std.proofs.lemmas.List.Sorted.{IsPartitionPoint-from_clause, IsPartitionedBy-leb}
use Rattle.file_salvage.proofs.rows.count_below.Goals as goal

pub returns-clause-below : goal.returns-clause-below
returns-clause-below c =
    let parted = IsPartitionedBy-leb (λ x. x) _ c.args.most c.requires in
    let point = IsPartitionPoint-from_clause (λ x. leb x c.args.most) _ _ c.partition_point.ensures.partitioned parted (λ a r q k. search rules) in
    λ k few. leb-true _ _ (point.0 k 0 (omega arith) few)

pub returns-clause-above : goal.returns-clause-above
returns-clause-above c =
    let parted = IsPartitionedBy-leb (λ x. x) _ c.args.most c.requires in
    let point = IsPartitionPoint-from_clause (λ x. leb x c.args.most) _ _ c.partition_point.ensures.partitioned parted (λ a r q k. search rules) in
    λ k many short. leb-false _ _ (point.1 k 0 many short)
