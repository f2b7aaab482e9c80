use Rattle.std.proofs.Common.{arith, rules, ltb-true, ltb-false}
use Rattle.std.proofs.Math.Dec.{ltb}
use Rattle.std.proofs.lemmas.List.Sorted.{IsPartitionedBy-ltb, IsPartitionPoint-from_clause}
use Rattle.chr_rule.specs.Index.{rank}
use Rattle.chr_rule.proofs.Index.{by_place}
use Rattle.chr_rule.proofs.occurrences.place_from.Goals as goal

pub returns-clause-front : goal.returns-clause-front
returns-clause-front c = λ k d l.
    let row = c.args.row.now in
    let point = IsPartitionPoint-from_clause (λ o. ltb (rank o) c.rank_at-from.result) row _ c.partition_point.ensures.partitioned (IsPartitionedBy-ltb rank row c.rank_at-from.result (by_place row c.requires)) (λ a r q k. search rules) in
    omega (arith, ltb-true _ _ (point.0 k d (omega arith) l), c.rank_at-from.ensures.rank)

pub returns-clause-later : goal.returns-clause-later
returns-clause-later c = λ k d from within.
    let row = c.args.row.now in
    let point = IsPartitionPoint-from_clause (λ o. ltb (rank o) c.rank_at-from.result) row _ c.partition_point.ensures.partitioned (IsPartitionedBy-ltb rank row c.rank_at-from.result (by_place row c.requires)) (λ a r q k. search rules) in
    omega (arith, ltb-false _ _ (point.1 k d from within), c.rank_at-from.ensures.rank)
