use Rattle.std.proofs.Common.{rules, leb}
use Rattle.std.proofs.lemmas.List.Sorted.{IsPartitionedBy-leb, IsPartitionPoint-from_clause}
use Rattle.cpg_group.proofs.places.cut_upto.Goals as goal

pub returns-clause-cut : goal.returns-clause-cut
returns-clause-cut g c =
    λ sorted. IsPartitionPoint-from_clause (λ item. leb (g.T.Placed.place_of item) c.args.last) c.args.items.now c.partition_point.result
    c.partition_point.ensures.partitioned (IsPartitionedBy-leb g.T.Placed.place_of c.args.items.now c.args.last sorted) (λ a r f'. search rules)
