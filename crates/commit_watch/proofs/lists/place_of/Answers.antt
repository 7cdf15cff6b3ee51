use Rattle.commit_watch.proofs.Names.{rules, object_lt}
use Rattle.std.proofs.lemmas.List.Sorted.{IsPartitionPoint-from_clause}
use Rattle.commit_watch.proofs.ListLemmas.{partitioned}
use Rattle.commit_watch.proofs.lists.place_of.Goals as goal

pub returns-clause-front : goal.returns-clause-front
returns-clause-front g c =
    (IsPartitionPoint-from_clause (λ w. object_lt w.object c.args.object) c.args.moved.now c.partition_point.result c.partition_point.ensures.partitioned (partitioned c.args.object c.args.moved.now c.requires) (λ a r f k. search rules)).0

pub returns-clause-back : goal.returns-clause-back
returns-clause-back g c =
    (IsPartitionPoint-from_clause (λ w. object_lt w.object c.args.object) c.args.moved.now c.partition_point.result c.partition_point.ensures.partitioned (partitioned c.args.object c.args.moved.now c.requires) (λ a r f k. search rules)).1
