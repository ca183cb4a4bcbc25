-- They stand before the Side links, so a search by halves finds their end.
use Rattle.std.proofs.Common.{rules}
use Rattle.std.proofs.lemmas.List.Sorted.{IsPartitionPoint-from_clause}
use Rattle.graph.specs.declared.Group.TheVariants.{Back}
use Rattle.graph.specs.Links.{of_group}
use Rattle.graph.proofs.GroupPoint.{groups_parted, point_counts}
use Rattle.graph.proofs.edits.count_of_back_links.Goals as goal

pub returns : goal.returns
returns c =
    let parted = groups_parted c.args.links.now c.requires in
    let point = IsPartitionPoint-from_clause (of_group Back) _ _ c.partition_point.ensures.partitioned parted (λ a r q k. search rules) in
    point_counts _ _ c.partition_point.ensures.bound point
