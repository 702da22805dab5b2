use Rattle.std.proofs.Common.{rules}
use Rattle.std.proofs.lemmas.List.Sorted.{IsPartitionPoint-from_clause}
use Rattle.mus_onsets.specs.Order.{is_below}
use Rattle.mus_onsets.proofs.RankLaws.{parted, ranked}
use Rattle.mus_onsets.proofs.ranks.rank_of.Goals as goal

pub returns : goal.returns
returns c =
    ranked c.args.keys.now c.args.key c.partition_point.result c.partition_point.ensures.bound
    (IsPartitionPoint-from_clause (λ k. is_below k c.args.key) _ _ c.partition_point.ensures.partitioned
    (parted c.args.keys.now c.args.key c.requires.rise) (λ a r q k. search rules))
