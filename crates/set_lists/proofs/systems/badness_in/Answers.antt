use Rattle.std.proofs.Common.{◌∙◌, nat_lt, ap, rules, unwrap_or}
use Rattle.std.proofs.lemmas.List.Sorted.{IsPartitionPoint-from_clause, IsPartitionedBy-ltb}
use Rattle.set_lists.{specs.Systems.badness_in, proofs.Finding.{in_order, listed_past}}
use Rattle.set_lists.proofs.systems.badness_in.Goals as goal

pub returns : goal.returns
returns c =
    let spans = c.args.spans.now in let a = c.args.a in let i = c.partition_point-first.result in
    let point = IsPartitionPoint-from_clause (λ s. nat_lt s.a a) spans i c.partition_point-first.ensures.partitioned
    (IsPartitionedBy-ltb (λ s. s.a) spans a (in_order c.args.bars spans c.requires)) (λ x r f h. search rules) in
    c.badness_among.ensures ∙ (ap (λ ss. badness_in ss a c.args.b) c.split_at.ensures.back
    ∙ ap (λ o. unwrap_or o 0) (listed_past spans i a c.args.b c.partition_point-first.ensures.bound point.0))
