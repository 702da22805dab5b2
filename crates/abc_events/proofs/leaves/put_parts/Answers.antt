use Rattle.std.proofs.Common.{ap, ◌∙◌, [], ◌∷◌, ◌++◌}
use Rattle.abc_events.{specs.Leaves.node_of, proofs.Single.one_node}
use Rattle.abc_events.proofs.leaves.put_parts.Goals as goal

pub returns-in_ok-push-in-len1 : goal.returns-in_ok-push-in-len1
returns-in_ok-push-in-len1 c =
    c.in_ok-push-in-len1.ensures.ok
    ∙ ap (λ xs. c.args.nodes.now ++ xs)
    (ap (λ x. x ∷ []) (c.node_of.ensures ∙ ap node_of c.only_part.ensures)
    ∙ one_node c.args.w c.args.first.waiting c.args.first.words c.args.first.id c.as_slice.result.now _
    c.as_slice.ensures c.in-len1.len_at_least c.in-len1.len_below)
