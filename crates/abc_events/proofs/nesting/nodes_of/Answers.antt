use Rattle.std.proofs.Common.{◌∙◌}
use Rattle.abc_events.proofs.Fill.{end_answer}
use Rattle.abc_events.proofs.nesting.nodes_of.Goals as goal

pub loop-o-preserved : goal.loop-o-preserved
loop-o-preserved c =
    end_answer c.loop-o.tree.stack.items c.pop.new.self.items c.in-Some.o c.loop-o.tree.body c.close.new.body
    c.in-Some.ensures.items c.in_ok-close.ensures
    ∙ c.loop-o.invariant
