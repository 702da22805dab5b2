use Rattle.std.proofs.Common.{arith, ◌∙◌}
use Rattle.abc_events.proofs.Fill.{close_answer, ready_answer}
use Rattle.abc_events.proofs.nesting.close_full.Goals as goal

pub returns-then-o-gt0-clause-ready : goal.returns-then-o-gt0-clause-ready
returns-then-o-gt0-clause-ready c =
    ready_answer c.push.new.self.items c.pop.new.self.items c.in-Some.o c.in_ok-push.ensures.ok
    (omega (arith, c.if-o-gt0.true))

pub loop-o-preserved : goal.loop-o-preserved
loop-o-preserved c f =
    close_answer c.loop-o.stack.items c.pop.new.self.items c.in-Some.o c.loop-o.body c.close.new.body
    c.in-Some.ensures.items c.in_ok-close.ensures (omega (arith, c.if-o-gt0.false)) f
    ∙ c.loop-o.invariant f
