use Rattle.abc_events.proofs.Fill.{group_answer}
use Rattle.abc_events.proofs.nesting.open_tuplet.Goals as goal

pub returns : goal.returns
returns c =
    group_answer c.args.stack.now.items c.pop.new.self.items c.push.new.self.items c.begin-2.new.stack.items c.in-Some.o
    c.saturating_sub.result c.args.p c.args.q c.args.r c.args.body.now c.begin-2.new.body c.in-Some.ensures.items
    c.in_ok-push.ensures.ok c.in_ok-begin.ensures.open c.in_ok-begin.ensures.empty c.requires c.saturating_sub.ensures
