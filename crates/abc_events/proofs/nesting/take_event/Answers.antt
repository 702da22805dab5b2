use Rattle.std.proofs.Common.{◌++◌, refl}
use Rattle.abc_events.proofs.Fill.{event_answer}
use Rattle.abc_events.proofs.nesting.take_event.Goals as goal

pub returns : goal.returns
returns c body nodes =
    event_answer c.args.stack.now.items c.pop.new.self.items c.push.new.self.items c.in-Some.o c.saturating_sub.result
    body (body ++ nodes) nodes c.in-Some.ensures.items refl c.in_ok-push.ensures.ok c.requires c.saturating_sub.ensures
