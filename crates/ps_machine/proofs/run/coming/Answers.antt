use Rattle.ps_machine.{specs.Nexts.of_calls, proofs.Loop.next_of_text}
use Rattle.ps_machine.proofs.run.coming.Goals as goal

pub returns-in-Some : goal.returns-in-Some
returns-in-Some c = of_calls c.in-Some.t.now c.next.new.self (rw c.in-Some.is at c.in_ok-t.ensures)

pub returns-in-None : goal.returns-in-None
returns-in-None c =
    let e = rw c.in-None.is at c.in_ok-t.ensures in
    next_of_text c.args.calls.now c.next.new.self c.args.tokens.now c.first_of.result e.0 e.1 c.first_of.ensures
