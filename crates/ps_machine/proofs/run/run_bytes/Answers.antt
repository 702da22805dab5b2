use Rattle.std.proofs.Common.{arith, ◌<◌}
use Rattle.ps_machine.specs.Doing.{state_of}
use Rattle.ps_machine.specs.Nexts.{machine_token}
use Rattle.ps_machine.proofs.Loop.{come_first, come_more, come_end, come_unread, come_used, come_stuck}
use Rattle.ps_machine.proofs.run.run_bytes.Goals as goal

pub loop-calls-init : goal.loop-calls-init
loop-calls-init c =
    come_first c.args.b.now c.args.budget c.new-calls.result (state_of c.start-m.result) c.as_slice-rest.result.now
    c.in_ok-program.program.fault c.new-calls.ensures c.start-m.ensures
    (rw c.as_slice-rest.ensures c.in_ok-program.ensures)

pub returns-in-None-clause-painted : goal.returns-in-None-clause-painted
returns-in-None-clause-painted c =
    let n = rw c.in-End.is at c.in_ok-coming.ensures in
    come_end c.args.b.now c.args.budget c.loop-calls.token c.loop-calls.calls (state_of c.loop-calls.m)
    c.loop-calls.rest.now c.loop-calls.fault-1 c.loop-calls.invariant n.0 n.1 c.in-None.is

pub returns-in-Some-clause-halted : goal.returns-in-Some-clause-halted
returns-in-Some-clause-halted c =
    let n = rw c.in-End.is at c.in_ok-coming.ensures in
    come_unread c.args.b.now c.args.budget c.loop-calls.token c.loop-calls.calls (state_of c.loop-calls.m)
    c.loop-calls.rest.now c.loop-calls.fault-1 c.loop-calls.invariant c.in-Some.cause n.0 n.1 c.in-Some.is

pub returns-then-token-budget-clause-halted : goal.returns-then-token-budget-clause-halted
returns-then-token-budget-clause-halted c =
    let n = rw c.in-Token.is at c.in_ok-coming.ensures in
    come_used c.args.b.now c.args.budget c.loop-calls.token c.loop-calls.calls (state_of c.loop-calls.m)
    c.loop-calls.rest.now c.loop-calls.fault-1 c.loop-calls.invariant (machine_token c.in-Token.t) c.coming.new.calls
    c.in-Token.after.now n c.if-token-budget.true

pub loop-calls-preserved : goal.loop-calls-preserved
loop-calls-preserved c =
    let n = rw c.in-Token.is at c.in_ok-coming.ensures in
    let x = c.in-Ok.ensures in
    let w = c.loop-calls.invariant.within in
    let l : c.loop-calls.token < c.args.budget = omega (arith, w, c.if-token-budget.false) in
    come_more c.args.b.now c.args.budget c.loop-calls.token c.loop-calls.calls (state_of c.loop-calls.m)
    c.loop-calls.rest.now c.loop-calls.fault-1 c.loop-calls.invariant (machine_token c.in-Token.t) c.coming.new.calls
    c.in-Token.after.now n x.0 c.execute.new.calls (state_of c.execute.new.m) l x.1 x.2

pub returns-in-Err-Halted-clause-halted : goal.returns-in-Err-Halted-clause-halted
returns-in-Err-Halted-clause-halted c =
    let n = rw c.in-Token.is at c.in_ok-coming.ensures in
    let w = c.loop-calls.invariant.within in
    let l : c.loop-calls.token < c.args.budget = omega (arith, w, c.if-token-budget.false) in
    let h =
    come_stuck c.args.b.now c.args.budget c.loop-calls.token c.loop-calls.calls (state_of c.loop-calls.m)
    c.loop-calls.rest.now c.loop-calls.fault-1 c.loop-calls.invariant (machine_token c.in-Token.t) c.coming.new.calls
    c.in-Token.after.now n c.in-Err-Halted.cause l (rw c.in-Err-Halted.field-0-is at c.in-Err-Halted.ensures) in
    rw (← c.in-Err-Halted.cause-is) at h
