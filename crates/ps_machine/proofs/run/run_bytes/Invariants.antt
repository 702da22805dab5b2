use Rattle.std.proofs.Common.{◌-◌}
use Rattle.ps_machine.{specs.Doing.state_of, proofs.Loop.Come}
use Rattle.ps_machine.proofs.run.run_bytes.Given as goal

abbrev pub invariant-loop-calls : goal.invariant-loop-calls
invariant-loop-calls l = Come l.b l.budget l.token l.calls (state_of l.m) l.rest l.fault

abbrev pub decreases-loop-calls : goal.decreases-loop-calls
decreases-loop-calls l = l.budget - l.token
