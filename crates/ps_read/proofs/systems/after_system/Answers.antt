use Rattle.ps_read.proofs.Stepping.{on_first_staff}
use Rattle.ps_read.proofs.systems.after_system.Goals as goal

pub returns-then-branch : goal.returns-then-branch
returns-then-branch c = on_first_staff c.args.system c.args.raw.now (c.in_ok-is_staff_line.ensures.0 c.if-branch.true)
