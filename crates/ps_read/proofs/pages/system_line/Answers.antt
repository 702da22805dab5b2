use Rattle.std.proofs.Common.{arith}
use Rattle.ps_read.proofs.Stepping.{on_system, none_system, not_rising}
use Rattle.ps_read.proofs.pages.system_line.Goals.{in_default-via-in-Some+else-a-b, in_default-via-in_default}
use Rattle.ps_read.proofs.pages.system_line.Goals as goal

pub returns-in-Some : goal.returns-in-Some
returns-in-Some c =
    let k = c.in-Some.ensures in
    on_system c.args.page c.args.raw.now c.in-Some.a c.in-Some.b c.new.result k.0 k.1 k.2 c.if-a-b.true c.new.ensures

pub returns-in_default : goal.returns-in_default
returns-in_default c = none_system c.args.page c.args.raw.now (λ a b l lb q. elim c.in_default.branch [
  | in_default-via-in-Some+else-a-b w ↦
      let k = w.in-Some.ensures in
      not_rising c.args.raw.now w.in-Some.a w.in-Some.b a b k.0 k.1 k.2 w.if-a-b.false l lb q
  | in_default-via-in_default w ↦ w.in_default.ensures a b (omega (arith, l, lb)) lb q
])
