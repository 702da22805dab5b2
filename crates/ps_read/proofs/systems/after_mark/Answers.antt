use Rattle.{std.proofs.Common.{subst}, ps_read.{specs.Titles.IsMarkRead, proofs.Stepping.on_mark}}
use Rattle.ps_read.proofs.systems.after_mark.Goals as goal

pub returns-in_ok-staff-in-Some : goal.returns-in_ok-staff-in-Some
returns-in_ok-staff-in-Some c =
    let k = subst (IsMarkRead c.args.staff.y c.args.raw.now) c.in-Some.is c.in_ok-mark.ensures in
    on_mark c.args.system c.args.staff c.args.raw.now c.in-Some.mark c.in_ok-staff-in-Some.staff k.1 k.0 k.2
    c.in_ok-staff-in-Some.ensures
