use Rattle.std.proofs.Common.{subst, w64}
use Rattle.std.proofs.lemmas.Int.{to_z-of_z}
use Rattle.ps_text.proofs.Numbers.{fits}
use Rattle.ps_read.specs.Titles.{IsRulesRead}
use Rattle.ps_read.proofs.Stepping.{on_rules}
use Rattle.ps_read.proofs.systems.read_staff.Goals as goal

pub returns : goal.returns
returns c =
    let k = subst (IsRulesRead c.args.raw.now) c.in-Some.is c.in_ok-width.ensures in
    let y = c.in-Some.field-0.y in
    let f = to_z-of_z w64 y (fits y k.0.2) in
    let u = rw (f, c.as_slice.ensures) at (c.is_under_top.ensures.0 c.if-not-is_under_top.false) in
    rw (f, c.new.ensures)
    (on_rules c.args.system.now c.args.raw.now c.in-Some.field-0.width y k.1 k.0.0 k.0.1 k.0.2 u k.2)
