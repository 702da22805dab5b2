use Rattle.{std.proofs.Common.{subst, refl, sym, ◌∙◌}, ps_read.{specs.Titles.IsJoinRead, proofs.Stepping.on_join}}
use Rattle.ps_read.proofs.systems.join_next.Goals as goal

pub returns-in-Some : goal.returns-in-Some
returns-in-Some c =
    let k = subst (IsJoinRead c.args.raw.now) c.in-Some.is c.in_ok-join.ensures in
    on_join c.args.system c.args.raw.now c.in-Some.join _ (sym c.is_some.ensures ∙ c.if-is_some.false) k.1 k.0.0 k.0.1
    k.2 refl
