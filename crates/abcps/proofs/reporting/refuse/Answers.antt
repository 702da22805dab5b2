use Rattle.{std.proofs.Common.{inr, subst, rules}, abcps.specs.Outcome.{ReportsLine}}
use Rattle.abcps.proofs.reporting.refuse.Goals as goal

pub returns : goal.returns
returns g c = inr (c.status.ensures, subst (ReportsLine _) (search rules) c.report.ensures)
