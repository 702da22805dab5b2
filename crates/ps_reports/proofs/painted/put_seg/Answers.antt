use Rattle.{std.proofs.Common.{arith}, ps_text.proofs.Signs.{as_passed}}
use Rattle.ps_reports.proofs.painted.put_seg.Goals as goal

pub returns-in-Curve : goal.returns-in-Curve
returns-in-Curve c = grind (arith, as_passed)
