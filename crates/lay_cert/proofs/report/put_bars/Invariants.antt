use Rattle.std.proofs.Common.{◌≡◌, ◌++◌, take}
use Rattle.lay_cert.specs.Reports.{bars_text}
use Rattle.lay_cert.proofs.report.put_bars.Given as goal

abbrev pub invariant-loop-bar : goal.invariant-loop-bar
invariant-loop-bar l = l.out ≡ l.fn.out ++ bars_text (take l.bar-index l.bars)
