use Rattle.std.proofs.Common.{◌≡◌, drop}
use Rattle.ps_heard.specs.Ear.{hear_columns}
use Rattle.ps_heard.proofs.ear.hear_columns.Given as goal

abbrev pub invariant-loop-col : goal.invariant-loop-col
invariant-loop-col l =
    hear_columns l.spread l.ear (drop l.col-index l.columns) ≡ hear_columns l.spread l.fn.ear l.columns
