use Rattle.std.proofs.Common.{◌≡◌, ◌++◌, drop}
use Rattle.lay_reaches.specs.Widened.{bare_columns}
use Rattle.lay_reaches.proofs.system.bare_columns.Given as goal

abbrev pub invariant-loop-rank : goal.invariant-loop-rank
invariant-loop-rank l =
    l.out ++ bare_columns (drop l.rank l.keys) l.lengths l.lanes ≡ bare_columns l.keys l.lengths l.lanes
