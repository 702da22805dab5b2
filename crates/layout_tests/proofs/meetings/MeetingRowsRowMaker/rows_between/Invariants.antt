use Rattle.std.proofs.Common.{◌≡◌, ◌-◌, ◌∷◌, []}
use Rattle.lay_rows.specs.Tables.{AreRowsOf}
use Rattle.layout_tests.proofs.meetings.MeetingRowsRowMaker.rows_between.Given as goal

abbrev pub invariant-loop-a : goal.invariant-loop-a
invariant-loop-a l = AreRowsOf (λ a row. row ≡ a ∷ []) l.from (l.a - l.from) l.rows
