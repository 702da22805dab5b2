use Rattle.std.proofs.Common.{◌≡◌, ◌++◌, drop, length}
use Rattle.lay_spans.specs.Rows.{rows_spans}
use Rattle.lay_spans.proofs.rows.list_rows.Given as goal

abbrev pub invariant-loop-a : goal.invariant-loop-a
invariant-loop-a l = l.out ++ rows_spans (length l.rows) l.a (drop l.a l.rows) ≡ rows_spans (length l.rows) 0 l.rows
