use Rattle.std.proofs.Common.{◌≡◌, ◌+◌, ◌++◌, drop}
use Rattle.lay_spans.specs.Rows.{row_spans}
use Rattle.lay_spans.proofs.rows.add_row.Given as goal

abbrev pub invariant-loop-force : goal.invariant-loop-force
invariant-loop-force l = record {
  bar : l.b ≡ l.a + l.force-index;
  spans : l.out ++ row_spans l.n l.a (l.b + 1) (drop l.force-index l.row)
      ≡ l.fn.out ++ row_spans l.n l.a (l.a + 1) l.row;
}
