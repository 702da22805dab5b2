use Rattle.std.proofs.Common.{◌≡◌, ◌+◌, ◌++◌, drop}
use Rattle.{mus_drawn.specs.Good.{AreGoodMeasures}, mus_time.specs.Columns.{measures_columns}}
use Rattle.mus_time.proofs.keys.put_measures.Given as goal

abbrev pub invariant-loop-d : goal.invariant-loop-d
invariant-loop-d l = record {
  keys : l.out ++ measures_columns l.lengths l.measure l.in_head (drop l.d-index l.measures)
      ≡ l.fn.out ++ measures_columns l.lengths l.a l.fn.in_head l.measures;
  good : AreGoodMeasures (drop l.d-index l.measures);
  measure : l.measure ≡ l.a + l.d-index;
}
