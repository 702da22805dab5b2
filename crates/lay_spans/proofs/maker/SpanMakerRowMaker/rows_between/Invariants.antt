use Rattle.std.proofs.Common.{◌≡◌, ◌-◌, false, length, slice_index_or}
use Rattle.lay_rows.specs.Tables.{AreRowsOf}
use Rattle.lay_spans.specs.Rows.{IsRowFrom}
use Rattle.lay_spans.proofs.maker.SpanMakerRowMaker.rows_between.Given as goal

abbrev pub invariant-loop-a : goal.invariant-loop-a
invariant-loop-a g l = record {
  rows : AreRowsOf
      (λ a row.
      IsRowFrom g.C.Spaced.reach_of g.C.Spring.length_of l.self.measures.now.gaps.list.now l.self.width
      l.self.measures.now.starts.now l.self.measures.now.others.now
      (λ b. slice_index_or l.self.marks.now b false) a row) l.from (l.a - l.from) l.rows;
  one_each : length l.space.front.items ≡ length l.self.measures.now.gaps.list.now;
}
