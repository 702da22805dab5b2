use Rattle.std.proofs.Common.{◌≡◌, ◌≤◌, map}
use Rattle.lay_spans.specs.Columns.{span_columns}
use Rattle.lay_spans.proofs.spans.columns_in.Given as goal

abbrev pub invariant-loop-m : goal.invariant-loop-m
invariant-loop-m g l =
    record {
      columns : map (λ s. s.column.now) l.seen ≡ span_columns l.measures.starts.now l.measures.others.now l.a
          l.m;
      past : l.a ≤ l.m;
    }
