use Rattle.std.proofs.Common.{◌≡◌, ◌+◌, ◌<◌, ◌≤◌, ℕ, length, map, slice_index, slice_index_or, true, false}
use Rattle.lay_springs.specs.Place.{reach_at, length_at, HasPlaced}
use Rattle.lay_spans.specs.Columns.{span_columns}
use Rattle.lay_spans.specs.SpanList.{FitsAtForce, HasForce}
use Rattle.lay_spans.proofs.rows.row_from.Given as goal

abbrev pub invariant-loop-m : goal.invariant-loop-m
invariant-loop-m g l = record {
  columns : map (λ s. s.column.now) l.seen ≡ span_columns l.measures.starts.now l.measures.others.now l.a l.m;
  count : l.a + length l.row ≡ l.m;
  each : (k : ℕ) → k < length l.row
      → HasForce g.C.Spaced.reach_of g.C.Spring.length_of l.measures.gaps.list.now l.maker.width l.measures.starts.now
      l.measures.others.now
      (λ b. slice_index_or l.marks b false) l.a (l.a + 1 + k) (slice_index l.row k);
  free : (f : ℕ) → l.a < f → f < l.m + 1 → slice_index_or l.marks f false ≡ true → ⊥;
  most : l.most ≤ 2048;
  room : length l.at.items ≡ length (span_columns l.measures.starts.now l.measures.others.now l.a l.m);
  placed : HasPlaced (length (span_columns l.measures.starts.now l.measures.others.now l.a l.m))
      (reach_at g.C.Spaced.reach_of (span_columns l.measures.starts.now l.measures.others.now l.a l.m))
      l.measures.gaps.list.now
      (length_at g.C.Spring.length_of (span_columns l.measures.starts.now l.measures.others.now l.a l.m)) l.placed
      l.at.items l.front;
  above : (f : ℕ) → l.most < f → f ≤ 2048
      → (l.a < l.m)
      × (FitsAtForce g.C.Spaced.reach_of g.C.Spring.length_of l.measures.gaps.list.now l.maker.width f
      (span_columns l.measures.starts.now l.measures.others.now l.a l.m)
      → ⊥);
}
