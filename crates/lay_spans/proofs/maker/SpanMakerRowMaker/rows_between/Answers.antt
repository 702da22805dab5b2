use Rattle.std.proofs.Common.{◌-◌, ◌+◌, ◌++◌, ◌∷◌, ℕ, [], List, false, slice_index_or}
use Rattle.lay_rows.specs.Tables.{AreRowsOf, rows_more}
use Rattle.lay_spans.specs.Rows.{IsRowFrom}
use Rattle.lay_spans.proofs.maker.SpanMakerRowMaker.rows_between.Goals as goal
use Rattle.lay_spans.proofs.maker.SpanMakerRowMaker.rows_between.Goals.{In_ok-push}

module _ (g : _) (c : In_ok-push g) where
  abbrev IsRow : ℕ → List ℕ → Type 0
  IsRow a row =
      IsRowFrom g.C.Spaced.reach_of g.C.Spring.length_of c.args.self.now.measures.now.gaps.list.now
      c.args.self.now.width c.args.self.now.measures.now.starts.now c.args.self.now.measures.now.others.now
      (λ b. slice_index_or c.args.self.now.marks.now b false) a row

  more : AreRowsOf IsRow c.args.from (c.loop-a.a + 1 - c.args.from) (c.loop-a.rows ++ c.in_ok-row.row ∷ [])
  more =
      rows_more IsRow c.args.from c.loop-a.a c.loop-a.rows c.in_ok-row.row c.loop-a.auto.a
      c.loop-a.invariant.rows c.in_ok-row.ensures.row

pub loop-a-preserved : goal.loop-a-preserved
loop-a-preserved g c =
    record { rows = rw (c.in_ok-push.ensures.ok) (more g c); one_each = c.in_ok-row.ensures.one_each }
