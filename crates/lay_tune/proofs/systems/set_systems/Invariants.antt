use Rattle.std.{proofs.Common.{◌++◌, List, drop}, specs.List.{All, AllZip}}
use Rattle.mus_laid.specs.declared.laid.SystemMarks.{SystemMarks}
use Rattle.mus_laid.specs.Boxes.{AreGoodMarks}
use Rattle.lay_springs.specs.declared.margin.Placed.{Placed}
use Rattle.lay_tune.specs.Systems.{AllSpans, CanBeSet, EachSpan, IsSetSystem, IsStack}
use Rattle.lay_tune.proofs.systems.set_systems.Given as goal

abbrev pub invariant-loop-b : goal.invariant-loop-b
invariant-loop-b l = record {
  systems : (more : List SystemMarks) (at : List Placed)
      → EachSpan (IsSetSystem l.measured.drawn.score.now l.measured.width) l.a (drop l.b-index l.breaks) more at
      → EachSpan (IsSetSystem l.measured.drawn.score.now l.measured.width) 0 l.breaks (l.marks ++ more)
      (l.placed ++ at);
  heights : AllZip (IsStack l.measured.drawn.score.now) l.marks l.heights;
  good : All (λ m. All (λ staff. AreGoodMarks staff.marks) m.staves) l.marks;
  fits : AllSpans (CanBeSet l.measured.drawn.score.now l.measured.width l.rows.rows) l.a (drop l.b-index l.breaks);
}
