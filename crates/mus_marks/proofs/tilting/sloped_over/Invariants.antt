use Rattle.std.proofs.Common.{◌≡◌, ◌+◌, ◌++◌, drop}
use Rattle.mus_marks.specs.Tilt.{AllCanTilt, sloped_over}
use Rattle.mus_marks.proofs.tilting.sloped_over.Given as goal

abbrev pub invariant-loop-d : goal.invariant-loop-d
invariant-loop-d l = record {
  ends : l.ends ++ sloped_over l.columns.keys.now l.columns.at.now l.measure (drop l.d-index l.measures)
      ≡ sloped_over l.columns.keys.now l.columns.at.now l.a l.measures;
  slopes : AllCanTilt l.columns.keys.now l.columns.at.now l.measure (drop l.d-index l.measures);
  measure : l.measure ≡ l.a + l.d-index;
}
