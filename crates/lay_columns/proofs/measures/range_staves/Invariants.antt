use Rattle.std.{proofs.Common.{◌≡◌, ◌≤◌, ◌++◌, length, map}, specs.List.All}
use Rattle.mus_score.specs.Seats.{grouped}
use Rattle.mus_drawn.specs.Good.{AreGoodMeasures}
use Rattle.mus_marks.specs.Staff.{verses_on}
use Rattle.mus_marks.specs.System.{is_drawn_lower}
use Rattle.lay_columns.specs.Measures.{range_staff}
use Rattle.lay_columns.proofs.measures.range_staves.Given as goal

abbrev pub invariant-staves : goal.invariant-staves
invariant-staves l = record {
  staves : l.staves
      ++ map (range_staff l.begins l.frame.keys.now l.frame.lengths.now l.frame.a l.frame.b)
      (grouped is_drawn_lower l.rest)
      ≡ map (range_staff l.begins l.frame.keys.now l.frame.lengths.now l.frame.a l.frame.b)
      (grouped is_drawn_lower l.voices);
  each : All (λ v. length v.measures ≡ length l.frame.lengths.now) l.rest;
  good : All (λ v. AreGoodMeasures v.measures) l.rest;
  verses : verses_on l.rest ≤ 128;
  shorter : length l.rest ≤ length l.voices;
}

abbrev pub decreases-staves : goal.decreases-staves
decreases-staves l = length l.rest
