use Rattle.std.proofs.Common.{◌≡◌, ◌≤◌, ◌++◌, length, map}
use Rattle.{mus_score.specs.Seats.{grouped}, mus_marks.specs.{Staff.verses_on, System.is_drawn_lower}}
use Rattle.lay_columns.proofs.staves.staff_verses.Given as goal

abbrev pub invariant-staves : goal.invariant-staves
invariant-staves l = record {
  verses : l.verses ++ map verses_on (grouped is_drawn_lower l.rest)
      ≡ map verses_on (grouped is_drawn_lower l.drawn.voices.now);
  few : verses_on l.rest ≤ 128;
  shorter : length l.rest ≤ length l.drawn.voices.now;
}

abbrev pub decreases-staves : goal.decreases-staves
decreases-staves l = length l.rest
