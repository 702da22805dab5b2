use Rattle.std.{proofs.Common.{◌≡◌, ◌++◌, ◌≤◌, length, map}, specs.List.All}
use Rattle.mus_score.specs.Seats.{grouped}
use Rattle.mus_drawn.specs.Good.{AreGoodMeasures}
use Rattle.mus_bridges.specs.Ends.{over, voice_ended}
use Rattle.mus_slots.specs.Words.{IsOrdered}
use Rattle.mus_marks.specs.Staff.{CoversLines, staff_marks, verses_on}
use Rattle.mus_marks.specs.System.{is_drawn_lower}
use Rattle.mus_marks.proofs.staves.staves.Given as goal

abbrev pub invariant-loop-rest : goal.invariant-loop-rest
invariant-loop-rest l = record {
  each : All (λ v. length v.measures ≡ length l.frame.lengths.now) l.rest;
  good : All (λ v. AreGoodMeasures v.measures) l.rest;
  verses : verses_on l.rest ≤ 128;
  ordered : All (IsOrdered l.frame.keys.now l.frame.lengths.now l.frame.a l.frame.b)
      (over (voice_ended l.frame.a) l.left l.rest);
  staves : l.staves
      ++ map (staff_marks l.frame.keys.now l.frame.lengths.now l.frame.a l.frame.b)
      (grouped is_drawn_lower (over (voice_ended l.frame.a) l.left l.rest))
      ≡ map (staff_marks l.frame.keys.now l.frame.lengths.now l.frame.a l.frame.b)
      (grouped is_drawn_lower (over (voice_ended l.frame.a) l.ends l.voices));
  lines : All CoversLines l.staves;
  shorter : length l.rest ≤ length l.voices;
}

abbrev pub decreases-loop-rest : goal.decreases-loop-rest
decreases-loop-rest l = length l.rest
