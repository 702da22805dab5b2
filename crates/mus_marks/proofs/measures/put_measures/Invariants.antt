use Rattle.std.proofs.Common.{◌≡◌, ◌+◌, ◌++◌, drop}
use Rattle.mus_drawn.specs.Good.{AreGoodMeasures}
use Rattle.mus_bridges.specs.Ends.{measure_ended, over}
use Rattle.mus_slots.specs.Staff.{slots_laid}
use Rattle.mus_slots.specs.Voice.{measures_slots}
use Rattle.mus_marks.proofs.measures.put_measures.Given as goal

abbrev pub invariant-loop-i : goal.invariant-loop-i
invariant-loop-i l = record {
  marks : l.pen.marks
      ++ slots_laid l.frame.keys.now l.words.place
      (measures_slots l.words.first l.frame.lengths.now l.measure l.in_head
      (over measure_ended (drop l.i l.ends) (drop l.i l.measures)))
      ≡ l.fn.pen.marks
      ++ slots_laid l.frame.keys.now l.words.place
      (measures_slots l.words.first l.frame.lengths.now l.frame.a l.fn.in_head (over measure_ended l.ends l.measures));
  good : AreGoodMeasures (drop l.i l.measures);
  measure : l.measure ≡ l.frame.a + l.i;
}
