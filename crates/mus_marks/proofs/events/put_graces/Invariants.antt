use Rattle.std.proofs.Common.{◌≡◌, ◌++◌, None, drop}
use Rattle.mus_drawn.specs.Good.{AllCanGrace}
use Rattle.mus_slots.specs.Staff.{slots_laid}
use Rattle.mus_slots.specs.Voice.{grace_slots, group_slots}
use Rattle.mus_marks.proofs.events.put_graces.Given as goal

abbrev pub invariant-loop-i : goal.invariant-loop-i
invariant-loop-i l = record {
  marks : l.pen.marks
      ++ slots_laid l.keys None (grace_slots l.measure l.e.tick l.e.clef l.group l.i (drop l.i l.graces))
      ≡ l.fn.pen.marks ++ slots_laid l.keys None (group_slots l.measure l.e);
  good : AllCanGrace l.e.clef (drop l.i l.graces);
}
