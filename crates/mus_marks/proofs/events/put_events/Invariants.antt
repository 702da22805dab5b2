use Rattle.std.proofs.Common.{◌≡◌, ◌++◌, length}
use Rattle.mus_drawn.specs.Good.{AreGoodDrawn}
use Rattle.mus_bridges.specs.Ends.{ended_events, event_ended, over}
use Rattle.mus_slots.specs.Staff.{slots_laid}
use Rattle.mus_slots.specs.Voice.{events_slots}
use Rattle.mus_marks.proofs.events.put_events.Given as goal

abbrev pub invariant-loop-rest : goal.invariant-loop-rest
invariant-loop-rest l = record {
  marks : l.pen.marks
      ++ slots_laid l.keys l.words.place
      (events_slots l.words.first l.measure l.drawn l.group l.flags (over event_ended l.ends l.rest))
      ≡ l.fn.pen.marks
      ++ slots_laid l.keys l.words.place
      (events_slots l.words.first l.measure l.in_head 0 0 (ended_events l.events));
  good : AreGoodDrawn l.rest;
}

abbrev pub decreases-loop-rest : goal.decreases-loop-rest
decreases-loop-rest l = length l.rest
