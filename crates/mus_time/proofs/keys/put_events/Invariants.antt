use Rattle.std.proofs.Common.{◌≡◌, ◌++◌, drop}
use Rattle.{mus_drawn.specs.Good.{AreGoodDrawn}, mus_time.specs.Columns.{events_columns}}
use Rattle.mus_time.proofs.keys.put_events.Given as goal

abbrev pub invariant-loop-e : goal.invariant-loop-e
invariant-loop-e l = record {
  keys : l.out ++ events_columns l.measure l.drawn (drop l.e-index l.events)
      ≡ l.fn.out ++ events_columns l.measure l.in_head l.events;
  good : AreGoodDrawn (drop l.e-index l.events);
}
