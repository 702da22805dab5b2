use Rattle.std.proofs.Common.{◌≡◌, ◌++◌, ◌+◌, drop}
use Rattle.{mus_score.specs.Good.{total_ticks}, lay_shared.specs.Alike.{event_changes}}
use Rattle.lay_shared.proofs.changes.put_changes.Given as goal

abbrev pub invariant-loop-f : goal.invariant-loop-f
invariant-loop-f l = record {
  value : l.changes ++ event_changes l.measure l.tick (drop l.f-index l.flats)
      ≡ l.fn.changes ++ event_changes l.measure 0 l.flats;
  ticks : l.tick + total_ticks (drop l.f-index l.flats) ≡ total_ticks l.flats;
}
