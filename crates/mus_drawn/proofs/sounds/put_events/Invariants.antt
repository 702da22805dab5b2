use Rattle.std.proofs.Common.{◌≡◌, ◌++◌, [], drop}
use Rattle.mus_drawn.specs.{Drawn.staff_state_after, Hearing.events_sounds, Hearing.heard_after}
use Rattle.mus_drawn.proofs.sounds.put_events.Given as goal

abbrev pub invariant-loop-flat : goal.invariant-loop-flat
invariant-loop-flat l = record {
  sounds : l.out ++ events_sounds l.voice l.spread l.state.now l.said l.state.before (drop l.flat-index l.flats)
      ≡ l.fn.out ++ events_sounds l.voice l.spread l.fn.state.now [] l.fn.state.before l.flats;
  now : staff_state_after l.state.now (drop l.flat-index l.flats) ≡ staff_state_after l.fn.state.now l.flats;
  before : heard_after l.spread l.state.now l.said l.state.before (drop l.flat-index l.flats)
      ≡ heard_after l.spread l.fn.state.now [] l.fn.state.before l.flats;
}
