use Rattle.std.proofs.Common.{◌≡◌, ◌++◌, drop, map}
use Rattle.mus_bridges.specs.Bridges.{beam_stem_at}
use Rattle.mus_bridges.specs.Ends.{ended_events, event_ended, over}
use Rattle.mus_bridges.proofs.stems.set_stems.Given as goal

abbrev pub invariant-loop-i : goal.invariant-loop-i
invariant-loop-i l =
    l.stems
    ++ map (beam_stem_at l.measure) (over event_ended (drop l.i l.events.ends.now) (drop l.i l.events.events.now))
    ≡ map (beam_stem_at l.measure) (ended_events l.events)
