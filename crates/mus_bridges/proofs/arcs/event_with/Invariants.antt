use Rattle.std.{proofs.Common.◌≡◌, proofs.Common.drop, specs.List.find}
use Rattle.mus_bridges.specs.Arcs.{has_id}
use Rattle.mus_bridges.specs.Ends.{ended_events, event_ended, over}
use Rattle.mus_bridges.proofs.arcs.event_with.Given as goal

abbrev pub invariant-loop-i : goal.invariant-loop-i
invariant-loop-i l =
    find (has_id l.id) (over event_ended (drop l.i l.events.ends.now) (drop l.i l.events.events.now))
    ≡ find (has_id l.id) (ended_events l.events)
