use Rattle.std.proofs.Common.{◌≡◌, ◌++◌, map, drop}
use Rattle.mus_arcs.specs.Events.{at_measure, events_in}
use Rattle.mus_arcs.proofs.events.+walk.Given as goal

abbrev pub invariant-put_nodes-loop-m : goal.invariant-put_nodes-loop-m
invariant-put_nodes-loop-m l =
    l.events ++ map (at_measure l.measure) (events_in (drop l.m-index l.body))
    ≡ l.fn.events ++ map (at_measure l.measure) (events_in l.body)
