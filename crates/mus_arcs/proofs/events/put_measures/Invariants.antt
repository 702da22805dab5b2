use Rattle.std.proofs.Common.{◌≡◌, ◌++◌, drop}
use Rattle.mus_arcs.specs.Events.{walked_from}
use Rattle.mus_arcs.proofs.events.put_measures.Given as goal

abbrev pub invariant-loop-number : goal.invariant-loop-number
invariant-loop-number l =
    l.events ++ walked_from l.number (drop l.number l.measures) ≡ l.fn.events ++ walked_from 0 l.measures
