use Rattle.std.proofs.Common.{◌≡◌, ◌++◌, drop, reverse}
use Rattle.mus_arcs.specs.Arcs.{ties_from}
use Rattle.mus_arcs.proofs.pairing.put_ties.Given as goal

abbrev pub invariant-heads : goal.invariant-heads
invariant-heads l =
    l.backwards.items ≡ l.fn.backwards.items ++ reverse (ties_from l.event l.place (drop l.place l.heads) l.next)
