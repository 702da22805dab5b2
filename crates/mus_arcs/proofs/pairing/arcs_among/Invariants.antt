use Rattle.std.proofs.Common.{◌≡◌, drop, reverse}
use Rattle.mus_arcs.specs.Arcs.{arcs_of, open_ends}
use Rattle.mus_arcs.proofs.pairing.arcs_among.Given as goal

abbrev pub invariant-events : goal.invariant-events
invariant-events l = record {
  ends : reverse l.ends.items ≡ open_ends (drop l.i l.events);
  arcs : l.backwards.items ≡ reverse (arcs_of (drop l.i l.events));
}
