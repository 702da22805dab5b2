use Rattle.std.proofs.Common.{◌≡◌, ◌++◌, reverse}
use Rattle.mus_arcs.specs.Arcs.{slur_copies}
use Rattle.mus_arcs.proofs.pairing.put_ends.Given as goal

abbrev pub invariant-times : goal.invariant-times
invariant-times l = reverse l.ends.items ≡ slur_copies l._n l.at ++ reverse l.fn.ends.items
