use Rattle.std.proofs.Common.{◌≡◌, ◌++◌, [], take}
use Rattle.lay_cert.specs.{Lines.lines_then, Listing.potential_lines}
use Rattle.lay_cert.proofs.write.put_potentials.Given as goal

abbrev pub invariant-loop-least : goal.invariant-loop-least
invariant-loop-least l =
    (l.bar ≡ l.least-index) × (l.out ≡ l.fn.out ++ lines_then (potential_lines 0 (take l.least-index l.potentials)) [])
