use Rattle.std.proofs.Common.{◌≡◌, ◌++◌, drop, map}
use Rattle.lay_shared.specs.Drawn.{lower}
use Rattle.lay_shared.proofs.drawing.put_lower.Given as goal

abbrev pub invariant-loop-place : goal.invariant-loop-place
invariant-loop-place l =
    l.sits ++ map (lower l.leads) (drop l.place-index l.places) ≡ l.fn.sits ++ map (lower l.leads) l.places
