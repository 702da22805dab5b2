use Rattle.std.proofs.Common.{◌≡◌, ◌++◌, map, drop}
use Rattle.mus_score.proofs.times.put_graces.Given as goal

abbrev pub invariant-loop-f : goal.invariant-loop-f
invariant-loop-f l = l.graces ++ map (λ f. f.event) (drop l.f-index l.flats) ≡ l.fn.graces ++ map (λ f. f.event) l.flats
