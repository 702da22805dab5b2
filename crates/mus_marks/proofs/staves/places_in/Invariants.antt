use Rattle.std.proofs.Common.{◌≡◌, ◌++◌, drop, map}
use Rattle.mus_marks.proofs.staves.places_in.Given as goal

abbrev pub invariant-loop-key : goal.invariant-loop-key
invariant-loop-key l = l.places ++ map (λ k. l.place) (drop l.key-index l.keys) ≡ map (λ k. l.place) l.keys
