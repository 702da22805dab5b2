use Rattle.std.{proofs.Common.◌≡◌, proofs.Common.◌++◌, proofs.Common.drop, specs.List.flat_map}
use Rattle.mus_drawn.proofs.sounds.say_graces.Given as goal

abbrev pub invariant-loop-grace : goal.invariant-loop-grace
invariant-loop-grace l =
    l.said ++ flat_map (λ g. g.heads) (drop l.grace-index l.graces) ≡ l.fn.said ++ flat_map (λ g. g.heads) l.graces
