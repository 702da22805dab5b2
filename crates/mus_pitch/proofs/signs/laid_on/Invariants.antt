use Rattle.std.proofs.Common.{◌≡◌, drop}
use Rattle.mus_pitch.specs.Signs.{laid}
use Rattle.mus_pitch.proofs.signs.laid_on.Given as goal

abbrev pub invariant-loop-add : goal.invariant-loop-add
invariant-loop-add l = laid l.items.items (drop l.add-index l.adds) ≡ laid l.signs l.adds
