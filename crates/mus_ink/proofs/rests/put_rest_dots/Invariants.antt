use Rattle.std.proofs.Common.{◌≡◌, ◌-◌}
use Rattle.{mus_laid.specs.Ranked.{inked}, mus_ink.specs.Rests.{rest_dots}}
use Rattle.mus_ink.proofs.rests.put_rest_dots.Given as goal

abbrev pub invariant-loop-k : goal.invariant-loop-k
invariant-loop-k l = inked l.pen (rest_dots l.raise l.k (l.dots - l.k)) ≡ inked l.fn.pen (rest_dots l.raise 0 l.dots)
