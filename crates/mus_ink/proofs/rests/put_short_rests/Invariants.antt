use Rattle.std.proofs.Common.{◌≡◌, ◌-◌}
use Rattle.{mus_laid.specs.Ranked.{inked}, mus_ink.specs.Rests.{short_rests}}
use Rattle.mus_ink.proofs.rests.put_short_rests.Given as goal

abbrev pub invariant-loop-k : goal.invariant-loop-k
invariant-loop-k l =
    inked l.pen (short_rests l.sort l.top l.k (l.flags - l.k)) ≡ inked l.fn.pen (short_rests l.sort l.top 0 l.flags)
