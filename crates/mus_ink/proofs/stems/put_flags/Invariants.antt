use Rattle.std.proofs.Common.{◌≡◌, ◌-◌}
use Rattle.{mus_laid.specs.Ranked.{inked}, mus_ink.specs.Stems.{flag_marks}}
use Rattle.mus_ink.proofs.stems.put_flags.Given as goal

abbrev pub invariant-loop-k : goal.invariant-loop-k
invariant-loop-k l =
    inked l.pen (flag_marks l.up l.to l.k (l.flags - l.k)) ≡ inked l.fn.pen (flag_marks l.up l.to 0 l.flags)
