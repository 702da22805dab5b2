use Rattle.std.proofs.Common.{◌≡◌, ◌-◌}
use Rattle.{mus_laid.specs.Ranked.{inked}, mus_ink.specs.Stems.{stub_marks}}
use Rattle.mus_ink.proofs.stems.put_stubs.Given as goal

abbrev pub invariant-loop-k : goal.invariant-loop-k
invariant-loop-k l =
    inked l.pen (stub_marks l.first l.up l.to l.k (l.flags - l.k))
    ≡ inked l.fn.pen (stub_marks l.first l.up l.to l.level (l.flags - l.level))
