use Rattle.std.proofs.Common.{◌≡◌, drop}
use Rattle.{mus_laid.specs.Ranked.{inked}, mus_ink.specs.Decos.{deco_marks}}
use Rattle.mus_ink.proofs.decos.put_decos.Given as goal

abbrev pub invariant-loop-deco : goal.invariant-loop-deco
invariant-loop-deco l =
    inked l.pen (deco_marks l.dy (drop l.deco-index l.decos)) ≡ inked l.fn.pen (deco_marks l.first l.decos)
