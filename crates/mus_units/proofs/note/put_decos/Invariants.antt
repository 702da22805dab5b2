use Rattle.std.proofs.Common.{◌≡◌, ◌++◌, drop}
use Rattle.mus_units.proofs.note.put_decos.Given as goal

abbrev pub invariant-loop-deco : goal.invariant-loop-deco
invariant-loop-deco l = l.out ++ drop l.deco-index l.decos ≡ l.fn.out ++ l.decos
