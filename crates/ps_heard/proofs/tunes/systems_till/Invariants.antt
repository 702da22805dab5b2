use Rattle.std.proofs.Common.{◌≡◌, ◌++◌, drop}
use Rattle.ps_heard.specs.Tunes.{systems_till}
use Rattle.ps_heard.proofs.tunes.systems_till.Given as goal

abbrev pub invariant-loop-shown : goal.invariant-loop-shown
invariant-loop-shown l = l.out ++ systems_till (drop l.shown-index l.items) ≡ systems_till l.items
