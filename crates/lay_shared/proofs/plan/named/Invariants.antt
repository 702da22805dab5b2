use Rattle.std.proofs.Common.{◌≡◌, ◌++◌, drop}
use Rattle.lay_shared.specs.Plans.{named}
use Rattle.lay_shared.proofs.plan.named.Given as goal

abbrev pub invariant-loop-sign : goal.invariant-loop-sign
invariant-loop-sign l = l.voices ++ named (drop l.sign-index l.signs) ≡ named l.signs
