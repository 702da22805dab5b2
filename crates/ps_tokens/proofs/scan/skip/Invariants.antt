use Rattle.std.proofs.Common.{◌≡◌, length, false}
use Rattle.ps_steps.specs.Tokens.{passed}
use Rattle.ps_tokens.proofs.scan.skip.Given as goal

abbrev pub invariant-loop-b : goal.invariant-loop-b
invariant-loop-b l = passed l.inside l.rest ≡ passed false l.bytes

abbrev pub decreases-loop-b : goal.decreases-loop-b
decreases-loop-b l = length l.rest
