use Rattle.{std.proofs.Common.{length}, ps_tokens.proofs.Bodies.{BodyStage}}
use Rattle.ps_tokens.proofs.body.body.Given as goal

abbrev pub invariant-loop-here : goal.invariant-loop-here
invariant-loop-here l = BodyStage l.bytes l.tokens l.rest

abbrev pub decreases-loop-here : goal.decreases-loop-here
decreases-loop-here l = length l.rest
