use Rattle.{std.proofs.Common.{length}, ps_tokens.proofs.Words.{WordsStage}}
use Rattle.ps_tokens.proofs.string.string.Given as goal

abbrev pub invariant-loop-b : goal.invariant-loop-b
invariant-loop-b l = WordsStage l.bytes l.words l.rest

abbrev pub decreases-loop-b : goal.decreases-loop-b
decreases-loop-b l = length l.rest
