use Rattle.{std.proofs.Common.{length, false}, ps_steps.specs.Tokens.{passed}, ps_tokens.proofs.Programs.{ProgramStage}}
use Rattle.ps_tokens.proofs.program.read_program.Given as goal

abbrev pub invariant-loop-rest : goal.invariant-loop-rest
invariant-loop-rest l = ProgramStage (passed false l.bytes) l.tokens l.rest

abbrev pub decreases-loop-rest : goal.decreases-loop-rest
decreases-loop-rest l = length l.rest
