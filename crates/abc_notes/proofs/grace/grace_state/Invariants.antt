use Rattle.{std.proofs.Common.{length}, abc_notes.proofs.GraceLaws.{Group}}
use Rattle.abc_notes.proofs.grace.grace_state.Given as goal

abbrev pub invariant-parts : goal.invariant-parts
invariant-parts l = Group l.bang l.inside l.before l.rest

abbrev pub decreases-parts : goal.decreases-parts
decreases-parts l = length l.rest
