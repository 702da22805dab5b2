use Rattle.{std.proofs.Common.{length}, abc_notes.proofs.InnerLaws.{Inside}}
use Rattle.abc_notes.proofs.chord.inside_state.Given as goal

abbrev pub invariant-parts : goal.invariant-parts
invariant-parts l = Inside l.bang l.inside l.head l.before l.rest

abbrev pub decreases-parts : goal.decreases-parts
decreases-parts l = length l.rest
