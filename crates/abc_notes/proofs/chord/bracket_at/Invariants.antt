use Rattle.{std.proofs.Common.{length, option_map}, abc_notes.proofs.ChordLaws.{Seeking}}
use Rattle.abc_notes.proofs.chord.bracket_at.Given as goal

abbrev pub invariant-parts : goal.invariant-parts
invariant-parts l = Seeking l.bang l.bytes l.head (option_map (λ x. x.now) l.last) l.rest

abbrev pub decreases-parts : goal.decreases-parts
decreases-parts l = length l.rest
