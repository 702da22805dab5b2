use Rattle.std.proofs.Common.{◌≡◌, ◌≤◌, ◌++◌, length, None}
use Rattle.abc_notes.specs.Chords.{heads_after, senses}
use Rattle.abc_notes.proofs.chord.read_heads.Given as goal

abbrev pub invariant-parts : goal.invariant-parts
invariant-parts l = record {
  heads : l.heads ++ heads_after l.last (senses l.bang l.rest) ≡ heads_after None (senses l.bang l.inside);
  within : length l.rest ≤ length l.inside;
}

abbrev pub decreases-parts : goal.decreases-parts
decreases-parts l = length l.rest
