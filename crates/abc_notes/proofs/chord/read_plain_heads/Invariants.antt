use Rattle.std.proofs.Common.{◌≡◌, ◌≤◌, ◌++◌, length}
use Rattle.abc_notes.specs.{Chords.senses, Graces.heads_in}
use Rattle.abc_notes.proofs.chord.read_plain_heads.Given as goal

abbrev pub invariant-parts : goal.invariant-parts
invariant-parts l = record {
  heads : l.heads ++ heads_in (senses l.bang l.rest) ≡ heads_in (senses l.bang l.inside);
  within : length l.rest ≤ length l.inside;
}

abbrev pub decreases-parts : goal.decreases-parts
decreases-parts l = length l.rest
