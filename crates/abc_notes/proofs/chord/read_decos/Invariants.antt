use Rattle.std.proofs.Common.{◌≡◌, ◌≤◌, ◌++◌, length}
use Rattle.abc_notes.specs.Chords.{decos_of, senses}
use Rattle.abc_notes.proofs.chord.read_decos.Given as goal

abbrev pub invariant-parts : goal.invariant-parts
invariant-parts l = record {
  decos : l.decos ++ decos_of (senses l.bang l.rest) ≡ decos_of (senses l.bang l.inside);
  within : length l.rest ≤ length l.inside;
}

abbrev pub decreases-parts : goal.decreases-parts
decreases-parts l = length l.rest
