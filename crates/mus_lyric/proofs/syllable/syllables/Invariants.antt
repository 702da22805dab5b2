use Rattle.std.proofs.Common.{◌≡◌, ◌++◌, [], length}
use Rattle.mus_lyric.specs.{Characters.characters, Syllables.after_run}
use Rattle.mus_lyric.proofs.syllable.syllables.Given as goal

abbrev pub invariant-characters : goal.invariant-characters
invariant-characters l = l.syls ++ after_run l.run (characters l.left) ≡ after_run [] (characters l.words)

abbrev pub decreases-characters : goal.decreases-characters
decreases-characters l = length l.left
