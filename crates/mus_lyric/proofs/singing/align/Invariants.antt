use Rattle.std.proofs.Common.{◌≡◌, ◌++◌, ◌+◌, ◌<◌, ◌^◌, drop}
use Rattle.mus_lyric.specs.Singing.{first_measure, sung_from}
use Rattle.mus_lyric.proofs.singing.align.Given as goal

abbrev pub invariant-syllables : goal.invariant-syllables
invariant-syllables l = record {
  sung : l.sung ++ sung_from (drop l.syl-index l.syls) l.count l.left
      ≡ sung_from l.syls (first_measure l.notes) l.notes;
  within : l.count < 2 ^ 32 + l.syl-index + 1;
}
