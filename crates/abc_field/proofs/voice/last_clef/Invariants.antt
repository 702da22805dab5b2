use Rattle.std.{proofs.Common.◌≡◌, proofs.Common.drop, specs.Option.option_or}
use Rattle.abc_field.specs.{Last.last_of, Voices.clef_in}
use Rattle.abc_field.proofs.voice.last_clef.Given as goal

abbrev pub invariant-loop-word : goal.invariant-loop-word
invariant-loop-word l = option_or (last_of clef_in (drop l.word-index l.words)) l.last ≡ last_of clef_in l.words
