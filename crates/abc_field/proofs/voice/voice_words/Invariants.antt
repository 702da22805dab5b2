use Rattle.std.{proofs.Common.◌≡◌, proofs.Common.◌++◌, proofs.Common.length, specs.Option.option_map}
use Rattle.abc_field.specs.{Words.properties_of, Voices.voice_words}
use Rattle.abc_field.proofs.voice.voice_words.Given as goal

abbrev pub invariant-loop-word : goal.invariant-loop-word
invariant-loop-word l =
    option_map (λ ks. l.words ++ ks) (voice_words (properties_of l.rest)) ≡ voice_words (properties_of l.text)

abbrev pub decreases-loop-word : goal.decreases-loop-word
decreases-loop-word l = length (properties_of l.rest)
