use Rattle.std.{proofs.Common.◌≡◌, proofs.Common.◌++◌, proofs.Common.length, specs.Option.option_map}
use Rattle.abc_field.specs.{Words.words_of, Keys.key_words}
use Rattle.abc_field.proofs.key.key_words.Given as goal

abbrev pub invariant-loop-word : goal.invariant-loop-word
invariant-loop-word l = option_map (λ ks. l.words ++ ks) (key_words (words_of l.rest)) ≡ key_words (words_of l.text)

abbrev pub decreases-loop-word : goal.decreases-loop-word
decreases-loop-word l = length (words_of l.rest)
