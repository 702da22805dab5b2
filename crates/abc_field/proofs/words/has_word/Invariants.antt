use Rattle.std.{proofs.Common.◌≡◌, proofs.Common.length, specs.List.list_any, specs.Str.bytes_eq}
use Rattle.abc_field.specs.Words.{words_of}
use Rattle.abc_field.proofs.words.has_word.Given as goal

abbrev pub invariant-loop-next : goal.invariant-loop-next
invariant-loop-next l =
    list_any (λ w. bytes_eq w l.word) (words_of l.rest) ≡ list_any (λ w. bytes_eq w l.word) (words_of l.text)

abbrev pub decreases-loop-next : goal.decreases-loop-next
decreases-loop-next l = length (words_of l.rest)
