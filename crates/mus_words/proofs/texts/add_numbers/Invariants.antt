use Rattle.std.proofs.Common.{◌≡◌, ◌++◌, drop, flat_map}
use Rattle.mus_words.specs.Texts.{shown_number}
use Rattle.mus_words.proofs.texts.add_numbers.Given as goal

abbrev pub invariant-loop-number : goal.invariant-loop-number
invariant-loop-number l =
    l.out ++ flat_map shown_number (drop l.number-index l.tuplets) ≡ l.fn.out ++ flat_map shown_number l.tuplets
