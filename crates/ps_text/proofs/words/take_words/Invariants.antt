use Rattle.std.{proofs.Common.{◌≡◌, ℕ, ◌++◌, ◌∷◌, List, length, IsTrue}, specs.List.{flat_map, list_all}}
use Rattle.ps_text.{specs.Fields.shown, specs.Range.is_shown, proofs.Taken.WordsLeft}
use Rattle.ps_text.proofs.words.take_words.Given as goal

abbrev pub invariant-loop-b : goal.invariant-loop-b
invariant-loop-b l =
    (words : List ℕ) (tail : List ℕ)
    → IsTrue (list_all is_shown words) → l.bytes ≡ flat_map shown words ++ 41 ∷ tail
    → WordsLeft l.text l.rest words tail

abbrev pub decreases-loop-b : goal.decreases-loop-b
decreases-loop-b l = length l.rest
