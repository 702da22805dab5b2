use Rattle.std.proofs.Common.{◌≡◌, drop, map}
use Rattle.abc_notes.specs.Decorations.{is_one_of}
use Rattle.abc_notes.proofs.decoration.is_one_of.Given as goal

abbrev pub invariant-loop-word : goal.invariant-loop-word
invariant-loop-word l =
    is_one_of (map (λ word. word.now) (drop l.word-index l.words)) l.name
    ≡ is_one_of (map (λ word. word.now) l.words) l.name
