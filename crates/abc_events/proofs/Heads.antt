-- Heads that nothing ties stay as they are.
use Rattle.std.proofs.Common.{◌≡◌, ◌∙◌, refl, ap, List, [], ◌∷◌, map, Bool, false}
use Rattle.std.proofs.Math.Bool.{or-false}
use Rattle.{mus_units.specs.declared.note.Head.{Head}, abc_signs.specs.Signs.{with_tie}}

abbrev tied_as : Head → Bool → Head
tied_as head tied = record head { tied = tied }

same_head : (head : Head) → with_tie false head ≡ head
same_head head = ap (tied_as head) (or-false head.tied)

pub untied : (heads : List Head) → map (with_tie false) heads ≡ heads
untied [] = refl
untied (h ∷ hs) = ap (λ x. x ∷ map (with_tie false) hs) (same_head h) ∙ ap (λ xs. h ∷ xs) (untied hs)
