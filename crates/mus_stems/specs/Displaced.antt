-- Displaced heads. The head that is taken first is at its stem. Each other head is displaced to the other side of the
-- stem exactly when it is at most one step past the head taken before it and that head is not displaced.
use Rattle.std.specs.Prelude.{◌≡◌, ℤ, pos, Bool, not, ◌&&◌, if◌then◌else◌, ⊤, List, [], ◌∷◌, length, slice_index_or}
use Rattle.std.specs.Ordering.{int_eq}
use Rattle.mus_stems.specs.declared.heads.HeadPosition.{HeadPosition}
use Rattle.mus_stems.specs.Heads.{Taken, is_step_past, head_shift}
use Rattle.mus_stems.specs.Order.{AreTaken}

-- the dx of a head in a list in the order of the text
abbrev pub dx_of : List ℤ → Taken → ℤ
dx_of xs t = slice_index_or xs t.place (pos 0)

abbrev pub is_displaced : List ℤ → Taken → Bool
is_displaced xs t = not (int_eq (dx_of xs t) (pos 0))

abbrev pub dx_where : Bool → Bool → ℤ
dx_where up displaced = if displaced then head_shift up else pos 0

-- heads taken one after another, the first after b
abbrev pub DisplacedAfter : Bool → List ℤ → Taken → List Taken → Type 0
DisplacedAfter up xs b [] = ⊤
DisplacedAfter up xs b (t ∷ ts) =
    (dx_of xs t ≡ dx_where up (is_step_past b.level t.level && not (is_displaced xs b))) × DisplacedAfter up xs t ts

abbrev pub Displaced : Bool → List ℤ → List Taken → Type 0
Displaced up xs [] = ⊤
Displaced up xs (t ∷ ts) = (dx_of xs t ≡ pos 0) × DisplacedAfter up xs t ts

-- the dx of each head of an event, in the order of the text
pub record AreDisplaced (up : Bool) (ss : List HeadPosition) (xs : List ℤ) : Type 0 where
  pub each : length xs ≡ length ss
  pub order : List Taken
  pub taken : AreTaken up ss order
  pub displaced : Displaced up xs order
