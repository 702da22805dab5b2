-- The staves of a score: each begins at a voice that is not lower and includes the lower voices right after it.
use Rattle.std.specs.Prelude.{ℕ, Bool, true, false, if◌then◌else◌, List, [], ◌∷◌}
use Rattle.mus_score.specs.{declared.score.Seat.Seat, declared.score.Voice.Voice}

-- the distances between staves, in u: that of the first staff of an outermost group from what is above it, and all
-- others
abbrev pub wide_gap : ℕ
wide_gap = 1000

abbrev pub usual_gap : ℕ
usual_gap = 500

-- whether a voice is on the staff of the voice before it
abbrev pub is_lower : Seat → Bool
is_lower Seat.Lower = true
is_lower _ = false

module _ {A : Type 0} (joins : A → Bool) where
  -- an element before groups: in the first group, if the element that leads that group joins the one before it
  abbrev pub put_before : A → List (List A) → List (List A)
  put_before x [] = (x ∷ []) ∷ []
  put_before x ([] ∷ groups) = (x ∷ []) ∷ groups
  put_before x ((y ∷ ys) ∷ groups) = if joins y then (x ∷ y ∷ ys) ∷ groups else (x ∷ []) ∷ (y ∷ ys) ∷ groups

  -- a list in groups; each group but the first begins with an element that does not join the one before it
  abbrev pub grouped : List A → List (List A)
  grouped [] = []
  grouped (x ∷ xs) = put_before x (grouped xs)

abbrev pub stands_lower : Voice → Bool
stands_lower v = is_lower v.seat

-- the voices of each staff
abbrev pub staves_of : List Voice → List (List Voice)
staves_of voices = grouped stands_lower voices
