-- The columns of accidentals. The written accidentals of an event are counted from the highest head down, at one
-- height in the order of the text. Each has a column of its own, one further left than the accidental before it.
use Rattle.std.specs.Prelude.{◌≡◌, ℕ, ◌+◌, ℤ, Bool, false, if◌then◌else◌, ⊤, List, [], ◌∷◌, length, slice_index_or}
use Rattle.std.specs.Prelude.{Option, Some, None}
use Rattle.mus_stems.specs.{declared.heads.HeadPosition.HeadPosition, Heads.Taken, Signs.sign_dx, Order.AreTaken}

-- the entry of a list in the order of the text for a head: the dx of its accidental, if it has one
abbrev pub sign_of_head : List (Option ℤ) → Taken → Option ℤ
sign_of_head xs t = slice_index_or xs t.place None

abbrev pub sign_where : ℤ → ℕ → Bool → Option ℤ
sign_where first k signed = if signed then Some (sign_dx first k) else None

-- heads taken one after another, after heads with k accidentals
abbrev pub SignedAfter : ℤ → List (Option ℤ) → ℕ → List Taken → Type 0
SignedAfter first xs k [] = ⊤
SignedAfter first xs k (t ∷ ts) =
    (sign_of_head xs t ≡ sign_where first k t.signed) × SignedAfter first xs (if t.signed then k + 1 else k) ts

-- the dx of the accidental of each head of an event, in the order of the text; the highest accidental is at `first`
pub record AreInColumns (first : ℤ) (ss : List HeadPosition) (xs : List (Option ℤ)) : Type 0 where
  pub each : length xs ≡ length ss
  pub order : List Taken
  pub taken : AreTaken false ss order
  pub signed : SignedAfter first xs 0 order
