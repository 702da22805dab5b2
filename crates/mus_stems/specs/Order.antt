-- The order in which the heads of an event are taken: from the lowest up if the stem goes up, from the highest down
-- if it goes down, and heads of one height in the order of the text.
use Rattle.std.specs.{Prelude.{◌≡◌, ℕ, ◌<◌, ◌<ℤ◌, ◌⊎◌, ⊤, Bool, List, [], ◌∷◌, slice_get, Some}, List.AllByRecursion}
use Rattle.mus_stems.specs.{declared.heads.HeadPosition.HeadPosition, Heads.Taken, Heads.level_of}

-- a head is taken before another if its level is less, or if the levels are equal and it is earlier in the text
abbrev pub IsBefore : Taken → Taken → Type 0
IsBefore a b = (a.level <ℤ b.level) ⊎ ((a.level ≡ b.level) × (a.place < b.place))

-- each head is taken before all that follow it
abbrev pub AreTakenInOrder : List Taken → Type 0
AreTakenInOrder [] = ⊤
AreTakenInOrder (t ∷ ts) = AllByRecursion (IsBefore t) ts × AreTakenInOrder ts

-- a head at its place in the text
abbrev pub head_at : Bool → ℕ → HeadPosition → Taken
head_at up k s = record { place = k; level = level_of up s.height; signed = s.signed }

abbrev pub IsHead : Bool → List HeadPosition → Taken → Type 0
IsHead up ss t = (s : HeadPosition) × (slice_get ss t.place ≡ Some s) × (head_at up t.place s ≡ t)

abbrev pub IsAmong : List Taken → Taken → Type 0
IsAmong [] t = ⊥
IsAmong (u ∷ us) t = (u ≡ t) ⊎ IsAmong us t

-- the heads of an event in the order in which they are taken: only heads of the event, and all of them
pub record AreTaken (up : Bool) (ss : List HeadPosition) (ts : List Taken) : Type 0 where
  pub order : AreTakenInOrder ts
  pub only : AllByRecursion (IsHead up ss) ts
  pub all : (k : ℕ) (s : HeadPosition) → slice_get ss k ≡ Some s → IsAmong ts (head_at up k s)
