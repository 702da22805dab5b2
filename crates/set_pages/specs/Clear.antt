-- How staves of a system keep apart.
use Rattle.std.specs.Prelude.{⊤, ℕ, ℤ, pos, ◌+ℤ◌, ◌-ℤ◌, ◌≤ℤ◌, List, [], ◌∷◌}
use Rattle.mus_laid.specs.declared.laid.StaffMarks.{StaffMarks}

-- everything on a staff lies between two heights
pub record LieBetween (low high : ℤ) (base : ℤ) (s : StaffMarks) : Type 0 where
  pub above : low ≤ℤ (base +ℤ s.low)
  pub below : (base +ℤ s.high) ≤ℤ high

-- Staves from a height down, whose lowest lines have these heights on the page: each at least as far under the one
-- before it as the score's gap for it says.
abbrev pub AreUnder : ℤ → List ℕ → List StaffMarks → List ℤ → Type 0
AreUnder high [] [] bases = ⊤
AreUnder high [] (s ∷ []) (b ∷ []) = LieBetween (pos 0) high b s
AreUnder high (gap ∷ gaps) (s ∷ next ∷ staves) (b ∷ bases) =
    LieBetween (pos 0) high b s × AreUnder ((b +ℤ s.low) -ℤ pos gap) gaps (next ∷ staves) bases
AreUnder high _ _ _ = ⊥
