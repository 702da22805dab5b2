-- How far the staves of a system keep from one another.
use Rattle.std.specs.Prelude.{⊤, ℕ, ℤ, pos, ◌+ℤ◌, ◌≤ℤ◌, List, [], ◌∷◌}
use Rattle.std.specs.List.{AllZip}
use Rattle.mus_score.specs.Seats.{usual_gap}
use Rattle.mus_laid.specs.declared.laid.StaffMarks.{StaffMarks}
use Rattle.mus_laid.specs.declared.laid.SystemMarks.{SystemMarks}
use Rattle.lay_pages.specs.declared.stacking.Heights.{Heights}

-- the highest mark of each staff is at least so far under the lowest mark of the staff above it
abbrev pub AreStavesApart : ℕ → List StaffMarks → List ℤ → Type 0
AreStavesApart gap (staff ∷ next ∷ staves) (base ∷ below ∷ bases) =
    (((below +ℤ next.high) +ℤ pos gap) ≤ℤ (base +ℤ staff.low)) × AreStavesApart gap (next ∷ staves) (below ∷ bases)
AreStavesApart gap _ _ = ⊤

-- in each system by at least the usual gap, which is 500
abbrev pub KeepStavesApart : List SystemMarks → List Heights → Type 0
KeepStavesApart systems heights = AllZip (λ m h. AreStavesApart usual_gap m.staves h.bases) systems heights
