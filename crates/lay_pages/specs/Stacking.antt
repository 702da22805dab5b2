-- The stacked staves of a system. Heights are counted from the top of the block, and are negative below it.
use Rattle.mus_laid.specs.Distances.{top_line}
use Rattle.std.specs.Prelude.{◌≡◌, ⊤, ℕ, suc, ◌+◌, ℤ, pos, negsuc, ◌+ℤ◌, ◌-ℤ◌, ◌≤ℤ◌, List, [], ◌∷◌}
use Rattle.mus_laid.specs.declared.laid.StaffMarks.{StaffMarks}

-- a staff covers at least its lines
abbrev pub AreGoodStaves : List StaffMarks → Type 0
AreGoodStaves [] = ⊤
AreGoodStaves (staff ∷ more) = ((staff.low ≤ℤ pos 0) × (pos top_line ≤ℤ staff.high)) × AreGoodStaves more

-- The first staff has its highest mark at the top; each next one has its highest mark under the lowest mark of the
-- one before, by the gap before it; and the bottom is the lowest mark of the last.
abbrev pub AreStavesStacked : ℤ → List ℕ → List StaffMarks → List ℤ → ℤ → Type 0
AreStavesStacked top [] [] [] bottom = bottom ≡ top
AreStavesStacked top [] (staff ∷ []) (base ∷ []) bottom = (base +ℤ staff.high ≡ top) × (bottom ≡ base +ℤ staff.low)
AreStavesStacked top (gap ∷ gaps) (staff ∷ next ∷ more) (base ∷ bases) bottom =
    (base +ℤ staff.high ≡ top) × AreStavesStacked ((base +ℤ staff.low) -ℤ pos gap) gaps (next ∷ more) bases bottom
AreStavesStacked top _ _ _ bottom = ⊥

-- The same in terms of how far each base line is below the top of the block.
abbrev pub above_base : ℤ → ℕ
above_base (pos n) = n
above_base (negsuc n) = 0

abbrev pub below_base : ℤ → ℕ
below_base (pos n) = 0
below_base (negsuc n) = suc n

abbrev pub under_top : ℕ → ℤ
under_top down = pos 0 -ℤ pos down

-- staves under one whose lowest mark is this far below the top
abbrev pub bases_after : ℕ → List StaffMarks → List ℕ → List ℤ
bases_after bottom [] gaps = []
bases_after bottom (staff ∷ more) [] = []
bases_after bottom (staff ∷ more) (gap ∷ gaps) =
    under_top (bottom + gap + above_base staff.high)
    ∷ bases_after (bottom + gap + above_base staff.high + below_base staff.low) more gaps

abbrev pub bases_under : List StaffMarks → List ℕ → List ℤ
bases_under [] gaps = []
bases_under (staff ∷ more) gaps =
    under_top (above_base staff.high) ∷ bases_after (above_base staff.high + below_base staff.low) more gaps

-- the lowest mark of the last staff
abbrev pub bottom_after : ℕ → List StaffMarks → List ℕ → ℕ
bottom_after bottom [] gaps = bottom
bottom_after bottom (staff ∷ more) [] = bottom
bottom_after bottom (staff ∷ more) (gap ∷ gaps) =
    bottom_after (bottom + gap + above_base staff.high + below_base staff.low) more gaps

abbrev pub bottom_under : List StaffMarks → List ℕ → ℕ
bottom_under [] gaps = 0
bottom_under (staff ∷ more) gaps = bottom_after (above_base staff.high + below_base staff.low) more gaps
