-- Marks cover at least the lines of their staff.
use Rattle.mus_laid.specs.Distances.{top_line}
use Rattle.std.proofs.{Common.{ℤ, pos, ◌≤ℤ◌, List, [], ◌∷◌, arith}, lemmas.Int.{ints, clamps}}
use Rattle.mus_laid.specs.declared.boxes.HeightRange.{HeightRange}
use Rattle.mus_laid.specs.declared.laid.Laid.{Laid}
use Rattle.mus_laid.specs.Boxes.{heights, heights_of, over_marks, staff_heights, union_of_heights}
use Rattle.{mus_ink.specs.Drawing.{cut_dy}, mus_marks.specs.Staff.{CoversLines, staff_over}}

low_over : (z : ℤ) (h : HeightRange) (all : List Laid) → h.low ≤ℤ z → (over_marks h all).low ≤ℤ z
low_over z h [] p = p
low_over z h (laid ∷ more) p =
    low_over z (union_of_heights h (heights_of laid.mark)) more (omega (arith, ints, clamps, p))

high_over : (z : ℤ) (h : HeightRange) (all : List Laid) → z ≤ℤ h.high → z ≤ℤ (over_marks h all).high
high_over z h [] p = p
high_over z h (laid ∷ more) p =
    high_over z (union_of_heights h (heights_of laid.mark)) more (omega (arith, ints, clamps, p))

cut_low : (z : ℤ) → z ≤ℤ pos 0 → cut_dy z ≤ℤ pos 0
unfolding cut_dy
cut_low z p = omega (arith, ints, clamps, p)

cut_high : (z : ℤ) → pos top_line ≤ℤ z → pos top_line ≤ℤ cut_dy z
unfolding cut_dy
cut_high z p = omega (arith, ints, clamps, p)

pub covers : (all : List Laid) → CoversLines (staff_over all)
unfolding staff_over
covers all = (
  cut_low (staff_heights all).low (low_over (pos 0) (heights (pos 0) (pos top_line)) all (omega (arith, ints))),
  cut_high
      (staff_heights all).high
      (high_over (pos top_line) (heights (pos 0) (pos top_line)) all (omega (arith, ints))),
)
