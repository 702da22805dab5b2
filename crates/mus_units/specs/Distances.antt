-- The distances that are known both to the drawing of a score and to those who read pages, in u. Heights are counted
-- from the bottom line of a staff.
use Rattle.std.specs.Prelude.{ℕ, ℤ, pos}

-- a step of the staff, from a line to the space above it
abbrev pub staff_step : ℤ
staff_step = pos 250

-- the lines of a staff above the bottom one
abbrev pub second_line : ℕ
second_line = 500

abbrev pub third_line : ℕ
third_line = 1000

abbrev pub fourth_line : ℕ
fourth_line = 1500

abbrev pub top_line : ℕ
top_line = 2000

-- the thickness of a beam, and how far a stem and that of a grace are from their column
abbrev pub beam_thickness : ℕ
beam_thickness = 250

abbrev pub stem_side : ℕ
stem_side = 280

abbrev pub grace_stem_side : ℕ
grace_stem_side = 190

-- from a head to its tie, which bulges as far
abbrev pub tie_gap : ℕ
tie_gap = 400
