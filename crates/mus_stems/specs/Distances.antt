-- The distances at which stems, heads, accidentals, dots and ledger lines are drawn, in u: to the right of their
-- column, or above the bottom line of the staff.
use Rattle.std.specs.Prelude.{ℕ, ℤ, pos, negsuc}

-- the middle line, four steps up
abbrev pub middle_line : ℤ
middle_line = pos 1000

-- a stem goes seven steps past its last head
abbrev pub stem_length : ℤ
stem_length = pos 1750

-- a displaced head is beside the others of its event, to the right or to the left
abbrev pub right_of_stem : ℤ
right_of_stem = pos 560

abbrev pub left_of_stem : ℤ
left_of_stem = negsuc 559

-- the first column of accidentals, the same past a head left of the stem, and the distance between columns; the first
-- column is never further left than the limit, which is one u past the outer one
abbrev pub sign_column : ℤ
sign_column = negsuc 749

abbrev pub outer_sign_column : ℤ
outer_sign_column = negsuc 1309

abbrev pub sign_column_limit : ℤ
sign_column_limit = negsuc 1310

abbrev pub between_columns : ℕ
between_columns = 500

-- the first dot, the same past a head right of the stem, and the distance between dots
abbrev pub dot_column : ℤ
dot_column = pos 600

abbrev pub outer_dot_column : ℤ
outer_dot_column = pos 1160

abbrev pub between_dots : ℕ
between_dots = 250

-- the first ledger line below the staff and the first above it, and the distance between ledger lines
abbrev pub first_below : ℤ
first_below = negsuc 499

abbrev pub first_above : ℤ
first_above = pos 2500

abbrev pub between_lines : ℕ
between_lines = 500

-- the most that a beam climbs or falls
abbrev pub steepest_climb : ℕ
steepest_climb = 500

abbrev pub steepest : ℤ
steepest = pos steepest_climb

abbrev pub steepest_down : ℤ
steepest_down = negsuc 499

-- the least and the greatest end of a stem: those of the lowest and the highest head
abbrev pub least_end : ℤ
least_end = negsuc 5249

abbrev pub greatest_end : ℤ
greatest_end = pos 7250

-- the least and the greatest base of a beam: a stem's end less the most that a beam climbs or falls
abbrev pub least_base : ℤ
least_base = negsuc 5749

abbrev pub greatest_base : ℤ
greatest_base = pos 7750

-- the lowest level of a head, and the number of levels, in steps: upwards a head's level is its height, downwards the
-- negative of that
abbrev pub lowest_level : ℤ
lowest_level = negsuc 21

abbrev pub level_count : ℕ
level_count = 45
