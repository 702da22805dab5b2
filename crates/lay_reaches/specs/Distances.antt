-- The distances of columns, in u.
use Rattle.std.specs.Prelude.{ℕ}

-- the natural length of the spring after a note: of two whole notes or more, of at least a whole note, and so on
abbrev pub breve_length : ℕ
breve_length = 4000

abbrev pub whole_length : ℕ
whole_length = 2900

abbrev pub half_length : ℕ
half_length = 2100

abbrev pub quarter_length : ℕ
quarter_length = 1500

abbrev pub eighth_length : ℕ
eighth_length = 1100

abbrev pub length_of_16th : ℕ
length_of_16th = 850

abbrev pub length_of_32nd : ℕ
length_of_32nd = 700

abbrev pub length_of_64th : ℕ
length_of_64th = 600

-- that after a shorter note, which is the least, and the greatest of all
abbrev pub least_length : ℕ
least_length = 500

abbrev pub most_length : ℕ
most_length = breve_length

-- the gap that columns keep in the main lane of a staff, and in each other lane
abbrev pub main_gap : ℕ
main_gap = 100

abbrev pub other_gap : ℕ
other_gap = 300
