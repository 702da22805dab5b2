-- The distances of what is painted, in u.
use Rattle.std.specs.Prelude.{ℕ, ℤ, pos}

-- the width of lines
abbrev pub line_width : ℕ
line_width = 60

-- the heights of small and of big words
abbrev pub small_height : ℤ
small_height = pos 900

abbrev pub big_height : ℤ
big_height = pos 1600
