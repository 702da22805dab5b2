-- The limits of a score.
use Rattle.std.specs.Prelude.{ℕ, ℤ, pos, negsuc}

-- the most notes, rests and note heads of a score, each head of a chord counted
abbrev pub head_limit : ℕ
head_limit = 50000

-- the most measures of a score
abbrev pub measure_limit : ℕ
measure_limit = 2000

-- note heads are at heights from 14 steps below the bottom line to 22 above it
abbrev pub lowest_head : ℤ
lowest_head = negsuc 13

abbrev pub highest_head : ℤ
highest_head = pos 22
