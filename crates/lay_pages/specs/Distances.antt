-- The distances of pages, in u.
use Rattle.std.specs.Prelude.{ℕ, ◌^◌}

-- the greatest height of a block, and of a page that is filled evenly
abbrev pub tallest_block : ℕ
tallest_block = 2 ^ 40

abbrev pub tallest_page : ℕ
tallest_page = 2 ^ 26

-- what a page leaves free counts by this, and the tallest page leaves at most this many free
abbrev pub free_step : ℕ
free_step = 100

abbrev pub most_free : ℕ
most_free = 671089

-- between two blocks of a page
abbrev pub block_gap : ℕ
block_gap = 1500

-- a row of a title block: its height, and how far its base line is below its top
abbrev pub big_row : ℕ
big_row = 2400

abbrev pub small_row : ℕ
small_row = 1400

abbrev pub big_base : ℕ
big_base = 1800

abbrev pub small_base : ℕ
small_base = 1000
