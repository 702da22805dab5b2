-- The distances of what is drawn, in u. Heights are counted from the bottom line of a staff.
use Rattle.std.specs.Prelude.{ℕ}
pub use Rattle.mus_units.specs.Distances.{top_line, beam_thickness}

-- the width of a character, and how far a line of text goes below and above its base
abbrev pub small_width : ℕ
small_width = 540

abbrev pub big_width : ℕ
big_width = 960

abbrev pub small_below : ℕ
small_below = 270

abbrev pub big_below : ℕ
big_below = 480

abbrev pub small_above : ℕ
small_above = 720

abbrev pub big_above : ℕ
big_above = 1280
