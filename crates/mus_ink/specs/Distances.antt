-- Named distances and heights in u. Heights are counted from the bottom line of a staff.
use Rattle.std.specs.Prelude.{ℕ}
pub use Rattle.mus_units.specs.Distances.{stem_side, grace_stem_side, tie_gap}

-- the greatest distance of a height from the bottom line
abbrev pub greatest_height : ℕ
greatest_height = 1073741824

-- the length of the stem of a grace above its highest head
abbrev pub grace_stem_length : ℕ
grace_stem_length = 1250

-- the first accidental before a grace, to the left of its column
abbrev pub grace_sign_side : ℕ
grace_sign_side = 600

-- from a flag, or a level of a beam, to the next one
abbrev pub level_step : ℕ
level_step = 375

-- decorations: the lowest height, that of the first above the top of its event, and from each to the next
abbrev pub deco_line : ℕ
deco_line = 2250

abbrev pub deco_gap : ℕ
deco_gap = 500

abbrev pub deco_step : ℕ
deco_step = 750

-- rests: from a part of a short rest down to the next, and its dots: the first, the next, and their height
abbrev pub rest_step : ℕ
rest_step = 500

abbrev pub dot_side : ℕ
dot_side = 600

abbrev pub dot_step : ℕ
dot_step = 250

abbrev pub rest_dot_line : ℕ
rest_dot_line = 1250

-- the head of a staff: its clef, its first entry or its meter, and from each entry to the next
abbrev pub clef_side : ℕ
clef_side = 200

abbrev pub signature_side : ℕ
signature_side = 1800

abbrev pub entry_step : ℕ
entry_step = 500

-- a change: what follows its clef, and its first entry after that
abbrev pub clef_width : ℕ
clef_width = 1300

abbrev pub entry_gap : ℕ
entry_gap = 250

-- a meter: its upper number, its lower one, and its sign
abbrev pub upper_number_line : ℕ
upper_number_line = 1000

abbrev pub lower_number_line : ℕ
lower_number_line = 0

abbrev pub meter_sign_line : ℕ
meter_sign_line = 500

-- texts: half the width of a small character, which is how far a text begins to the left of its column; from a verse
-- to the next, from a text to the next, and the first text above the highest mark
abbrev pub half_character : ℕ
half_character = 270

abbrev pub verse_step : ℕ
verse_step = 1000

abbrev pub text_step : ℕ
text_step = 1000

abbrev pub text_gap : ℕ
text_gap = 400

-- arcs: a slur above the tops of its events and how far it bulges, and the height of a slur or tie with both ends cut
abbrev pub slur_gap : ℕ
slur_gap = 400

abbrev pub slur_bulge : ℕ
slur_bulge = 700

abbrev pub cut_arc_line : ℕ
cut_arc_line = 2750
