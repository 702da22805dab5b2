-- What is drawn in a column, with its lane: a glyph, a text of big characters, a stem; and a beam from one column to
-- another. The positions of the columns are not determined here.
use Rattle.std.specs.Prelude.{ℕ, ℤ, pos, ◌*ℤ◌, ◌-ℤ◌, List}
use Rattle.std.specs.Int.{int_min, int_max}
use Rattle.mus_units.specs.Distances.{staff_step}
use Rattle.mus_units.specs.declared.glyph.Glyph.{Glyph}
use Rattle.mus_units.specs.declared.glyph.Way.{Way}
use Rattle.mus_units.specs.declared.glyph.Size.{Size}
use Rattle.mus_onsets.specs.declared.keys.ColumnKey.{ColumnKey}
use Rattle.mus_laid.specs.declared.drawn.Ink.{Ink}
use Rattle.mus_laid.specs.declared.drawn.LaneInk.{LaneInk}
use Rattle.mus_laid.specs.declared.drawn.Bridge.{Bridge}
use Rattle.mus_laid.specs.declared.drawn.BridgeShape.{BridgeShape}
use Rattle.mus_laid.specs.declared.laid.Lane.{Lane}
use Rattle.mus_ink.specs.Distances.{greatest_height}

-- to the left of a column, or down
abbrev pub back : ℕ → ℤ
back n = pos 0 -ℤ pos n

-- a dy is clamped to ±2^30
unfoldable pub cut_dy : ℤ → ℤ
cut_dy z = int_max (int_min z (pos greatest_height)) (back greatest_height)

-- the dy of a height in steps
unfoldable pub steps_dy : ℤ → ℤ
steps_dy z = cut_dy (staff_step *ℤ z)

abbrev pub glyph : Glyph → ℤ → ℤ → LaneInk
glyph g dx dy = record { ink = Ink.Glyph g dx dy; lane = Lane.Main }

-- a glyph that no lane keeps apart
abbrev pub loose_glyph : Glyph → ℤ → ℤ → LaneInk
loose_glyph g dx dy = record { ink = Ink.Glyph g dx dy; lane = Lane.Loose }

abbrev pub big_text : ℤ → ℤ → List ℕ → LaneInk
big_text dx dy text = record { ink = Ink.Words Size.Big dx dy text; lane = Lane.Main }

abbrev pub stem : ℤ → ℤ → ℤ → LaneInk
stem dx from to = record { ink = Ink.Stem dx from to; lane = Lane.Loose }

abbrev pub beam : Way → ColumnKey → ColumnKey → ℤ → ℤ → Bridge
beam way first last from to = record { first = first; last = last; span = BridgeShape.Beam way from to }
