-- Rests. `raise` is 0 if a voice has a staff of its own.
use Rattle.std.specs.Prelude.{ℕ, zero, suc, ℤ, pos, ◌+◌, ◌*◌, ◌+ℤ◌, ◌-ℤ◌, List, [], ◌∷◌, ◌++◌}
use Rattle.mus_units.specs.declared.glyph.Glyph.{Glyph}
use Rattle.mus_units.specs.declared.value.Base.{Base}
use Rattle.mus_score.specs.declared.score.Look.{Look}
use Rattle.mus_laid.specs.declared.drawn.LaneInk.{LaneInk}
use Rattle.mus_ink.specs.declared.kinds.RestRow.{RestRow}
use Rattle.mus_ink.specs.Distances.{dot_side, dot_step, rest_dot_line, rest_step}
use Rattle.mus_ink.specs.Drawing.{cut_dy, glyph, steps_dy}
use Rattle.mus_ink.specs.Kinds.{rest_row}

unfoldable pub raised : ℤ → ℤ → ℤ
raised raise dy = cut_dy (dy +ℤ raise)

abbrev pub rest_dy : ℤ → RestRow → ℤ
rest_dy raise row = raised raise (steps_dy row.line)

-- a glyph for each flag, from the top downwards, starting with the k-th
unfoldable pub short_dy : ℤ → ℕ → ℤ
short_dy top k = cut_dy (top -ℤ pos (rest_step * k))

abbrev pub short_rests : Glyph → ℤ → ℕ → ℕ → List LaneInk
short_rests g top k zero = []
short_rests g top k (suc n) = glyph g (pos 0) (short_dy top k) ∷ short_rests g top (k + 1) n

abbrev pub rest_glyph : ℤ → RestRow → LaneInk
rest_glyph raise row = glyph row.glyph (pos 0) (rest_dy raise row)

abbrev pub rest_glyphs : ℤ → Base → ℕ → List LaneInk
rest_glyphs raise Base.Breve flags = rest_glyph raise (rest_row Base.Breve) ∷ []
rest_glyphs raise Base.Whole flags = rest_glyph raise (rest_row Base.Whole) ∷ []
rest_glyphs raise Base.Half flags = rest_glyph raise (rest_row Base.Half) ∷ []
rest_glyphs raise Base.Quarter flags = rest_glyph raise (rest_row Base.Quarter) ∷ []
rest_glyphs raise base flags = short_rests (rest_row base).glyph (rest_dy raise (rest_row base)) 0 flags

-- dots, starting with the k-th
abbrev pub rest_dots : ℤ → ℕ → ℕ → List LaneInk
rest_dots raise k zero = []
rest_dots raise k (suc n) =
    glyph Glyph.Dt (pos (dot_side + dot_step * k)) (raised raise (pos rest_dot_line)) ∷ rest_dots raise (k + 1) n

-- an unseen rest has an empty glyph; a rest of a whole measure is drawn as a whole rest, whatever its length
abbrev pub rest_marks : ℤ → Look → Base → ℕ → ℕ → List LaneInk
rest_marks raise Look.Unseen base dots flags = glyph Glyph.Nn (pos 0) (raised raise (pos 0)) ∷ []
rest_marks raise Look.Whole base dots flags = rest_glyph raise (rest_row Base.Whole) ∷ []
rest_marks raise Look.Seen base dots flags = rest_glyphs raise base flags ++ rest_dots raise 0 dots
