-- A bar: its body by its features, then the dots of a repeat before it and after it.
use Rattle.std.specs.Prelude.{pos, Bool, true, false, ◌&&◌, ◌||◌, if◌then◌else◌, List, [], ◌∷◌, ◌++◌}
use Rattle.mus_units.specs.declared.glyph.Glyph.{Glyph}
use Rattle.mus_units.specs.declared.note.Bar.{Bar}
use Rattle.mus_laid.specs.declared.drawn.LaneInk.{LaneInk}
use Rattle.mus_ink.specs.Drawing.{glyph}

-- a bar that ends something is thick on the left, one that begins something on the right; then come double, dotted
-- and unseen bars
unfoldable pub bar_glyph : Bar → Glyph
bar_glyph b =
    let left = b.end || b.last in let right = b.start || b.initial in
    if left && right then Glyph.Bb else if left then Glyph.Bf else if right then Glyph.Bi
    else if b.double then Glyph.Bw else if b.dotted then Glyph.Bo else if b.unseen then Glyph.Nn else Glyph.Bt

abbrev pub glyph_if : Bool → Glyph → List LaneInk
glyph_if true g = glyph g (pos 0) (pos 0) ∷ []
glyph_if false g = []

unfoldable pub bar_marks : Bar → List LaneInk
bar_marks b = glyph (bar_glyph b) (pos 0) (pos 0) ∷ glyph_if b.end Glyph.Dl ++ glyph_if b.start Glyph.Dr
