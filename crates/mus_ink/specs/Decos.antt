-- The top of an event, its decorations, and all marks of an event except its syllables and texts.
use Rattle.mus_laid.specs.Distances.{top_line}
use Rattle.std.specs.Prelude.{ℕ, ℤ, pos, ◌+ℤ◌, Bool, true, false, List, [], ◌∷◌, ◌++◌, Option, Some, None}
use Rattle.std.specs.Int.{int_max}
use Rattle.mus_units.specs.declared.glyph.Glyph.{Glyph}
use Rattle.mus_units.specs.declared.pitch.Clef.{Clef}
use Rattle.mus_units.specs.declared.note.Head.{Head}
use Rattle.mus_units.specs.declared.note.Deco.{Deco}
use Rattle.mus_score.specs.declared.score.Event.{Event}
use Rattle.{mus_stems.specs.declared.plans.StemPlan.{StemPlan}, mus_laid.specs.declared.drawn.LaneInk.{LaneInk}}
use Rattle.mus_ink.specs.Distances.{deco_gap, deco_line, deco_step}
use Rattle.mus_ink.specs.Drawing.{cut_dy, glyph}
use Rattle.mus_ink.specs.Kinds.{deco_glyph}
use Rattle.mus_ink.specs.Notes.{dy_of, highest_dy, heads_marks}
use Rattle.mus_ink.specs.Stems.{stem_marks}
use Rattle.mus_ink.specs.Rests.{rest_marks}

abbrev pub with_stem : Bool → ℤ → ℤ → ℤ
with_stem true to top = int_max top to
with_stem false to top = top

-- the greater of the highest head's dy and the stem's end; a rest is as high as the staff
abbrev pub top_of : Clef → List Head → StemPlan → ℤ
top_of c [] plan = pos top_line
top_of c (h ∷ hs) plan = with_stem plan.has plan.to (highest_dy c (dy_of c h) hs)

-- the first is above the staff and above the event
unfoldable pub first_deco : ℤ → ℤ
first_deco top = cut_dy (int_max (pos deco_line) (top +ℤ pos deco_gap))

-- each next one higher
unfoldable pub next_deco : ℤ → ℤ
next_deco dy = cut_dy (dy +ℤ pos deco_step)

abbrev pub deco_mark : ℤ → Option Glyph → List LaneInk
deco_mark dy None = []
deco_mark dy (Some g) = glyph g (pos 0) dy ∷ []

abbrev pub after_deco : ℤ → Option Glyph → ℤ
after_deco dy None = dy
after_deco dy (Some g) = next_deco dy

-- the decorations that have a glyph
abbrev pub deco_marks : ℤ → List Deco → List LaneInk
deco_marks dy [] = []
deco_marks dy (d ∷ ds) = deco_mark dy (deco_glyph d) ++ deco_marks (after_deco dy (deco_glyph d)) ds

-- a rest, or heads with their stem
abbrev pub body_marks : Clef → ℤ → List Head → Event → StemPlan → ℕ → ℕ → List LaneInk
body_marks c raise [] e plan before after = rest_marks raise e.look e.value.base e.value.dots plan.flags
body_marks c raise (h ∷ hs) e plan before after =
    heads_marks c e.value.base (h ∷ hs) plan ++ stem_marks plan before after

-- an event: its clef, how far its rest is raised, its stem plan, and the levels of the events beside it in its beam
unfoldable pub note_marks : Clef → ℤ → Event → StemPlan → ℕ → ℕ → List LaneInk
note_marks c raise e plan before after =
    body_marks c raise e.heads e plan before after ++ deco_marks (first_deco (top_of c e.heads plan)) e.decos
