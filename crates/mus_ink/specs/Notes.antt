-- The heads of an event and what is beside them: accidentals, ledger lines and dots.
use Rattle.std.specs.{Prelude.{ℤ, pos, List, [], ◌∷◌, ◌++◌, Option, Some}, Int.{int_max, int_min}}
use Rattle.mus_units.specs.Pitch.{height_of}
use Rattle.mus_units.specs.declared.glyph.Glyph.{Glyph}
use Rattle.mus_units.specs.declared.pitch.Alter.{Alter}
use Rattle.mus_units.specs.declared.pitch.Clef.{Clef}
use Rattle.mus_units.specs.declared.note.Head.{Head}
use Rattle.mus_units.specs.declared.value.Base.{Base}
use Rattle.mus_stems.specs.declared.dots.Spot.{Spot}
use Rattle.mus_stems.specs.declared.plans.StemPlan.{StemPlan}
use Rattle.mus_laid.specs.declared.drawn.LaneInk.{LaneInk}
use Rattle.mus_ink.specs.Drawing.{glyph, steps_dy}
use Rattle.mus_ink.specs.Kinds.{head_glyph, sign_glyph}

unfoldable pub dy_of : Clef → Head → ℤ
dy_of c h = steps_dy (height_of h.pitch c)

abbrev pub highest_dy : Clef → ℤ → List Head → ℤ
highest_dy c z [] = z
highest_dy c z (h ∷ hs) = highest_dy c (int_max z (dy_of c h)) hs

abbrev pub lowest_dy : Clef → ℤ → List Head → ℤ
lowest_dy c z [] = z
lowest_dy c z (h ∷ hs) = lowest_dy c (int_min z (dy_of c h)) hs

-- accidentals, in the order of their heads
abbrev pub sign_mark : ℤ → Option Alter → Option ℤ → List LaneInk
sign_mark dy (Some a) (Some dx) = glyph (sign_glyph a) dx dy ∷ []
sign_mark dy _ _ = []

abbrev pub sign_marks : Clef → List Head → List (Option ℤ) → List LaneInk
sign_marks c [] dxs = []
sign_marks c (h ∷ hs) [] = []
sign_marks c (h ∷ hs) (dx ∷ dxs) = sign_mark (dy_of c h) h.sign dx ++ sign_marks c hs dxs

abbrev pub ledger_marks : List ℤ → List LaneInk
ledger_marks [] = []
ledger_marks (dy ∷ dys) = glyph Glyph.Lg (pos 0) dy ∷ ledger_marks dys

-- each head with its shift
abbrev pub note_heads : Clef → Glyph → List Head → List ℤ → List LaneInk
note_heads c g [] dxs = []
note_heads c g (h ∷ hs) [] = []
note_heads c g (h ∷ hs) (dx ∷ dxs) = glyph g dx (dy_of c h) ∷ note_heads c g hs dxs

abbrev pub dot_marks : List Spot → List LaneInk
dot_marks [] = []
dot_marks (s ∷ ss) = glyph Glyph.Dt s.dx s.dy ∷ dot_marks ss

-- accidentals, ledger lines, heads and dots
unfoldable pub heads_marks : Clef → Base → List Head → StemPlan → List LaneInk
heads_marks c base heads plan =
    sign_marks c heads plan.signs ++ ledger_marks plan.ledgers ++ note_heads c (head_glyph base) heads plan.shifts
    ++ dot_marks plan.dots
