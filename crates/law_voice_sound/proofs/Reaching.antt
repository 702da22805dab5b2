-- Heads within reach of a staff, the ties that end at them, and heads as a page reports how they sound.
use Rattle.std.specs.{Prelude.{⊤, ◌≡◌, ℤ, Bool, ◌&&◌, List, [], ◌∷◌}, List.list_any, Ordering.int_eq}
use Rattle.mus_units.specs.declared.{note.Head.Head, pitch.Clef.Clef, pitch.Pitch.Pitch}
use Rattle.{mus_score.specs.GoodScore.{IsInReach}, mus_arcs.specs.Arcs.{has_pitch}, mus_ink.specs.Notes.{dy_of}}
use Rattle.mus_drawn.specs.declared.sounds.AlteredHead as score
use Rattle.ps_heard.specs.declared.column.Heard as page

abbrev pub as_heard : score.AlteredHead → page.Heard
as_heard x = record { pitch = x.head.pitch; alter = x.alter }

abbrev pub AllReach : Clef → List Head → Type 0
AllReach c [] = ⊤
AllReach c (h ∷ hs) = IsInReach c h × AllReach c hs

-- a head is tied to this pitch
abbrev pub ties_to : Pitch → List Head → Bool
ties_to p prev = list_any (λ g. g.tied && has_pitch p g) prev

-- in the column of an event a tie ends at exactly those heads to which a head of the event before is tied
abbrev pub TiesEnd : Clef → List ℤ → List Head → List Head → Type 0
TiesEnd c ties prev [] = ⊤
TiesEnd c ties prev (h ∷ hs) = (list_any (int_eq (dy_of c h)) ties ≡ ties_to h.pitch prev) × TiesEnd c ties prev hs
