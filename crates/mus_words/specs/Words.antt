-- Small texts in a lane. A text that prints nothing is no mark and is not counted.
use Rattle.std.specs.Prelude.{ℕ, ℤ, ◌==◌, if◌then◌else◌, List, [], ◌∷◌, length}
use Rattle.mus_units.specs.declared.glyph.Size.{Size}
use Rattle.mus_laid.specs.declared.drawn.Ink.{Ink}
use Rattle.mus_laid.specs.declared.laid.Lane.{Lane}
use Rattle.mus_laid.specs.declared.drawn.LaneInk.{LaneInk}
use Rattle.mus_laid.specs.Printed.{printed}

abbrev pub words : Lane → ℤ → ℤ → List ℕ → LaneInk
words lane dx dy text = record { ink = Ink.Words Size.Small dx dy text; lane = lane }

abbrev pub if_any : List ℕ → List (List ℕ)
if_any t = if length t == 0 then [] else t ∷ []

-- the printed form of a text, unless it is empty
abbrev pub shown_text : List ℕ → List (List ℕ)
shown_text t = if_any (printed t)
