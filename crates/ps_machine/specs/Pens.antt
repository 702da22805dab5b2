-- How the code stores graphics states. The pieces of all paths are in one list. The path of the current state is the
-- part of the list from the path's first piece on. A saved state has the pieces that were in the list when it was
-- saved, and so do the states saved before it.
use Rattle.std.specs.Prelude.{◌≡◌, ◌≤◌, ⊤, List, [], ◌∷◌, length, take, drop, reverse, Some}
use Rattle.ps_steps.specs.declared.graphics.Graphics.{Graphics}
use Rattle.ps_steps.specs.declared.paint.Seg.{Seg}
use Rattle.ps_steps.specs.Points.{current, last_move}
use Rattle.ps_machine.specs.Drawing.{GraphicsStack}
use Rattle.ps_machine.specs.declared.canvas.PenState.{PenState}
use Rattle.ps_machine.specs.declared.canvas.Saved.{Saved}

abbrev pub graphics_of : List Seg → PenState → Graphics
graphics_of pieces pen =
    record { path = drop pen.first pieces; scale = pen.scale; x = pen.x; y = pen.y; font = pen.font; line = pen.line }

abbrev pub saved_of : List Seg → List Saved → List Graphics
saved_of pieces [] = []
saved_of pieces (s ∷ saved) = graphics_of (take s.count pieces) s.pen ∷ saved_of (take s.count pieces) saved

abbrev pub drawing_of : List Seg → PenState → List Saved → GraphicsStack
drawing_of pieces pen saved = record { now = graphics_of pieces pen; saved = saved_of pieces saved }

-- a state's path begins among the pieces, and the state knows the points of its path
abbrev pub IsHeld : List Seg → PenState → Type 0
IsHeld pieces pen =
    (pen.first ≤ length pieces)
    × (pen.end ≡ current (drop pen.first pieces))
    × (pen.start ≡ last_move (reverse (drop pen.first pieces)))

abbrev pub AreHeld : List Seg → List Saved → Type 0
AreHeld pieces [] = ⊤
AreHeld pieces (s ∷ saved) =
    (s.count ≤ length pieces) × IsHeld (take s.count pieces) s.pen × AreHeld (take s.count pieces) saved

-- a state after a piece was added to its path: it knows the new points
abbrev pub followed : PenState → Seg → PenState
followed pen (Seg.Move x y) = record pen { start = (x, y); end = Some (x, y) }
followed pen (Seg.Line x y) = record pen { end = Some (x, y) }
followed pen (Seg.Curve a b c d x y) = record pen { end = Some (x, y) }
followed pen Seg.Close = record pen { end = Some pen.start }
