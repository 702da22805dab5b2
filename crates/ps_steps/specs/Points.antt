-- The current point of a path. There is one exactly when the path isn't empty: the end of the last piece, or after a
-- Close the point of the last Move.
use Rattle.std.specs.Prelude.{ℤ, pos, List, [], ◌∷◌, reverse, Option, Some, None}
use Rattle.ps_steps.specs.declared.paint.Seg.{Seg}

-- the point of the last Move, in a path with its last piece first
abbrev pub last_move : List Seg → ℤ × ℤ
last_move [] = (pos 0, pos 0)
last_move (Seg.Move x y ∷ before) = (x, y)
last_move (Seg.Line x y ∷ before) = last_move before
last_move (Seg.Curve a b c d x y ∷ before) = last_move before
last_move (Seg.Close ∷ before) = last_move before

-- the end of the last piece, which comes first
abbrev pub end_of : List Seg → Option (ℤ × ℤ)
end_of [] = None
end_of (Seg.Move x y ∷ before) = Some (x, y)
end_of (Seg.Line x y ∷ before) = Some (x, y)
end_of (Seg.Curve a b c d x y ∷ before) = Some (x, y)
end_of (Seg.Close ∷ before) = Some (last_move before)

abbrev pub current : List Seg → Option (ℤ × ℤ)
current path = end_of (reverse path)
