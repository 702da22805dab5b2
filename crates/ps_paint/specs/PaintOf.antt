-- What a sheet paints, in 1/10000 point: for each page, item by item and mark by mark, the filled or stroked paths
-- and the words shown.
use Rattle.std.specs.Prelude.{ℕ, ℤ, pos, ◌*◌, ◌+ℤ◌, ◌-ℤ◌, ◌*ℤ◌, List, [], ◌∷◌, ◌++◌, map}
use Rattle.std.specs.List.{flat_map}
use Rattle.mus_units.specs.Distances.{
  top_line,
  fourth_line,
  third_line,
  second_line,
  beam_thickness,
  stem_side,
  grace_stem_side,
}
use Rattle.mus_units.specs.declared.glyph.Size.{Size}
use Rattle.mus_units.specs.declared.glyph.Way.{Way}
use Rattle.glyph_paths.specs.declared.paths.PathOp.{PathOp}
use Rattle.glyph_paths.specs.Outlines.{neg, outline_of}
use Rattle.ps_text.specs.Line.{quarter}
use Rattle.ps_text.specs.Document.{last_base}
use Rattle.ps_text.specs.declared.marks.PageMark.{PageMark}
use Rattle.ps_text.specs.declared.sheet.Frame.{Frame}
use Rattle.ps_text.specs.declared.sheet.Staff.{Staff}
use Rattle.ps_text.specs.declared.sheet.Item.{Item}
use Rattle.ps_text.specs.declared.sheet.Page.{Page}
use Rattle.ps_text.specs.declared.sheet.Sheet.{Sheet}
use Rattle.ps_paint.specs.Distances.{big_height, line_width, small_height}
use Rattle.ps_steps.specs.declared.paint.{Seg.Seg, Paint.Paint, PagePaint.PagePaint}

-- the painted place of an abscissa and of a height of a page: 100 times the margin, plus the percentage of the scale
-- times the abscissa or height
abbrev pub to_x : Frame → ℤ → ℤ
to_x f v = pos (100 * f.left) +ℤ (pos f.scale *ℤ v)

abbrev pub to_y : Frame → ℤ → ℤ
to_y f v = pos (100 * f.bottom) +ℤ (pos f.scale *ℤ v)

-- the pieces of a path to a point of a page
abbrev pub move : Frame → ℤ → ℤ → Seg
move f x y = Seg.Move (to_x f x) (to_y f y)

abbrev pub line : Frame → ℤ → ℤ → Seg
line f x y = Seg.Line (to_x f x) (to_y f y)

abbrev pub curve : Frame → ℤ → ℤ → ℤ → ℤ → ℤ → ℤ → Seg
curve f a b c d x y = Seg.Curve (to_x f a) (to_y f b) (to_x f c) (to_y f d) (to_x f x) (to_y f y)

abbrev pub stroked : Frame → List Seg → Paint
stroked f path = Paint.Stroke (pos line_width *ℤ pos f.scale) path

-- a path is closed and filled
abbrev pub filled_paint : List Seg → Paint
filled_paint path = Paint.Fill (path ++ Seg.Close ∷ [])

-- the height of words, in u
abbrev pub font_height : Size → ℤ
font_height Size.Small = small_height
font_height Size.Big = big_height

-- words that begin at (x, y)
abbrev pub words_paint : Frame → Size → ℤ → ℤ → List ℕ → Paint
words_paint f size x y words = Paint.Show (font_height size *ℤ pos f.scale) (to_x f x) (to_y f y) words

-- an outline moved by (x, y), after the pieces of the path that it continues: a paint for each Fill and each Stroke,
-- made of the pieces since the last one
abbrev pub outline_paints : Frame → ℤ → ℤ → List Seg → List PathOp → List Paint
outline_paints f x y path [] = []
outline_paints f x y path (PathOp.Move a b ∷ rest) = outline_paints f x y (path ++ move f (x +ℤ a) (y +ℤ b) ∷ []) rest
outline_paints f x y path (PathOp.Line a b ∷ rest) = outline_paints f x y (path ++ line f (x +ℤ a) (y +ℤ b) ∷ []) rest
outline_paints f x y path (PathOp.Curve a b c d p q ∷ rest) =
    outline_paints f x y (path ++ curve f (x +ℤ a) (y +ℤ b) (x +ℤ c) (y +ℤ d) (x +ℤ p) (y +ℤ q) ∷ []) rest
outline_paints f x y path (PathOp.Fill ∷ rest) = filled_paint path ∷ outline_paints f x y [] rest
outline_paints f x y path (PathOp.Stroke ∷ rest) = stroked f path ∷ outline_paints f x y [] rest

-- a glyph is its outline, moved by its place
abbrev pub glyph_paints : Frame → ℤ → ℤ → List PathOp → List Paint
glyph_paints f x y outline = outline_paints f x y [] outline

-- how far right of the ends of its line the edges of a beam are
abbrev pub edge : Way → ℤ
edge Way.Up = pos stem_side
edge Way.Down = neg stem_side
edge Way.Grace = pos grace_stem_side

-- a beam from (x1, a) to (x2, b)
abbrev pub beam_paint : Frame → ℤ → ℤ → ℤ → ℤ → Paint
beam_paint f x1 a x2 b =
    filled_paint
    (move f x1 a ∷ line f x2 b ∷ line f x2 (b +ℤ pos beam_thickness) ∷ line f x1 (a +ℤ pos beam_thickness) ∷ [])

-- an arc from (x1, a) to (x2, b); its inner points are a quarter of the way from its ends, its bulge above them
abbrev pub arc_paint : Frame → ℤ → ℤ → ℤ → ℤ → ℤ → Paint
arc_paint f x1 a x2 b bulge =
    stroked f (move f x1 a ∷ curve f (x1 +ℤ quarter x1 x2) (a +ℤ bulge) (x2 -ℤ quarter x1 x2) (b +ℤ bulge) x2 b ∷ [])

-- a mark of a staff at y
abbrev pub mark_paints : Frame → ℤ → PageMark → List Paint
mark_paints f y (PageMark.Glyph glyph x dx dy) = glyph_paints f (x +ℤ dx) (y +ℤ dy) (outline_of glyph)
mark_paints f y (PageMark.Words size x dx dy words) = words_paint f size (x +ℤ dx) (y +ℤ dy) words ∷ []
mark_paints f y (PageMark.Stem x dx from to) =
    stroked f (move f (x +ℤ dx) (y +ℤ from) ∷ line f (x +ℤ dx) (y +ℤ to) ∷ []) ∷ []
mark_paints f y (PageMark.Beam way x1 x2 from to) =
    beam_paint f (x1 +ℤ edge way) (y +ℤ from) (x2 +ℤ edge way) (y +ℤ to) ∷ []
mark_paints f y (PageMark.Arc x1 x2 from to bulge) = arc_paint f x1 (y +ℤ from) x2 (y +ℤ to) bulge ∷ []

-- a line of a staff, from the left margin
abbrev pub rule : Frame → ℤ → ℤ → List Seg
rule f width y = move f (pos 0) y ∷ line f width y ∷ []

-- the five lines of a staff at y, from the lowest, in one stroke
abbrev pub rules : Frame → ℤ → ℤ → List Seg
rules f width y =
    rule f width y ++ rule f width (y +ℤ pos second_line) ++ rule f width (y +ℤ pos third_line)
    ++ rule f width (y +ℤ pos fourth_line)
    ++ rule f width (y +ℤ pos top_line)

-- a staff: its lines, and its marks
abbrev pub staff_paints : Frame → Staff → List Paint
staff_paints f s = stroked f (rules f (pos s.width) s.y) ∷ flat_map (mark_paints f s.y) s.marks

-- two or more staves are joined by a line, from the last base to the top line of the first
abbrev pub join_paints : Frame → List Staff → List Paint
join_paints f [] = []
join_paints f (s ∷ []) = []
join_paints f (s ∷ t ∷ rest) =
    stroked f (move f (pos 0) (last_base t rest) ∷ line f (pos 0) (s.y +ℤ pos top_line) ∷ []) ∷ []

-- the beginning of a tune paints nothing; a title is shown; a system is its joining line and its staves
abbrev pub item_paints : Frame → Item → List Paint
item_paints f (Item.Tune ordinal) = []
item_paints f (Item.Title x y size words) = words_paint f size x y words ∷ []
item_paints f (Item.System a b staves) = join_paints f staves ++ flat_map (staff_paints f) staves

abbrev pub page_paint : Frame → Page → PagePaint
page_paint f p = record { paints = flat_map (item_paints f) p.items }

unfoldable pub paint_of : Sheet → List PagePaint
paint_of s = map (page_paint s.frame) s.pages
