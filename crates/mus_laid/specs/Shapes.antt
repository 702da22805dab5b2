-- What of a mark does not depend on how far stems reach: its kind, its column or columns, its lane, its place beside
-- its column, and what it shows. Its heights are left out.
use Rattle.std.specs.Prelude.{◌≡◌, pos, List, map}
use Rattle.mus_laid.specs.declared.laid.{Laid.Laid, Mark.Mark, StaffMarks.StaffMarks, SystemMarks.SystemMarks}

abbrev pub mark_shape : Mark → Mark
mark_shape (Mark.Glyph glyph rank dx dy) = Mark.Glyph glyph rank dx (pos 0)
mark_shape (Mark.Words size rank dx dy text) = Mark.Words size rank dx (pos 0) text
mark_shape (Mark.Stem rank dx from to) = Mark.Stem rank dx (pos 0) (pos 0)
mark_shape (Mark.Beam way first last from to) = Mark.Beam way first last (pos 0) (pos 0)
mark_shape (Mark.Arc first last from to bulge) = Mark.Arc first last (pos 0) (pos 0) bulge

abbrev pub laid_shape : Laid → Laid
laid_shape x = record { mark = mark_shape x.mark; lane = x.lane }

abbrev pub marks_shape : List Laid → List Laid
marks_shape all = map laid_shape all

-- the same marks in the same order, except for their heights
abbrev pub staff_shape : StaffMarks → List Laid
staff_shape staff = marks_shape staff.marks

pub record HaveSameShapes (m n : SystemMarks) : Type 0 where
  pub from : m.a ≡ n.a
  pub to : m.b ≡ n.b
  pub keys : m.keys ≡ n.keys
  pub staves : map staff_shape m.staves ≡ map staff_shape n.staves
