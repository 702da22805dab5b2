-- The marks that a system calls for, as they are on a page: each rank is replaced by the abscissa of the column of
-- that rank. They are shown if the ranks read off the page are the ranks called for.
use Rattle.std.specs.Prelude.{◌≡◌, ℕ, ◌+◌, ◌<◌, ℤ, pos, ◌+ℤ◌, ◌<ℤ◌, ⊤, List, [], ◌∷◌, length, map, Some, All, Contains}
use Rattle.std.specs.Prelude.{slice_index_or}
use Rattle.mus_laid.specs.declared.laid.Mark.{Mark}
use Rattle.mus_laid.specs.declared.laid.StaffMarks.{StaffMarks}
use Rattle.mus_laid.specs.declared.laid.SystemMarks.{SystemMarks}
use Rattle.ps_text.specs.Ranks.{anchors, ranks}
use Rattle.ps_text.specs.declared.marks.PageMark.{PageMark}
use Rattle.ps_text.specs.declared.sheet.Staff.{Staff}
use Rattle.ps_text.specs.declared.sheet.Item.{Item}

-- the abscissa of the column of a rank; 0 if there is no such column
abbrev pub x_at : List ℤ → ℕ → ℤ
x_at at rank = slice_index_or at rank (pos 0)

-- a mark with an abscissa for each of its ranks
abbrev pub mark_at : (ℕ → ℤ) → Mark → PageMark
mark_at x (Mark.Glyph glyph rank dx dy) = PageMark.Glyph glyph (x rank) dx dy
mark_at x (Mark.Words size rank dx dy text) = PageMark.Words size (x rank) dx dy text
mark_at x (Mark.Stem rank dx from to) = PageMark.Stem (x rank) dx from to
mark_at x (Mark.Beam way first last from to) = PageMark.Beam way (x first) (x last) from to
mark_at x (Mark.Arc first last from to bulge) = PageMark.Arc (x first) (x last) from to bulge

-- a mark where its columns are
abbrev pub page_mark : List ℤ → Mark → PageMark
page_mark at mark = mark_at (x_at at) mark

-- a mark with the ranks themselves, as they are read off a page
abbrev pub called_mark : Mark → PageMark
called_mark mark = mark_at pos mark

abbrev pub called_marks : StaffMarks → List PageMark
called_marks s = map (λ laid. called_mark laid.mark) s.marks

-- a staff with its lowest line at a base
abbrev pub staff_at : ℕ → List ℤ → ℤ → StaffMarks → Staff
staff_at width at base s = record { y = base; width = width; marks = map (λ laid. page_mark at laid.mark) s.marks }

-- each staff at its base, which is counted from the top of the system
abbrev pub staves_at : ℕ → List ℤ → ℤ → List StaffMarks → List ℤ → List Staff
staves_at width at top [] bases = []
staves_at width at top (s ∷ more) [] = []
staves_at width at top (s ∷ more) (b ∷ bases) = staff_at width at (top +ℤ b) s ∷ staves_at width at top more bases

abbrev pub system_at : ℕ → List ℤ → ℤ → SystemMarks → List ℤ → Item
system_at width at top m bases = Item.System m.a m.b (staves_at width at top m.staves bases)

-- each column is to the right of the one before it
abbrev pub RisesAlong : List ℤ → Type 0
RisesAlong at = (i : ℕ) → i + 1 < length at → slice_index_or at i (pos 0) <ℤ slice_index_or at (i + 1) (pos 0)

-- the ranks read off each of some staves of a system are those that its marks call for
abbrev pub ShowsIn : List Staff → List Staff → List StaffMarks → Type 0
ShowsIn system [] [] = ⊤
ShowsIn system [] (s ∷ more) = ⊥
ShowsIn system (staff ∷ staves) [] = ⊥
ShowsIn system (staff ∷ staves) (s ∷ more) = (ranks system staff ≡ Some (called_marks s)) × ShowsIn system staves more

-- the same for all its staves
abbrev pub ShowsCall : List Staff → List StaffMarks → Type 0
ShowsCall staves called = ShowsIn staves staves called

-- the columns that are read off the staves of a system are where a list says, all of them and no others
pub record HasColumns (staves : List Staff) (at : List ℤ) : Type 0 where
  pub set : All (Contains at) (anchors staves)
  pub read : All (Contains (anchors staves)) at

-- the staves of a system; other items have none
abbrev pub staves_of_item : Item → List Staff
staves_of_item (Item.System a b staves) = staves
staves_of_item _ = []
