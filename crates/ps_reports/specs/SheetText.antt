-- What `inspect` prints for a sheet: a line for the frame, each page, each item, each staff and each mark, and last
-- the number of pages.
use Prim.Native.Char.{code}
use Rattle.std.specs.Prelude.{ℕ, ℤ, pos, List, [], ◌∷◌, ◌++◌, length, codes, decimal}
use Rattle.std.specs.List.{flat_map}
use Rattle.mus_units.specs.declared.glyph.Size.{Size}
use Rattle.glyph_paths.specs.Names.{glyph_name}
use Rattle.ps_reports.specs.PaintText.{spaced}
use Rattle.ps_text.specs.Fields.{quoted}
use Rattle.ps_text.specs.Names.{size_name, way_name}
use Rattle.ps_text.specs.Document.{numbered}
use Rattle.ps_text.specs.declared.marks.PageMark.{PageMark}
use Rattle.ps_text.specs.declared.sheet.Frame.{Frame}
use Rattle.ps_text.specs.declared.sheet.Staff.{Staff}
use Rattle.ps_text.specs.declared.sheet.Item.{Item}
use Rattle.ps_text.specs.declared.sheet.Page.{Page}
use Rattle.ps_text.specs.declared.sheet.Sheet.{Sheet}

-- a line with a kind and numbers
unfoldable pub plain_line : List ℕ → List ℤ → List ℕ
plain_line kind zs = kind ++ spaced zs ++ codes "\n"

-- a line with a kind, a name and numbers
unfoldable pub named_line : List ℕ → List ℕ → List ℤ → List ℕ
named_line kind name zs = kind ++ name ++ spaced zs ++ codes "\n"

-- a line with a kind, a size, a place and words
unfoldable pub report_words_line : List ℕ → Size → List ℤ → List ℕ → List ℕ
report_words_line kind size zs words = kind ++ size_name size ++ spaced zs ++ code " " ∷ quoted words ++ codes "\n"

-- a mark: its kind, its name or its words, and its numbers
abbrev pub mark_report : PageMark → List ℕ
mark_report (PageMark.Glyph glyph x dx dy) = named_line (codes "glyph ") (glyph_name glyph) (x ∷ dx ∷ dy ∷ [])
mark_report (PageMark.Words size x dx dy text) = report_words_line (codes "text ") size (x ∷ dx ∷ dy ∷ []) text
mark_report (PageMark.Stem x dx from to) = plain_line (codes "stem") (x ∷ dx ∷ from ∷ to ∷ [])
mark_report (PageMark.Beam way x1 x2 from to) = named_line (codes "beam ") (way_name way) (x1 ∷ x2 ∷ from ∷ to ∷ [])
mark_report (PageMark.Arc x1 x2 from to bulge) = plain_line (codes "arc") (x1 ∷ x2 ∷ from ∷ to ∷ bulge ∷ [])

unfoldable pub marks_report : List PageMark → List ℕ
marks_report ms = flat_map mark_report ms

-- staff k of a system, from 0
unfoldable pub staff_report : ℕ → Staff → List ℕ
staff_report k staff =
    named_line (codes "staff ") (decimal k) (staff.y ∷ pos staff.width ∷ []) ++ marks_report staff.marks

unfoldable pub system_report : ℕ → ℕ → List Staff → List ℕ
system_report a b staves = named_line (codes "system ") (decimal a) (pos b ∷ []) ++ numbered staff_report 0 staves

abbrev pub item_report : Item → List ℕ
item_report (Item.Tune ordinal) = plain_line (codes "tune") (pos ordinal ∷ [])
item_report (Item.Title x y size text) = report_words_line (codes "title ") size (x ∷ y ∷ []) text
item_report (Item.System a b staves) = system_report a b staves

unfoldable pub items_report : List Item → List ℕ
items_report is = flat_map item_report is

-- page k, from 1
unfoldable pub page_report : ℕ → Page → List ℕ
page_report k page = named_line (codes "page ") (decimal k) [] ++ items_report page.items

unfoldable pub frame_report : Frame → List ℕ
frame_report f = plain_line (codes "frame") (pos f.wide ∷ pos f.high ∷ pos f.left ∷ pos f.bottom ∷ pos f.scale ∷ [])

unfoldable pub sheet_report : Sheet → List ℕ
sheet_report sheet =
    frame_report sheet.frame ++ numbered page_report 1 sheet.pages
    ++ named_line (codes "pages ") (decimal (length sheet.pages)) []
