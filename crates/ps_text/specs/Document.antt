-- The text of items, pages and documents, each line ended by an LF.
use Rattle.std.specs.{Prelude.{◌≡◌, ℕ, ℤ, pos, ◌+◌, ◌+ℤ◌, List, [], ◌∷◌, ◌++◌, length, codes, decimal}, List.flat_map}
use Rattle.mus_units.specs.Distances.{top_line, fourth_line, third_line, second_line}
use Rattle.mus_units.specs.declared.glyph.Size.{Size}
use Rattle.glyph_paths.specs.Characters.{line_end, space}
use Rattle.glyph_paths.specs.Procedure.{numbers}
use Rattle.ps_text.specs.Fields.{in_parentheses}
use Rattle.ps_text.specs.Line.{mark_line}
use Rattle.ps_text.specs.Names.{size_name}
use Rattle.ps_text.specs.Prolog.{prolog}
use Rattle.ps_text.specs.Range.{IsSheet}
use Rattle.ps_text.specs.declared.marks.PageMark.{PageMark}
use Rattle.ps_text.specs.declared.sheet.Staff.{Staff}
use Rattle.ps_text.specs.declared.sheet.Item.{Item}
use Rattle.ps_text.specs.declared.sheet.Page.{Page}
use Rattle.ps_text.specs.declared.sheet.Sheet.{Sheet}

-- the text of a numbered thing for each of a list, the first with the number k
abbrev pub numbered : {A : Type 0} → (ℕ → A → List ℕ) → ℕ → List A → List ℕ
numbered f k [] = []
numbered f k (x ∷ xs) = f k x ++ numbered f (k + 1) xs

-- a mark's line
unfoldable pub mark_text : ℤ → PageMark → List ℕ
mark_text y m = mark_line y m ++ line_end ∷ []

-- the marks of a staff at y
unfoldable pub marks_text : ℤ → List PageMark → List ℕ
marks_text y ms = flat_map (mark_text y) ms

-- the line that draws the five lines of a staff
unfoldable pub rules_line : ℕ → ℤ → List ℕ
rules_line width y =
    let w = pos width in
    numbers (w ∷ pos top_line ∷ w ∷ pos fourth_line ∷ w ∷ pos third_line ∷ w ∷ pos second_line ∷ w ∷ pos 0 ∷ pos 0 ∷ y
    ∷ [])
    ++ codes "sf"

unfoldable pub staff_line : ℕ → List ℕ
staff_line k = codes "% staff " ++ decimal k

-- staff k of a system, from 0, and its marks
unfoldable pub staff_text : ℕ → Staff → List ℕ
staff_text k s = staff_line k ++ line_end ∷ rules_line s.width s.y ++ line_end ∷ marks_text s.y s.marks

-- the base of the last of some staves
abbrev pub last_base : Staff → List Staff → ℤ
last_base s [] = s.y
last_base s (t ∷ rest) = last_base t rest

-- the line that joins staves, from its top to its foot
unfoldable pub join_line : ℤ → ℤ → List ℕ
join_line top foot = numbers (pos 0 ∷ top ∷ pos 0 ∷ foot ∷ []) ++ codes "vl"

-- two or more staves are joined, from the top line of the first to the base of the last
abbrev pub join_text : List Staff → List ℕ
join_text [] = []
join_text (s ∷ []) = []
join_text (s ∷ t ∷ rest) = join_line (s.y +ℤ pos top_line) (last_base t rest) ++ line_end ∷ []

unfoldable pub system_line : ℕ → ℕ → List ℕ
system_line a b = codes "% system " ++ decimal a ++ space ∷ decimal b

unfoldable pub system_text : ℕ → ℕ → List Staff → List ℕ
system_text a b staves = system_line a b ++ line_end ∷ join_text staves ++ numbered staff_text 0 staves

unfoldable pub title_line : ℤ → ℤ → Size → List ℕ → List ℕ
title_line x y size words = in_parentheses words ++ numbers (pos 0 ∷ pos 0 ∷ x ∷ y ∷ []) ++ size_name size

unfoldable pub title_text : ℤ → ℤ → Size → List ℕ → List ℕ
title_text x y size words = title_line x y size words ++ line_end ∷ []

unfoldable pub tune_line : ℕ → List ℕ
tune_line ordinal = codes "% tune " ++ decimal ordinal

unfoldable pub tune_text : ℕ → List ℕ
tune_text ordinal = tune_line ordinal ++ line_end ∷ []

abbrev pub item_text : Item → List ℕ
item_text (Item.Tune ordinal) = tune_text ordinal
item_text (Item.Title x y size words) = title_text x y size words
item_text (Item.System a b staves) = system_text a b staves

unfoldable pub items_text : List Item → List ℕ
items_text items = flat_map item_text items

unfoldable pub heading_line : ℕ → List ℕ
heading_line k = codes "%%Page: " ++ decimal k ++ space ∷ decimal k

-- the two lines that begin page k
unfoldable pub heading_text : ℕ → List ℕ
heading_text k = heading_line k ++ codes "\npg\n"

-- the two lines that end a page
unfoldable pub closing : List ℕ
closing = codes "grestore\nshowpage\n"

-- the part of a page after its heading
unfoldable pub body_text : Page → List ℕ
body_text p = items_text p.items ++ closing

-- page k, from 1
unfoldable pub document_page : ℕ → Page → List ℕ
document_page k p = heading_text k ++ items_text p.items ++ closing

-- the line that says how many pages there are
unfoldable pub count_line : ℕ → List ℕ
count_line n = codes "%%Pages: " ++ decimal n

-- the end of a document of n pages
unfoldable pub trailer : ℕ → List ℕ
trailer n = codes "%%Trailer\n" ++ count_line n ++ codes "\n%%EOF\n"

unfoldable pub document : Sheet → List ℕ
document s = prolog s.frame ++ numbered document_page 1 s.pages ++ trailer (length s.pages)

-- a sheet spells a text
pub record SpellsSheet (s : Sheet) (text : List ℕ) : Type 0 where
  pub good : IsSheet s
  pub spelled : document s ≡ text
