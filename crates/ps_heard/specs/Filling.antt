-- How the columns of a staff are filled, mark by mark. This is how the program computes them; Columns says what they
-- are.
use Rattle.std.specs.Prelude.{ℤ, if◌then◌else◌, List, [], ◌∷◌, ◌++◌}
use Rattle.std.specs.Ordering.{int_eq}
use Rattle.ps_text.specs.declared.marks.PageMark.{PageMark}
use Rattle.ps_heard.specs.declared.column.HeardColumn.{HeardColumn}
use Rattle.ps_heard.specs.declared.column.Role.{Role}
use Rattle.ps_heard.specs.Columns.{glyphs_at, noted, tie_at}

abbrev pub with_note : Role → ℤ → HeardColumn → HeardColumn
with_note role dy c = record c { notes = c.notes ++ noted role dy }

abbrev pub with_tie_at : ℤ → HeardColumn → HeardColumn
with_tie_at dy c = record c { ties = c.ties ++ dy ∷ [] }

-- the columns with the one at an anchor changed
abbrev pub at_place : ℤ → (HeardColumn → HeardColumn) → List ℤ → List HeardColumn → List HeardColumn
at_place x f [] cs = cs
at_place x f (y ∷ ys) [] = []
at_place x f (y ∷ ys) (c ∷ cs) = (if int_eq x y then f c else c) ∷ at_place x f ys cs

-- each column with what one more mark means for it
abbrev pub with_page_mark : PageMark → List ℤ → List HeardColumn → List HeardColumn
with_page_mark m [] cs = cs
with_page_mark m (y ∷ ys) [] = []
with_page_mark m (y ∷ ys) (c ∷ cs) =
    record c { notes = c.notes ++ glyphs_at y m; ties = c.ties ++ tie_at y m } ∷ with_page_mark m ys cs

abbrev pub with_marks : List PageMark → List ℤ → List HeardColumn → List HeardColumn
with_marks [] places cs = cs
with_marks (m ∷ ms) places cs = with_marks ms places (with_page_mark m places cs)
