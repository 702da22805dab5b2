-- The lines of a document, without the LF that ends each: the fixed ones, and those with numbers or words in them.
use Prim.Native.Char.{code}
use Rattle.std.specs.Prelude.{◌≡◌, ℕ, ℤ, ◌+◌, List, ◌∷◌, ◌++◌, length, drop}
use Rattle.{eng_lines.specs.Lines.{Lacks}, mus_units.specs.declared.glyph.Size.{Size}}
use Rattle.ps_text.specs.Document.{rules_line, staff_line, join_line, system_line, title_line, tune_line, heading_line}
use Rattle.ps_text.specs.Line.{mark_line}
use Rattle.ps_text.specs.Prolog.{box_line, page_line}
use Rattle.ps_text.specs.declared.marks.PageMark.{PageMark}

pub data Line : Type 0 where
  Fixed : (text : List ℕ) → Line
  Box : (wide high : ℕ) → Line
  PageStart : (left bottom scale : ℕ) → Line
  Heading : (k : ℕ) → Line
  Tune : (ordinal : ℕ) → Line
  Title : (x y : ℤ) (size : Size) (words : List ℕ) → Line
  System : (a b : ℕ) → Line
  Join : (top foot : ℤ) → Line
  StaffHead : (k : ℕ) → Line
  Rules : (width : ℕ) (y : ℤ) → Line
  Mark : (y : ℤ) (m : PageMark) → Line

abbrev pub line_text : Line → List ℕ
line_text (Fixed text) = text
line_text (Box wide high) = box_line wide high
line_text (PageStart left bottom scale) = page_line left bottom scale
line_text (Heading k) = heading_line k
line_text (Tune ordinal) = tune_line ordinal
line_text (Title x y size words) = title_line x y size words
line_text (System a b) = system_line a b
line_text (Join top foot) = join_line top foot
line_text (StaffHead k) = staff_line k
line_text (Rules width y) = rules_line width y
line_text (Mark y m) = mark_line y m

-- what is left of a text after its first line
abbrev pub after_line : List ℕ → List ℕ → List ℕ
after_line line text = drop (length line + 1) text

-- the line is the first of the text
pub record IsFirstLine (line text : List ℕ) : Type 0 where
  pub whole : Lacks 10 line
  pub first : text ≡ line ++ code "\n" ∷ after_line line text
