-- Good lines and tunes: what each call that takes one requires, and each call that makes one ensures.
use Rattle.std.specs.Prelude.{◌≤◌, ◌<◌, ◌^◌, ⊤, ℕ, List, [], ◌∷◌, length, sum, map, All}
use Rattle.abc_lines.specs.{declared.book.Line.Line, declared.book.TuneText.TuneText, declared.book.Book.Book}

-- a line has at most 2^30 bytes
abbrev pub IsGoodLine : Line → Type 0
IsGoodLine line = length line.text ≤ 2 ^ 30

-- each line's number is greater than that of the line before it
abbrev pub NumbersRise : List Line → Type 0
NumbersRise [] = ⊤
NumbersRise (line ∷ []) = ⊤
NumbersRise (line ∷ next ∷ lines) = (line.number < next.number) × NumbersRise (next ∷ lines)

-- the bytes of all lines together
abbrev pub size_of : List Line → ℕ
size_of lines = sum (map (λ line. length line.text) lines)

-- a tune has at least one line, its lines' numbers rise, and they have at most 2^30 bytes together
pub record IsGoodTune (tune : TuneText) : Type 0 where
  pub some : 1 ≤ length tune.lines
  pub rise : NumbersRise tune.lines
  pub small : size_of tune.lines ≤ 2 ^ 30

-- a file header whose lines' numbers rise and that has at most 2^30 bytes, and good tunes
pub record IsGoodBook (book : Book) : Type 0 where
  pub header_rises : NumbersRise book.header
  pub header_small : size_of book.header ≤ 2 ^ 30
  pub tunes : All IsGoodTune book.tunes
