-- The book: which lines belong to the file header and to which tune, found by looking backwards from a line, and the
-- text of a listed line together with the `+:` lines that are joined to it.
use Prim.Native.Char.{code}
use Rattle.std.specs.Prelude.{ℕ, suc, List, [], ◌∷◌, ◌++◌, length, Bool, true, false, ◌==◌, ◌&&◌, ◌||◌, not}
use Rattle.std.specs.Prelude.{if◌then◌else◌, Option, Some, None, nat_eq, codes}
use Rattle.std.specs.List.{starts_with}
use Rattle.abc_lines.specs.declared.book.Line.{Line}
use Rattle.abc_lines.specs.declared.book.TuneText.{TuneText}
use Rattle.abc_lines.specs.declared.book.Book.{Book}
use Rattle.abc_lines.specs.declared.reading.LineContent.{LineContent}
use Rattle.abc_lines.specs.declared.reading.LineContent.TheVariants.{Empty, Comment, Written}
use Rattle.abc_lines.specs.Kinds.{is_field, field_text}
use Rattle.abc_lines.specs.Lines.{readings, without_mark}

-- a line that begins with `X:` begins a tune
abbrev pub begins_tune : LineContent → Bool
begins_tune Empty = false
begins_tune Comment = false
begins_tune (Written text) = starts_with nat_eq text (codes "X:")

abbrev pub is_empty_line : LineContent → Bool
is_empty_line Empty = true
is_empty_line Comment = false
is_empty_line (Written text) = false

-- an empty line and the first line of a tune end the part before them
abbrev pub is_end_of_part : LineContent → Bool
is_end_of_part line = is_empty_line line || begins_tune line

-- a line that begins with `+:` continues the field before it
abbrev pub is_joining : List ℕ → Bool
is_joining text = starts_with nat_eq text (codes "+:")

-- Looking backwards: a list begins with a line, then has the line before it, and so on. No line up to it is empty or
-- begins a tune.
abbrev pub is_in_header : List LineContent → Bool
is_in_header [] = true
is_in_header (line ∷ before) = not (is_end_of_part line) && is_in_header before

-- the number of the last line, up to this one, that begins a tune, if no empty line follows that line
abbrev pub tune_of : List LineContent → Option ℕ
tune_of [] = None
tune_of (line ∷ before) =
    if begins_tune line then Some (suc (length before)) else (if is_empty_line line then None else tune_of before)

abbrev pub is_line_number : ℕ → Option ℕ → Bool
is_line_number number None = false
is_line_number number (Some other) = other == number

abbrev pub belongs_to : ℕ → List LineContent → Bool
belongs_to number lines = is_line_number number (tune_of lines)

-- joining continues over comments and `+:` lines
abbrev pub goes_on : LineContent → Bool
goes_on Empty = false
goes_on Comment = true
goes_on (Written text) = is_joining text

-- a `+:` line adds a space and its text
abbrev pub added : LineContent → List ℕ
added Empty = []
added Comment = []
added (Written text) = code " " ∷ field_text text

-- what the `+:` lines directly after a field add
abbrev pub joined : List LineContent → List ℕ
joined [] = []
joined (line ∷ more) = if goes_on line then added line ++ joined more else []

abbrev pub whole_text : List ℕ → List LineContent → List ℕ
whole_text text more = if is_field text then text ++ joined more else text

-- a line as it is listed; comments and `+:` lines are not
abbrev pub line_of_text : ℕ → List ℕ → List LineContent → List Line
line_of_text number text more =
    if is_joining text then [] else record { number = number; text = whole_text text more } ∷ []

abbrev pub line_at : ℕ → LineContent → List LineContent → List Line
line_at number Empty more = []
line_at number Comment more = []
line_at number (Written text) more = line_of_text number text more

abbrev pub when : Bool → List Line → List Line
when belongs lines = if belongs then lines else []

-- the listed lines that belong, out of those after the lines `before`, which are listed last line first
abbrev pub listed_lines : (List LineContent → Bool) → List LineContent → List LineContent → List Line
listed_lines belongs before [] = []
listed_lines belongs before (line ∷ more) =
    when (belongs (line ∷ before)) (line_at (suc (length before)) line more)
    ++ listed_lines belongs (line ∷ before) more

abbrev pub tune_at : List LineContent → ℕ → ℕ → TuneText
tune_at all ordinal number = record { ordinal = ordinal; lines = listed_lines (belongs_to number) [] all }

-- the tunes that begin after the lines `before`, each with its lines among all lines
abbrev pub tunes_after : List LineContent → ℕ → List LineContent → List LineContent → List TuneText
tunes_after all ordinal before [] = []
tunes_after all ordinal before (line ∷ more) =
    if begins_tune line then tune_at all ordinal (suc (length before)) ∷ tunes_after all (suc ordinal) (line ∷ before)
    more
    else tunes_after all ordinal (line ∷ before) more

abbrev pub book_of_lines : List LineContent → Book
book_of_lines all = record { header = listed_lines is_in_header [] all; tunes = tunes_after all 1 [] all }

unfoldable pub book_of : List ℕ → Book
book_of bytes = book_of_lines (readings (without_mark bytes))
