-- A link between the definition of a book and the code: the same lines, found by going forwards.
use Rattle.std.specs.Prelude.{ℕ, suc, List, [], ◌∷◌, ◌++◌, if◌then◌else◌}
use Rattle.abc_lines.specs.declared.book.Line.{Line}
use Rattle.abc_lines.specs.declared.book.TuneText.{TuneText}
use Rattle.abc_lines.specs.declared.book.Book.{Book}
use Rattle.abc_lines.specs.declared.reading.LineContent.{LineContent}
use Rattle.abc_lines.specs.Books.{begins_tune, is_end_of_part, line_at}

-- the listed lines up to the first that is empty or begins a tune; the first has this number
unfoldable pub part_from : ℕ → List LineContent → List Line
part_from number [] = []
part_from number (line ∷ more) =
    if is_end_of_part line then [] else line_at number line more ++ part_from (suc number) more

-- the tune that begins with this line
abbrev pub tune_from : ℕ → ℕ → LineContent → List LineContent → TuneText
tune_from ordinal number line more =
    record { ordinal = ordinal; lines = line_at number line more ++ part_from (suc number) more }

-- the tunes that begin in these lines
unfoldable pub tunes_from : ℕ → ℕ → List LineContent → List TuneText
tunes_from ordinal number [] = []
tunes_from ordinal number (line ∷ more) =
    if begins_tune line then tune_from ordinal number line more ∷ tunes_from (suc ordinal) (suc number) more
    else tunes_from ordinal (suc number) more

abbrev pub book_from : List LineContent → Book
book_from lines = record { header = part_from 1 lines; tunes = tunes_from 1 1 lines }
