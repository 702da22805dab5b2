-- The lines of an input: its pieces between line ends, without the carriage return at the end, each in Latin-1 and
-- without its comment.
use Prim.Native.Char.{code}
use Rattle.std.specs.Prelude.{◌-◌, ◌+◌, ◌&&◌, not, ℕ, List, [], ◌∷◌, length, Bool, false, ◌==◌, if◌then◌else◌, take}
use Rattle.std.specs.Prelude.{drop, map, nat_eq, nat_le, codes}
use Rattle.std.specs.List.{slice_split, position_or_len, prefix_len, starts_with, ends_with}
use Rattle.std.specs.Str.{is_utf8, chars}
use Rattle.abc_lines.specs.declared.reading.LineContent.{LineContent}
use Rattle.abc_lines.specs.Kinds.{is_percent_line}
use Rattle.abc_lines.specs.declared.reading.LineContent.TheVariants.{Empty, Comment, Written}
use Rattle.mus_units.specs.Bytes.{is_blank, before_blanks}

abbrev pub is_end : ℕ → Bool
is_end byte = byte == code "\n"

-- the byte order mark that the input may begin with
abbrev pub byte_order_mark : List ℕ
byte_order_mark = 239 ∷ 187 ∷ 191 ∷ []

abbrev pub without_mark : List ℕ → List ℕ
without_mark bytes = if starts_with nat_eq bytes byte_order_mark then drop 3 bytes else bytes

-- the pieces between line ends; a last piece without a line end is a line if it has a byte
abbrev pub without_last_empty : List (List ℕ) → List (List ℕ)
without_last_empty [] = []
without_last_empty (line ∷ []) = if length line == 0 then [] else line ∷ []
without_last_empty (line ∷ next ∷ more) = line ∷ without_last_empty (next ∷ more)

abbrev pub lines_of : List ℕ → List (List ℕ)
lines_of bytes = without_last_empty (slice_split is_end bytes)

-- one carriage return at the end is not part of the line
abbrev pub without_return : List ℕ → List ℕ
without_return line = if ends_with nat_eq line (codes "\r") then take (length line - 1) line else line

-- a character in Latin-1; a question mark if it has none
abbrev pub narrow : ℕ → ℕ
narrow character = if nat_le character 255 then character else code "?"

-- UTF-8 is read as such, other bytes are Latin-1 already
unfoldable pub in_latin : List ℕ → List ℕ
in_latin line = if is_utf8 line then map narrow (chars line) else line

-- the number of bytes before the first percent sign that has no backslash before it; the flag says whether a
-- backslash comes directly before these bytes
abbrev pub comment_len : Bool → List ℕ → ℕ
comment_len escaped [] = 0
comment_len escaped (byte ∷ rest) =
    if byte == code "%" && not escaped then 0 else 1 + comment_len (byte == code "\\") rest

unfoldable pub without_comment : List ℕ → List ℕ
without_comment text = before_blanks (take (comment_len false text) text)

-- nothing but spaces and tabs
abbrev pub is_empty_text : List ℕ → Bool
is_empty_text text = prefix_len is_blank text == length text

abbrev pub written : List ℕ → LineContent
written text = if length text == 0 then Comment else Written text

-- the content of a line in Latin-1; `%%` lines have no comment
abbrev pub reading_of : List ℕ → LineContent
reading_of text =
    if is_empty_text text then Empty
    else (if is_percent_line text then Written text else written (without_comment text))

unfoldable pub reading : List ℕ → LineContent
reading line = reading_of (in_latin (without_return line))

-- all lines of an input, after a byte order mark
unfoldable pub readings : List ℕ → List LineContent
readings bytes = map reading (lines_of bytes)

abbrev pub tail_of : List ℕ → List ℕ
tail_of [] = []
tail_of (byte ∷ rest) = rest

-- up to the first line end, and the rest after it
unfoldable pub first_line : List ℕ → List ℕ × List ℕ
first_line bytes = (take (position_or_len is_end bytes) bytes, tail_of (drop (position_or_len is_end bytes) bytes))
