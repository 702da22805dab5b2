-- Bytes of the lines of a document, by name.
use Rattle.std.specs.Prelude.{ℕ, ◌+◌}

abbrev pub line_end : ℕ
line_end = 10

abbrev pub space : ℕ
space = 32

-- ( and )
abbrev pub open_parenthesis : ℕ
open_parenthesis = 40

abbrev pub close_parenthesis : ℕ
close_parenthesis = 41

abbrev pub point : ℕ
point = 46

abbrev pub backslash : ℕ
backslash = 92

-- the digit of a number below ten
abbrev pub digit : ℕ → ℕ
digit n = 48 + n
