-- Words in parentheses, as in a line of a page.
use Rattle.std.specs.Prelude.{ℕ, ◌/◌, ◌%◌, Bool, ◌||◌, ◌==◌, nat_lt, if◌then◌else◌, List, [], ◌∷◌, ◌++◌, flat_map}
use Rattle.glyph_paths.specs.Characters.{backslash, close_parenthesis, digit, open_parenthesis, space}

-- a parenthesis or a backslash
abbrev pub is_special : ℕ → Bool
is_special b = (b == open_parenthesis) || (b == close_parenthesis) || (b == backslash)

-- a backslash precedes parentheses, backslashes and the three octal digits of a byte past 7E; other bytes are as they
-- are
unfoldable pub shown : ℕ → List ℕ
shown b = if is_special b then backslash ∷ b ∷ []
    else if nat_lt b 127 then b ∷ []
    else backslash ∷ digit (b / 64) ∷ digit (b / 8 % 8) ∷ digit (b % 8) ∷ []

-- words in parentheses, with a space after them
unfoldable pub in_parentheses : List ℕ → List ℕ
in_parentheses words = open_parenthesis ∷ flat_map shown words ++ close_parenthesis ∷ space ∷ []

-- words in parentheses, and nothing after them
unfoldable pub quoted : List ℕ → List ℕ
quoted words = open_parenthesis ∷ flat_map shown words ++ close_parenthesis ∷ []
