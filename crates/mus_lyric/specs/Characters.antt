-- The characters of a line of words: each byte is printed or is a sign, and `\-` is a printed hyphen.
use Prim.Native.Char.{code}
use Rattle.std.specs.Prelude.{ℕ, List, [], ◌∷◌, Bool, ◌==◌, ◌&&◌, ◌||◌, if◌then◌else◌}
use Rattle.mus_lyric.specs.declared.character.Character.{Character}
use Rattle.mus_lyric.specs.declared.character.Character.TheVariants.{Printed, Blank, Hyphen, Underscore, Star, BarLine}

-- a byte by itself: space and tab, - _ * and | are signs, ~ is printed as a space, and each other byte as it is
unfoldable pub character_of : ℕ → Character
character_of byte =
    if byte == code " " || byte == code "\t" then Blank
    else (if byte == code "-" then Hyphen
    else (if byte == code "_" then Underscore
    else (if byte == code "*" then Star
    else (if byte == code "|" then BarLine
    else (if byte == code "~" then Printed (code " ")
    else Printed byte)))))

-- a backslash and a hyphen
abbrev pub is_escaped : ℕ → ℕ → Bool
is_escaped byte next = byte == code "\\" && next == code "-"

abbrev pub characters : List ℕ → List Character
characters [] = []
characters (byte ∷ []) = character_of byte ∷ []
characters (byte ∷ next ∷ more) =
    if is_escaped byte next then Printed (code "-") ∷ characters more else character_of byte ∷ characters (next ∷ more)
