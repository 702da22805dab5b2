-- Words of a text: the pieces between its spaces and tabs. If quotes count, the text between two quotes is not split.
use Prim.Native.Char.{code}
use Rattle.std.specs.Prelude.{ℕ, suc, List, [], ◌∷◌, Bool, true, false, ◌==◌, ◌&&◌, not, if◌then◌else◌, filter, take}
use Rattle.std.specs.Prelude.{drop, length, nat_eq, Option, Some, None}
use Rattle.std.specs.List.{onto_first, starts_with}
use Rattle.mus_units.specs.Bytes.{trimmed as between_blanks}
use Rattle.abc_lines.specs.Kinds.{is_blank, after_blanks}

abbrev pub is_empty : List ℕ → Bool
is_empty [] = true
is_empty (b ∷ s) = false

-- whether the position after this byte is between quotes
abbrev pub quoted_after : Bool → Bool → ℕ → Bool
quoted_after quotes quoted b = if quotes && b == code "\"" then not quoted else quoted

abbrev pub parts_words : Bool → ℕ → Bool
parts_words quoted b = is_blank b && not quoted

-- the pieces between blanks, empty ones too
abbrev pub pieces : Bool → Bool → List ℕ → List (List ℕ)
pieces quotes quoted [] = [] ∷ []
pieces quotes quoted (b ∷ s) =
    if parts_words quoted b then [] ∷ pieces quotes false s
    else onto_first b (pieces quotes (quoted_after quotes quoted b) s)

-- the pieces that have a byte
unfoldable pub words_in : Bool → List ℕ → List (List ℕ)
words_in quotes s = filter (λ w. not (is_empty w)) (pieces quotes false s)

-- the words of a text in which quotes have no meaning
abbrev pub words_of : List ℕ → List (List ℕ)
words_of s = words_in false s

-- the words of a text in which quoted blanks do not separate words
abbrev pub properties_of : List ℕ → List (List ℕ)
properties_of s = words_in true s

-- a quote is open at the end
abbrev pub ends_quoted : Bool → List ℕ → Bool
ends_quoted quoted [] = quoted
ends_quoted quoted (b ∷ s) = ends_quoted (quoted_after true quoted b) s

-- what is left without the blanks at both ends
unfoldable pub trimmed : List ℕ → List ℕ
trimmed s = between_blanks s

-- What the code reads, one word after another: the length of the first word, and that word with the rest.
abbrev pub word_len : Bool → Bool → List ℕ → ℕ
word_len quotes quoted [] = 0
word_len quotes quoted (b ∷ s) =
    if parts_words quoted b then 0 else suc (word_len quotes (quoted_after quotes quoted b) s)

abbrev pub word_and_rest : Bool → List ℕ → Option (List ℕ × List ℕ)
word_and_rest quotes [] = None
word_and_rest quotes (b ∷ s) =
    Some (take (word_len quotes false (b ∷ s)) (b ∷ s), drop (word_len quotes false (b ∷ s)) (b ∷ s))

unfoldable pub next_word : Bool → List ℕ → Option (List ℕ × List ℕ)
next_word quotes s = word_and_rest quotes (after_blanks s)

-- the rest after a prefix, if the text begins with it
unfoldable pub after_prefix : List ℕ → List ℕ → Option (List ℕ)
after_prefix leading s = if starts_with nat_eq s leading then Some (drop (length leading) s) else None

-- the words: the first of them and those of the rest
abbrev pub words_after : Bool → Option (List ℕ × List ℕ) → List (List ℕ)
words_after quotes None = []
words_after quotes (Some next) = next.0 ∷ words_in quotes next.1
