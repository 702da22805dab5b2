-- Directives: their name, and what those about line breaks and accidentals say.
use Rattle.std.specs.Prelude.{ℕ, List, Bool, ◌||◌, not, if◌then◌else◌, take, drop, codes, Option, Some, None}
use Rattle.std.specs.List.{prefix_len, list_any}
use Rattle.std.specs.Str.{bytes_eq}
use Rattle.mus_units.specs.declared.key.Spread.{Spread}
use Rattle.abc_lines.specs.Kinds.{is_blank}
use Rattle.abc_field.specs.declared.directive.Breaks.{Breaks}
use Rattle.abc_field.specs.Words.{words_of, trimmed}

-- the name is the text before the first blank
abbrev pub name_len : List ℕ → ℕ
name_len text = prefix_len (λ b. not (is_blank b)) text

unfoldable pub name_of : List ℕ → List ℕ
name_of text = take (name_len text) text

-- the text of a directive after its name
unfoldable pub rest_of : List ℕ → List ℕ
rest_of text = trimmed (drop (name_len text) text)

abbrev pub has_word : List ℕ → List ℕ → Bool
has_word text word = list_any (λ w. bytes_eq w word) (words_of text)

-- at least one of the known words
abbrev pub names_breaks : List ℕ → Bool
names_breaks text =
    (has_word text (codes "<EOL>") || has_word text (codes "$"))
    || (has_word text (codes "!") || has_word text (codes "<none>"))

unfoldable pub breaks_of : List ℕ → Option Breaks
breaks_of text =
    if names_breaks text
    then Some
    (record {
      eol = has_word text (codes "<EOL>");
      dollar = has_word text (codes "$");
      bang = has_word text (codes "!");
    })
    else None

unfoldable pub spread_of : List ℕ → Option Spread
spread_of text =
    if bytes_eq text (codes "not") then Some Spread.Not
    else (if bytes_eq text (codes "octave") then Some Spread.Octave
    else (if bytes_eq text (codes "pitch") then Some Spread.Pitch else None))
