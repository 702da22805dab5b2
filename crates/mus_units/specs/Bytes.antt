-- Bytes of a text: their classes, and what is left without spaces and tabs at the ends.
use Rattle.std.specs.Prelude.{ℕ, ◌-◌, ◌&&◌, ◌||◌, ◌==◌, nat_le, Bool, false, List, [], ◌∷◌, take, drop, length, codes}
use Rattle.std.specs.List.{prefix_len, suffix_len}

-- the byte lies between the two, both included
abbrev pub is_within : List ℕ → ℕ → Bool
is_within (low ∷ high ∷ []) byte = nat_le low byte && nat_le byte high
is_within _ byte = false

abbrev pub is_digit : ℕ → Bool
is_digit byte = is_within (codes "09") byte

abbrev pub is_letter : ℕ → Bool
is_letter byte = is_within (codes "AZ") byte || is_within (codes "az") byte

-- the byte is one of the two
abbrev pub is_either : List ℕ → ℕ → Bool
is_either (one ∷ other ∷ []) byte = byte == one || byte == other
is_either _ byte = false

-- a space or a tab
abbrev pub is_blank : ℕ → Bool
is_blank byte = is_either (codes " \t") byte

-- the rest after the leading blanks
abbrev pub after_blanks : List ℕ → List ℕ
after_blanks text = drop (prefix_len is_blank text) text

-- what comes before the trailing blanks
abbrev pub before_blanks : List ℕ → List ℕ
before_blanks text = take (length text - suffix_len is_blank text) text

-- what is left without the blanks at both ends
abbrev pub trimmed : List ℕ → List ℕ
trimmed text = before_blanks (after_blanks text)
