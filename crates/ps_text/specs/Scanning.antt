-- What the reader of a line takes from its start.
use Rattle.std.specs.{Prelude.{◌≡◌, ℕ, ℤ, ◌/◌, ◌%◌, ◌≤◌, ◌<◌, ◌==◌, Bool, not, List, ◌∷◌, ◌++◌}, Fmt.signed_decimal}
use Rattle.{glyph_paths.specs.Characters.{digit, space}, ps_text.specs.Range.{IsNumber}}

-- a byte that is no space
abbrev pub is_field_byte : ℕ → Bool
is_field_byte b = not (b == space)

-- a text begins with a number of a page and a space
pub record ReadsNumber (z : ℤ) (rest bytes : List ℕ) : Type 0 where
  pub number : IsNumber z
  pub spelled : bytes ≡ signed_decimal z ++ space ∷ rest

-- a byte past 7E is shown by a first octal digit and two more at the start of a text
pub record IsOctal (z : ℕ) (rest : List ℕ) (first : ℕ) (bytes : List ℕ) : Type 0 where
  pub low : 160 ≤ z
  pub high : z < 256
  pub leading : first ≡ digit (z / 64)
  pub others : bytes ≡ digit (z / 8 % 8) ∷ digit (z % 8) ∷ rest
