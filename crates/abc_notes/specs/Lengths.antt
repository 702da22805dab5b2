-- Numbers and lengths. A number has digits, no leading zero, and no more digits than allowed. A length is a number of
-- at most four digits or none, followed by nothing, by a slash and such a number, or by one to six slashes, each of
-- which halves. What they mean, and how they are read.
use Prim.Native.Char.{code}
use Rattle.std.specs.Prelude.{◌≡◌, ℕ, zero, suc, ◌≤◌, ◌^◌, List, [], ◌∷◌, ◌++◌, length, Bool, true, false, ◌==◌}
use Rattle.std.specs.Prelude.{if◌then◌else◌}
use Rattle.std.specs.List.{list_all}
use Rattle.std.specs.Str.Parse.{digits_value}
use Rattle.abc_notes.specs.declared.part.Len.{Len}
use Rattle.abc_notes.specs.Runs.{copies, span, begins}
use Rattle.mus_units.specs.Bytes.{is_digit}

-- the digits of a number: at least one, at most `most`, and no leading zero
pub record AreNumberDigits (most : ℕ) (ds : List ℕ) : Type 0 where
  pub some : 1 ≤ length ds
  pub few : length ds ≤ most
  pub digits : list_all is_digit ds ≡ true
  pub no_zero : begins (λ b. b == code "0") ds ≡ false

-- a number or none
abbrev pub IsCount : ℕ → List ℕ → Type 0
IsCount most [] = Unit {0}
IsCount most (d ∷ ds) = AreNumberDigits most (d ∷ ds)

abbrev pub count_of : List ℕ → ℕ
count_of [] = 1
count_of (d ∷ ds) = digits_value 10 (d ∷ ds)

-- a number or none, followed by nothing, by a slash and a number, or by slashes
pub data LengthForm : Type 0 where
  whole : (count : List ℕ) → LengthForm
  over : (count below : List ℕ) → LengthForm
  halved : (count : List ℕ) (slashes : ℕ) → LengthForm

-- its bytes, and the rest after them
abbrev pub length_then : LengthForm → List ℕ → List ℕ
length_then (whole count) rest = count ++ rest
length_then (over count below) rest = count ++ (code "/" ∷ (below ++ rest))
length_then (halved count slashes) rest = count ++ copies slashes (code "/") rest

abbrev pub IsWrittenLength : LengthForm → Type 0
IsWrittenLength (whole count) = IsCount 4 count
IsWrittenLength (over count below) = IsCount 4 count × AreNumberDigits 4 below
IsWrittenLength (halved count slashes) = IsCount 4 count × (1 ≤ slashes) × (slashes ≤ 6)

abbrev pub len_of : LengthForm → Len
len_of (whole count) = record { num = count_of count; den = 1 }
len_of (over count below) = record { num = count_of count; den = count_of below }
len_of (halved count slashes) = record { num = count_of count; den = 2 ^ slashes }

-- a number at the start, and the rest
unfoldable pub number_at : ℕ → List ℕ → List ℕ × List ℕ
number_at most s = if begins (λ b. b == code "0") s then ([], s) else span is_digit most s

abbrev pub is_slash : ℕ → Bool
is_slash b = b == code "/"

-- after the first number: up to six slashes, and a number after a lone slash
abbrev pub below_at : List ℕ → List ℕ × List ℕ → List ℕ × List ℕ → LengthForm × List ℕ
below_at count ([], rest) below = (whole count, rest)
below_at count (_ ∷ [], rest) ([], _) = (halved count 1, rest)
below_at count (_ ∷ [], rest) (d ∷ ds, after) = (over count (d ∷ ds), after)
below_at count (x ∷ y ∷ ys, rest) below = (halved count (length (x ∷ y ∷ ys)), rest)

unfoldable pub length_from : List ℕ → LengthForm × List ℕ
length_from s =
    let count = number_at 4 s in
    let slashes = span is_slash 6 count.1 in
    below_at count.0 slashes (number_at 4 slashes.1)

abbrev pub length_read : Len → List ℕ → Len × List ℕ
length_read len rest = (len, rest)

-- ten to the number of digits, which are at most four
abbrev pub limit_at : ℕ → ℕ
limit_at zero = 1
limit_at (suc zero) = 10
limit_at (suc (suc zero)) = 100
limit_at (suc (suc (suc zero))) = 1000
limit_at (suc (suc (suc (suc n)))) = 10000
