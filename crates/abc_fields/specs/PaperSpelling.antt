-- How paper lengths and the scale are written: each form with its spelling, when it is good, and what it means. A
-- number is one or more digits, optionally followed by a point and one or two digits.
use Rattle.std.specs.Prelude.{◌≡◌, ℕ, ◌+◌, ◌*◌, ◌/◌, ◌≤◌, List, [], ◌∷◌, ◌++◌, IsTrue, length, take, codes}
use Rattle.std.specs.List.{list_all}
use Rattle.abc_field.specs.Numbers.{is_digit, value_of}

-- a number as its digits before and after the point; if there are none after it, there is no point
pub record PaperNumber : Type 0 where
  pub whole : List ℕ
  pub decimals : List ℕ

-- The spelling of each form, followed by the rest of the text.
abbrev pub point_spelled : List ℕ → List ℕ → List ℕ
point_spelled [] rest = rest
point_spelled (d ∷ ds) rest = codes "." ++ ((d ∷ ds) ++ rest)

abbrev pub number_spelled : PaperNumber → List ℕ → List ℕ
number_spelled number rest = number.whole ++ point_spelled number.decimals rest

pub record IsGoodNumber (number : PaperNumber) : Type 0 where
  pub some : 1 ≤ length number.whole
  pub whole_digits : IsTrue (list_all is_digit number.whole)
  pub few : length number.decimals ≤ 2
  pub decimal_digits : IsTrue (list_all is_digit number.decimals)

-- a number in hundredths; an unwritten decimal is a zero
abbrev pub hundredths : PaperNumber → ℕ
hundredths number = 100 * value_of number.whole + value_of (take 2 (number.decimals ++ codes "00"))

-- A length is a number and a unit: points, inches or centimetres.
pub data LengthUnit : Type 0 where
  points : LengthUnit
  inches : LengthUnit
  centimetres : LengthUnit

abbrev pub length_unit_spelled : LengthUnit → List ℕ
length_unit_spelled points = codes "pt"
length_unit_spelled inches = codes "in"
length_unit_spelled centimetres = codes "cm"

-- Hundredths of a unit in hundredths of a point. An inch is 72 points, and 127 hundredths of a centimetre are half an
-- inch, 3600 hundredths of a point; the remainder is dropped.
abbrev pub in_points : LengthUnit → ℕ → ℕ
in_points points v = v
in_points inches v = 72 * v
in_points centimetres v = v * 3600 / 127

-- the text writes that many hundredths of a point; no paper length is above 100,000
pub record WritesLength (text : List ℕ) (size : ℕ) : Type 0 where
  pub number : PaperNumber
  pub unit : LengthUnit
  pub good : IsGoodNumber number
  pub spelled : text ≡ number_spelled number (length_unit_spelled unit)
  pub meant : in_points unit (hundredths number) ≡ size
  pub small : size ≤ 100000

-- the text writes that scale: a number from 0.40 to 1.50, here in percent
pub record WritesScale (text : List ℕ) (percent : ℕ) : Type 0 where
  pub number : PaperNumber
  pub good : IsGoodNumber number
  pub spelled : text ≡ number_spelled number []
  pub meant : hundredths number ≡ percent
  pub low : 40 ≤ percent
  pub high : percent ≤ 150
