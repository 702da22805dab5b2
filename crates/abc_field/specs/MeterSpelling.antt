-- How meters and unit lengths are written: each form with its spelling, when it is good, and what it means. Blanks
-- around the whole text are ignored.
use Prim.Native.Char.{code}
use Rattle.std.specs.Prelude.{◌≡◌, ℕ, ◌+◌, ◌≤◌, List, [], ◌∷◌, ◌++◌, IsTrue, ⊤, length, codes}
use Rattle.std.specs.List.{list_all, join_with_byte}
use Rattle.mus_units.specs.declared.key.Meter.{Meter}
use Rattle.mus_units.specs.declared.value.Frac.{Frac}
use Rattle.mus_units.specs.Good.{is_halving}
use Rattle.abc_field.specs.Numbers.{is_number, value_of}
use Rattle.abc_field.specs.WordSpelling.{IsBetweenBlanks}

-- A meter is C, C with a bar line, the word none or nothing; or numbers with a plus sign between each two, over a
-- number, with or without parentheses around the numbers above. A number is kept as the digits that write it.
pub data MeterForm : Type 0 where
  common_form : MeterForm
  cut_form : MeterForm
  none_form : MeterForm
  empty_form : MeterForm
  sum_form : (terms : List (List ℕ)) (below : List ℕ) → MeterForm
  wrapped_form : (terms : List (List ℕ)) (below : List ℕ) → MeterForm

abbrev pub sum_spelled : List (List ℕ) → List ℕ
sum_spelled terms = join_with_byte (code "+") terms

abbrev pub meter_spelled : MeterForm → List ℕ
meter_spelled common_form = codes "C"
meter_spelled cut_form = codes "C|"
meter_spelled none_form = codes "none"
meter_spelled empty_form = []
meter_spelled (sum_form terms below) = sum_spelled terms ++ code "/" ∷ below
meter_spelled (wrapped_form terms below) = code "(" ∷ (sum_spelled terms ++ code ")" ∷ code "/" ∷ below)

-- the sum of the numbers that the terms write
abbrev pub value_sum : List (List ℕ) → ℕ
value_sum [] = 0
value_sum (term ∷ terms) = value_of term + value_sum terms

-- At least one term, each of them a number, with a sum of at most 99; below them a number that halves a whole note.
-- Since no number is 0, the sum is at least 1.
pub record IsGoodSum (terms : List (List ℕ)) (below : List ℕ) : Type 0 where
  pub some : 1 ≤ length terms
  pub numbers : IsTrue (list_all is_number terms)
  pub few : value_sum terms ≤ 99
  pub number : IsTrue (is_number below)
  pub halving : IsTrue (is_halving (value_of below))

abbrev pub IsGoodMeterForm : MeterForm → Type 0
IsGoodMeterForm common_form = ⊤
IsGoodMeterForm cut_form = ⊤
IsGoodMeterForm none_form = ⊤
IsGoodMeterForm empty_form = ⊤
IsGoodMeterForm (sum_form terms below) = IsGoodSum terms below
IsGoodMeterForm (wrapped_form terms below) = IsGoodSum terms below

abbrev pub meter_meant : MeterForm → Meter
meter_meant common_form = Meter.Common
meter_meant cut_form = Meter.Cut
meter_meant none_form = Meter.Free
meter_meant empty_form = Meter.Free
meter_meant (sum_form terms below) = Meter.Ratio (value_sum terms) (value_of below)
meter_meant (wrapped_form terms below) = Meter.Ratio (value_sum terms) (value_of below)

-- s is how the meter is written
pub record WritesMeter (s : List ℕ) (meter : Meter) : Type 0 where
  pub form : MeterForm
  pub good : IsGoodMeterForm form
  pub spelled : s ≡ meter_spelled form
  pub meant : meter_meant form ≡ meter

-- the text, without the blanks around it, is how the meter is written
pub record SaysMeter (text : List ℕ) (meter : Meter) : Type 0 where
  pub core : List ℕ
  pub between : IsBetweenBlanks text core
  pub writes : WritesMeter core meter

-- A unit length is 1, or 1 over a number.
pub data UnitForm : Type 0 where
  whole_form : UnitForm
  over_form : (below : List ℕ) → UnitForm

abbrev pub unit_spelled : UnitForm → List ℕ
unit_spelled whole_form = codes "1"
unit_spelled (over_form below) = code "1" ∷ code "/" ∷ below

-- the number below halves a whole note
abbrev pub IsGoodUnitForm : UnitForm → Type 0
IsGoodUnitForm whole_form = ⊤
IsGoodUnitForm (over_form below) = IsTrue (is_number below) × IsTrue (is_halving (value_of below))

abbrev pub unit_meant : UnitForm → Frac
unit_meant whole_form = record { num = 1; den = 1 }
unit_meant (over_form below) = record { num = 1; den = value_of below }

-- s is how the unit length is written
pub record WritesUnit (s : List ℕ) (unit : Frac) : Type 0 where
  pub form : UnitForm
  pub good : IsGoodUnitForm form
  pub spelled : s ≡ unit_spelled form
  pub meant : unit_meant form ≡ unit

-- the text, without the blanks around it, is how the unit length is written
pub record SaysUnit (text : List ℕ) (unit : Frac) : Type 0 where
  pub core : List ℕ
  pub between : IsBetweenBlanks text core
  pub writes : WritesUnit core unit
