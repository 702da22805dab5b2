-- A meter or unit length that is read has good numbers.
use Rattle.std.proofs.Common.{◌≡◌, refl, ℕ, ◌+◌, ◌*◌, ◌-◌, ◌≤◌, List, [], ◌∷◌, true, length, arith, subst, IfSome, not}
use Rattle.std.proofs.Common.{◌==◌}
use Rattle.std.{proofs.lemmas.Bool.{and_parts, leb-true, Decides.nat_tests}, specs.List.list_all}
use Rattle.mus_units.specs.Good.{IsGoodMeter, IsGoodUnit}
use Rattle.abc_field.specs.{Meters.{meter_of, unit_of}, Numbers.{is_digit, is_number, value_after, value_of}}
use Rattle.abc_field.specs.MeterSpelling.{MeterForm, sum_form, wrapped_form, IsGoodMeterForm, meter_meant, value_sum}
use Rattle.abc_field.specs.MeterSpelling.{UnitForm, whole_form}
use Rattle.abc_field.specs.MeterSpelling.{over_form, IsGoodUnitForm, unit_meant}
use Rattle.abc_field.proofs.{MeterForms.{meter-says, unit-says}, ReadLaws.option_case}

value_after-grows : (ds : List ℕ) (n : ℕ) → n ≤ value_after n ds
value_after-grows [] n = omega arith
value_after-grows (d ∷ ds) n = omega (arith, value_after-grows ds (n * 10 + (d - 48)))

not_zero : (d : ℕ) → is_digit d ≡ true → not (d == 48) ≡ true → 49 ≤ d
not_zero d h e = let low = leb-true 48 d (and_parts _ _ h).0 in grind (arith, nat_tests)

number-positive : (s : List ℕ) → is_number s ≡ true → 1 ≤ value_of s
number-positive [] h = cc
number-positive (d ∷ ds) h =
    let tests = and_parts _ _ (and_parts _ _ h).1 in
    omega (arith, not_zero d (and_parts _ _ tests.0).0 tests.1, value_after-grows ds (0 * 10 + (d - 48)))

sum-positive : (terms : List (List ℕ)) → 1 ≤ length terms → list_all is_number terms ≡ true → 1 ≤ value_sum terms
sum-positive [] some all = absurd (omega arith)
sum-positive (term ∷ terms) some all = omega (arith, number-positive term (and_parts _ _ all).0)

form-good : (form : MeterForm) → IsGoodMeterForm form → IsGoodMeter (meter_meant form)
form-good (sum_form terms below) good = (sum-positive terms good.some good.numbers, good.few, good.halving)
form-good (wrapped_form terms below) good = (sum-positive terms good.some good.numbers, good.few, good.halving)
form-good _ good = tt

-- a meter that is read is good
pub meter_good : (text : List ℕ) → IfSome (meter_of text) (λ m. IsGoodMeter m)
meter_good text =
    option_case (λ o. IfSome o (λ m. IsGoodMeter m)) (meter_of text)
    (λ meter read.
    let writes = (meter-says text meter read).writes in
    subst (λ m. IsGoodMeter m) writes.meant (form-good writes.form writes.good))
    (λ none. tt)

unit-form-good : (form : UnitForm) → IsGoodUnitForm form → IsGoodUnit (unit_meant form)
unit-form-good whole_form good = (refl, refl)
unit-form-good (over_form below) good = (refl, good.1)

-- a unit length that is read is good
pub unit_good : (text : List ℕ) → IfSome (unit_of text) (λ u. IsGoodUnit u)
unit_good text =
    option_case (λ o. IfSome o (λ u. IsGoodUnit u)) (unit_of text)
    (λ unit read.
    let writes = (unit-says text unit read).writes in
    subst (λ u. IsGoodUnit u) writes.meant (unit-form-good writes.form writes.good))
    (λ none. tt)
