-- A tune has one header, whose values are good, or one first fault of its header.
use Rattle.std.proofs.Common.{◌≡◌, refl, ℕ, ◌+◌, ◌*◌, ◌≤◌, ◌⊎◌, inl, inr, List, [], ◌∷◌, Bool, true, false, length}
use Rattle.std.proofs.Common.{arith}
use Rattle.std.proofs.lemmas.Bool.{cond_both}
use Rattle.std.proofs.lemmas.Bool.Decides.{nat_tests}
use Rattle.std.proofs.lemmas.List.Quantifiers.{position-Some}
use Rattle.std.specs.Prelude.{Option, Some, None, IfSome, IfOk, Result, Ok, Err, fold, nat_lt, unwrap_or}
use Rattle.std.specs.Prelude.{if◌then◌else◌}
use Rattle.std.specs.Option.{option_or}
use Rattle.mus_units.specs.declared.key.Key.{Key}
use Rattle.mus_units.specs.declared.key.Meter.{Meter}
use Rattle.mus_units.specs.declared.key.Sign.{Sign}
use Rattle.mus_units.specs.declared.value.Frac.{Frac}
use Rattle.mus_units.specs.Good.{AreGoodSigns, IsGoodMeter, IsGoodUnit}
use Rattle.mus_pitch.proofs.SignLaws.{laid_good}
use Rattle.abc_lines.specs.declared.book.Line.{Line}
use Rattle.abc_lines.specs.declared.book.TuneText.{TuneText}
use Rattle.abc_lines.specs.declared.fault.Fault.{Fault}
use Rattle.abc_lines.specs.declared.fault.FaultKind.{FaultKind}
use Rattle.abc_lines.specs.Results.{HasOneResult}
use Rattle.law_one_outcome.proofs.GoodFields.{GoodRead, field_good}
use Rattle.abc_field.specs.declared.field.Field.{Field}
use Rattle.abc_field.specs.declared.key.KeyText.{KeyText}
use Rattle.abc_field.specs.Fields.{field_of}
use Rattle.abc_field.specs.Keys.{GoodKeyIn, IsGoodKeyText, over_by}
use Rattle.abc_field.specs.Last.{last_of}
use Rattle.abc_field.specs.Meters.{default_unit}
use Rattle.abc_fields.specs.declared.defaults.Defaults.{Defaults}
use Rattle.abc_fields.specs.declared.header.Header.{Header}
use Rattle.abc_fields.specs.Defaults.{line_of}
use Rattle.abc_fields.specs.Good.{GoodUnitIn, IsGoodDefaults}
use Rattle.abc_fields.specs.Voicing.{ids_after, ids_of}
use Rattle.abc_fields.proofs.HeaderLaws.{last_key-good, last_meter-good, last_unit-good, voices-distinct, voices-few}
use Rattle.abc_fields.specs.Headers.{is_key_line, key_place, key_in, meter_in, unit_in, key_signs, unit_by, meter_from}
use Rattle.abc_fields.specs.Headers.{staves_from, header_of, put_field, fields_of, line_fault, field_fault, ids_with}
use Rattle.abc_fields.specs.Headers.{first_fault, head_lines, first_line_number, no_key, fault_by, header_fault}
use Rattle.abc_fields.specs.Headers.{IsHeaderBy, IsHeaderOf, IsHeaderResult, AreGoodFields, HasGoodValues}
use Rattle.abc_fields.specs.Headers.{IsGoodHeader}
use Rattle.abc_fields.proofs.OneHeader.{one_header}

put_good : (read : Result Field FaultKind) (fs : List Field)
    → GoodRead read → AreGoodFields fs → AreGoodFields (put_field read fs)
put_good (Ok f) fs good all = (good, all)
put_good (Err kind) fs good all = all

fields_good : (lines : List Line) → AreGoodFields (fields_of lines)
fields_good [] = tt
fields_good (line ∷ lines) = put_good (field_of line.text) (fields_of lines) (field_good line.text) (fields_good lines)

-- ---- if no line is at fault, at most 16 voices are mentioned
few_if : (n : ℕ) (fault : Fault) (others : Option Fault) (past : Bool)
    → nat_lt 16 n ≡ past → option_or (if past then Some fault else None) others ≡ None → (n ≤ 16) × (others ≡ None)
few_if n fault others true e none = absurd cc
few_if n fault others false e none = (grind (arith, nat_tests), none)

few_after : (ids : List (List ℕ)) (line : Line) (lines : List Line) (read : Result Field FaultKind)
    → option_or (field_fault ids line read) (first_fault (ids_with ids read) lines) ≡ None
    → ((known : List (List ℕ))
    → length known ≤ 16 → first_fault known lines ≡ None → length (fold ids_after known (fields_of lines)) ≤ 16)
    → length (fold ids_after ids (put_field read (fields_of lines))) ≤ 16
few_after ids line lines (Err kind) none next = absurd cc
few_after ids line lines (Ok f) none next =
    let known = ids_after ids f in
    let few = few_if (length known) (line_fault FaultKind.TooManyVoices line) (first_fault known lines)
    (nat_lt 16 (length known)) refl none in
    next known few.0 few.1

few_ids : (lines : List Line) (ids : List (List ℕ))
    → length ids ≤ 16 → first_fault ids lines ≡ None → length (fold ids_after ids (fields_of lines)) ≤ 16
few_ids [] ids few none = few
few_ids (line ∷ lines) ids few none = few_after ids line lines (field_of line.text) none (few_ids lines)

-- ---- the values of good fields are good
no_signs : AreGoodSigns []
no_signs letter = omega arith

over_good : (adds : List Sign) (key : Option Key) → GoodKeyIn key → AreGoodSigns (over_by [] adds key)
over_good adds None good = laid_good [] adds no_signs
over_good adds (Some key) good = good

signs_good : (o : Option KeyText) → IfSome o (λ k. IsGoodKeyText k) → AreGoodSigns (key_signs o)
signs_good None good = no_signs
signs_good (Some k) good = over_good k.adds k.key good

meter_or : (own : Option Meter) (other : Meter)
    → IfSome own (λ m. IsGoodMeter m) → IsGoodMeter other → IsGoodMeter (unwrap_or own other)
meter_or None other good others = others
meter_or (Some m) other good others = good

default_good : (meter : Meter) → IsGoodUnit (default_unit meter)
default_good (Meter.Ratio num den) =
    cond_both {A = Frac} (nat_lt (4 * num) (3 * den)) (record { num = 1; den = 16 }) (record { num = 1; den = 8 })
    (λ u. IsGoodUnit u) (λ e. (refl, refl)) (λ e. (refl, refl))
default_good _ = (refl, refl)

unit_or : (own other : Option Frac) (meter : Meter)
    → GoodUnitIn own → GoodUnitIn other → IsGoodUnit (unit_by own other meter)
unit_or (Some unit) other meter good others = good
unit_or None (Some unit) meter good others = others
unit_or None None meter good others = default_good meter

values_good : (fs : List Field) (defaults : Defaults) (staves : Option Line) (body : ℕ)
    → AreGoodFields fs → IsGoodDefaults defaults → length (ids_of fs) ≤ 16
    → HasGoodValues (header_of fs defaults staves body)
values_good fs defaults staves body all good few = record {
  key = signs_good (last_of key_in fs) (last_key-good fs all);
  meter = meter_or (last_of meter_in fs) defaults.meter (last_meter-good fs all) good.0;
  unit = unit_or (last_of unit_in fs) defaults.unit (meter_from fs defaults) (last_unit-good fs all) good.1;
  few = voices-few fs few;
  distinct = voices-distinct fs;
}

-- ---- the header, by the place of its `K:`
abbrev HasHeader : TuneText → Defaults → Option ℕ → Type 0
HasHeader tune defaults place =
    ((f : Fault) × (fault_by tune place ≡ Some f))
    ⊎ ((h : Header) × IsHeaderBy tune defaults h place × (fault_by tune place ≡ None) × IsGoodHeader tune h)

by_place : (tune : TuneText) (defaults : Defaults) (place : Option ℕ)
    → IsGoodDefaults defaults → key_place tune.lines ≡ place → HasHeader tune defaults place
by_place tune defaults None good at = inl (no_key tune, refl)
by_place tune defaults (Some place) good at = by_fault (first_fault [] (head_lines tune place)) refl
  where
    by_fault : (fault : Option Fault)
        → first_fault [] (head_lines tune place) ≡ fault → HasHeader tune defaults (Some place)
    by_fault (Some fault) e = inl (fault, e)
    by_fault None e =
        let lines = head_lines tune place in
        let staves = staves_from lines defaults (first_line_number tune.lines) in
        let within = (position-Some is_key_line tune.lines place (line_of 0 []) at).0 in
        let values = values_good (fields_of lines) defaults staves (place + 1) (fields_good lines) good
        (few_ids lines [] (omega arith) e) in
        inr (header_of (fields_of lines) defaults staves (place + 1), refl, e, (values, omega (arith, within)))

header_or_fault : (tune : TuneText) (defaults : Defaults) → IsGoodDefaults defaults
    → ((f : Fault) × (header_fault tune ≡ Some f))
    ⊎ ((h : Header) × IsHeaderOf tune defaults h × (header_fault tune ≡ None) × IsGoodHeader tune h)
unfolding header_fault IsHeaderOf
header_or_fault tune defaults good = by_place tune defaults (key_place tune.lines) good refl

pub has_header : (tune : TuneText) (defaults : Defaults) → IsGoodDefaults defaults
    → (one : HasOneResult (IsHeaderResult tune defaults)) × IfOk one.0 (λ h. IsGoodHeader tune h)
has_header tune defaults good = elim (header_or_fault tune defaults good) [
  | inl f ↦ ((Err f.0, f.1, one_header tune defaults (Err f.0) f.1), tt)
  | inr h ↦ ((Ok h.0, (h.1, h.2), one_header tune defaults (Ok h.0) (h.1, h.2)), h.3)
]
