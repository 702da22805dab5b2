-- A text reads as a meter exactly when a good form of that meter spells it; likewise unit lengths.
use Rattle.std.proofs.Common.{◌≡◌, refl, sym, ap, ◌∙◌, ℕ, ◌+◌, ◌≤◌, List, [], ◌∷◌, ◌++◌, Bool, true, false, length}
use Rattle.std.proofs.Common.{take, drop, arith}
use Rattle.std.proofs.Common.{◌==◌, ◌||◌, not, nat_eq, nat_le, Option, Some, None, codes, take-append-drop, append-nil}
use Rattle.std.proofs.lemmas.Bool.{agree_below, agree_below_at, and_parts, cond_both, eqb-true, leb-true, le-leb}
use Rattle.std.proofs.lemmas.Bool.{not-false, not-true}
use Rattle.std.proofs.lemmas.{Slice.Eq.bytes_eq-Decides, Option.same_Some, List.Folds.list_all-append}
use Rattle.std.proofs.lemmas.List.Splits.{join_with_byte-slice_split, length-slice_split}
use Rattle.std.proofs.Math.Seq.{take-append_seam, drop-append_seam}
use Rattle.std.specs.{List.{list_all, join_with_byte, slice_split, starts_with}, Option.option_and_then}
use Rattle.mus_units.specs.declared.key.Meter.{Meter}
use Rattle.mus_units.specs.declared.value.Frac.{Frac}
use Rattle.mus_units.specs.Good.{is_halving}
use Rattle.abc_lines.specs.Kinds.{is_blank}
use Rattle.abc_field.specs.Meters.{is_plus, halving_of, with_terms, plus, sum_of, ratio, below_of, below_after}
use Rattle.abc_field.specs.Meters.{plain_ratio, wrapped_ratio, ratio_by}
use Rattle.abc_field.specs.Meters.{terms_after, ratio_of, meter_at, meter_of, one_over, unit_at, unit_of}
use Rattle.abc_field.specs.MeterSpelling.{MeterForm, common_form, cut_form, none_form, empty_form, sum_form}
use Rattle.abc_field.specs.MeterSpelling.{wrapped_form, meter_spelled, value_sum}
use Rattle.abc_field.specs.MeterSpelling.{IsGoodSum, IsGoodMeterForm, meter_meant, SaysMeter, UnitForm, whole_form}
use Rattle.abc_field.specs.MeterSpelling.{over_form, unit_spelled}
use Rattle.abc_field.specs.MeterSpelling.{IsGoodUnitForm, unit_meant, SaysUnit}
use Rattle.abc_field.specs.Numbers.{is_digit, is_number, value_of, number_of, place_of_byte, before, from_first}
use Rattle.abc_field.specs.Numbers.{after_one}
use Rattle.abc_field.specs.Words.{trimmed, after_prefix}
use Rattle.abc_field.proofs.BlankLaws.{Stops, leading-stops, prefix-stops, trimmed-between, between-trimmed}
use Rattle.abc_field.proofs.MeterLaws.{split_cut}
use Rattle.abc_field.proofs.ReadLaws.{Where, where_read, where_then, option_case, word_case, HasForm, formed}
use Rattle.abc_field.proofs.ReadLaws.{form_meant}

-- it isn't this byte, and no byte of s is
abbrev pub other : ℕ → ℕ → Bool
other byte b = not (b == byte)

abbrev pub lacks : ℕ → List ℕ → Bool
lacks byte s = list_all (other byte) s

pub none_is_some : {X : Type 0} (x : X) → ◌≡◌ {A = Option X} None (Some x) → ⊥
none_is_some x e = cc

-- What comes before and after the first such byte.
cut-at : (byte : ℕ) (s rest : List ℕ) → lacks byte s ≡ true → Stops (other byte) rest
    → (before byte (s ++ rest) ≡ s) × (from_first byte (s ++ rest) ≡ rest)
unfolding before from_first
cut-at byte s rest all stops =
    let place : place_of_byte byte (s ++ rest) ≡ length s = prefix-stops (other byte) s rest all stops in
    (rw place (take-append_seam s rest), rw place (drop-append_seam s rest))

begun : (byte : ℕ) (t : List ℕ) → Stops (other byte) t → (after_one t ≡ [] → ⊥) → t ≡ byte ∷ after_one t
begun byte [] stops some = absurd (some refl)
begun byte (b ∷ t) stops some = ap (λ c. c ∷ t) (eqb-true b byte (not-false _ stops))

-- if something follows such a byte, the first such byte separates the text
parted : (byte : ℕ) (s : List ℕ)
    → (after_one (from_first byte s) ≡ [] → ⊥) → s ≡ before byte s ++ byte ∷ after_one (from_first byte s)
unfolding before from_first
parted byte s some =
    let n : ℕ = place_of_byte byte s in
    sym (take-append-drop n s) ∙ ap (λ t. take n s ++ t) (begun byte (drop n s) (leading-stops (other byte) s) some)

-- What follows a prefix.
pub following-takes : (leading s rest : List ℕ) → after_prefix leading s ≡ Some rest → s ≡ leading ++ rest
unfolding after_prefix
following-takes leading s rest h =
    cond_both (starts_with nat_eq s leading) (Some (drop (length leading) s)) None
    (λ o. o ≡ Some rest → s ≡ leading ++ rest)
    (λ begins left.
    let same = (bytes_eq-Decides leading (take (length leading) s)).0 begins in
    sym (take-append-drop (length leading) s)
    ∙ ap (λ t. t ++ drop (length leading) s) (sym same)
    ∙ ap (λ t. leading ++ t) (same_Some _ rest left))
    (λ other nothing. absurd (none_is_some rest nothing)) h

pub following-leading : (leading rest : List ℕ) → after_prefix leading (leading ++ rest) ≡ Some rest
unfolding after_prefix
following-leading leading rest =
    let same =
    (bytes_eq-Decides leading (take (length leading) (leading ++ rest))).1 (sym (take-append_seam leading rest)) in
    rw (same, drop-append_seam leading rest) refl

-- A test that each of the ten digits passes.
abbrev DigitsPass : (ℕ → Bool) → Type 0
DigitsPass p = agree_below (λ b. not (is_digit b) || p b) (λ b. true) 58 ≡ true

digit-passes : (p : ℕ → Bool) (b : ℕ) → DigitsPass p → is_digit b ≡ true → p b ≡ true
digit-passes p b passes digit =
    let high : b ≤ 57 = leb-true b 57 (and_parts _ _ digit).1 in
    rw digit at (agree_below_at (λ c. not (is_digit c) || p c) (λ c. true) 58 b passes (omega (arith, high)))

digits-pass : (p : ℕ → Bool) (s : List ℕ) → DigitsPass p → list_all is_digit s ≡ true → list_all p s ≡ true
digits-pass p [] passes all = refl
digits-pass p (b ∷ s) passes all =
    let parts = and_parts _ _ all in
    let here = digit-passes p b passes parts.0 in
    let more = digits-pass p s passes parts.1 in
    rw (here, more) refl

number-passes : (p : ℕ → Bool) (s : List ℕ) → DigitsPass p → is_number s ≡ true → list_all p s ≡ true
number-passes p s passes number = digits-pass p s passes (and_parts _ _ (and_parts _ _ number).1).0

-- numbers with a plus sign between each two pass it if the sign does
sum-passes : (p : ℕ → Bool) (terms : List (List ℕ)) → DigitsPass p → p 43 ≡ true → list_all is_number terms ≡ true
    → list_all p (join_with_byte 43 terms) ≡ true
sum-passes p [] passes sign all = refl
sum-passes p (term ∷ []) passes sign all = number-passes p term passes (and_parts _ _ all).0
sum-passes p (term ∷ next ∷ terms) passes sign all =
    let parts = and_parts _ _ all in
    let here = number-passes p term passes parts.0 in
    let more = sum-passes p (next ∷ terms) passes sign parts.1 in
    list_all-append p term (43 ∷ join_with_byte 43 (next ∷ terms)) ∙ rw (here, sign, more) refl

-- Terms with a plus sign between each two are split there again.
split-at : (s rest : List ℕ)
    → lacks 43 s ≡ true → Stops (other 43) rest → slice_split is_plus (s ++ rest) ≡ s ∷ terms_after rest
split-at s rest none stops = let cut = cut-at 43 s rest none stops in split_cut (s ++ rest) ∙ rw (cut.0, cut.1) refl

split-joined : (term : List ℕ) (terms : List (List ℕ)) → list_all is_number (term ∷ terms) ≡ true
    → slice_split is_plus (join_with_byte 43 (term ∷ terms)) ≡ term ∷ terms
split-joined term [] all =
    ap (slice_split is_plus) (sym (append-nil term))
    ∙ split-at term [] (number-passes (other 43) term refl (and_parts _ _ all).0) tt
split-joined term (next ∷ terms) all =
    let parts = and_parts _ _ all in
    split-at term (43 ∷ join_with_byte 43 (next ∷ terms)) (number-passes (other 43) term refl parts.0) refl
    ∙ ap (λ ts. term ∷ ts) (split-joined next terms parts.1)

-- Sums: terms added to a total.
record Terms (total : ℕ) (terms : List (List ℕ)) : Type 0 where
  numbers : list_all is_number terms ≡ true
  few : total + value_sum terms ≤ 99

added-takes : (terms : List (List ℕ)) (total : ℕ) → total ≤ 99 → Where (Terms total terms) (with_terms total terms)
unfolding number_of
added-takes [] total small = record { numbers = refl; few = omega arith }
added-takes (term ∷ terms) total small =
    let next : ℕ = total + value_of term in
    let T : Type 0 = Terms total (term ∷ terms) in
    cond_both (is_number term) (Some (value_of term)) None
    (λ o. Where T (option_and_then (λ n. with_terms n terms) (plus total o)))
    (λ number. cond_both (nat_le next 99) (Some next) None (λ o. Where T (option_and_then (λ n. with_terms n terms) o))
    (λ few. where_then (with_terms next terms) (added-takes terms next (leb-true _ _ few))
    (λ rest. record { numbers = rw (number, rest.numbers) refl; few = omega (arith, rest.few) }))
    (λ many. tt))
    (λ other. tt)

added-reaches : (terms : List (List ℕ)) (total : ℕ) → list_all is_number terms ≡ true → total + value_sum terms ≤ 99
    → with_terms total terms ≡ Some (total + value_sum terms)
unfolding number_of
added-reaches [] total all few = ap Some (omega arith)
added-reaches (term ∷ terms) total all few =
    let number : is_number term ≡ true = (and_parts _ _ all).0 in
    let small : nat_le (total + value_of term) 99 ≡ true = le-leb _ _ (omega (arith, few)) in
    rw (number, small)
    (added-reaches terms (total + value_of term) (and_parts _ _ all).1 (omega (arith, few)) ∙ ap Some (omega arith))

record IsSum (s : List ℕ) : Type 0 where
  terms : List (List ℕ)
  some : 1 ≤ length terms
  numbers : list_all is_number terms ≡ true
  few : value_sum terms ≤ 99
  joined : s ≡ join_with_byte 43 terms

sum-takes : (s : List ℕ) → Where (IsSum s) (sum_of s)
unfolding sum_of
sum-takes s =
    where_then (with_terms 0 (slice_split is_plus s)) (added-takes (slice_split is_plus s) 0 (omega arith))
    (λ read. record {
      terms = slice_split is_plus s;
      some = omega (arith, length-slice_split is_plus s);
      numbers = read.numbers;
      few = omega (arith, read.few);
      joined = sym (join_with_byte-slice_split 43 s);
    })

sum-reaches : (terms : List (List ℕ)) → 1 ≤ length terms → list_all is_number terms ≡ true → value_sum terms ≤ 99
    → sum_of (join_with_byte 43 terms) ≡ Some (value_sum terms)
unfolding sum_of
sum-reaches [] some all few = absurd (omega arith)
sum-reaches (term ∷ terms) some all few =
    ap (with_terms 0) (split-joined term terms all)
    ∙ added-reaches (term ∷ terms) 0 all (omega (arith, few))
    ∙ ap Some (omega arith)

-- The number below.
record IsBelow (s : List ℕ) : Type 0 where
  number : is_number s ≡ true
  halving : is_halving (value_of s) ≡ true

below-takes : (s : List ℕ) → Where (IsBelow s) (below_of s)
unfolding number_of
below-takes s =
    cond_both (is_number s) (Some (value_of s)) None (λ o. Where (IsBelow s) (halving_of o))
    (λ number. cond_both (is_halving (value_of s)) (Some (value_of s)) None (Where (IsBelow s))
    (λ halving. record { number = number; halving = halving }) (λ other. tt))
    (λ other. tt)

below-reaches : (s : List ℕ) → is_number s ≡ true → is_halving (value_of s) ≡ true → below_of s ≡ Some (value_of s)
unfolding number_of
below-reaches s number halving = rw (number, halving) refl

record IsAfter (leading s : List ℕ) : Type 0 where
  below : List ℕ
  half : IsBelow below
  cut : s ≡ leading ++ below

after_below : (leading s : List ℕ) → Where (IsAfter leading s) (below_after (after_prefix leading s))
after_below leading s =
    option_case (λ o. Where (IsAfter leading s) (below_after o)) (after_prefix leading s)
    (λ below is.
    where_then (below_of below) (below-takes below)
    (λ half. record { below = below; half = half; cut = following-takes leading s below is }))
    (λ none. tt)

-- Both, in parentheses or not.
abbrev IsMeter : List ℕ → Type 0
IsMeter s = HasForm meter_spelled IsGoodMeterForm s

ratio-takes : {A B T : Type 0} (above below : Option ℕ)
    → Where A above → Where B below → (A → B → T) → Where T (ratio above below)
ratio-takes None below a b both = tt
ratio-takes (Some n) None a b both = tt
ratio-takes (Some n) (Some d) a b both = both a b

sum-good : (s below : List ℕ) (sum : IsSum s) → IsBelow below → IsGoodSum sum.terms below
sum-good s below sum half =
    record { some = sum.some; numbers = sum.numbers; few = sum.few; number = half.number; halving = half.halving }

no_number : (s : List ℕ) → is_number s ≡ true → s ≡ [] → ⊥
no_number s number empty = let same : is_number s ≡ false = ap is_number empty in cc

plain-takes : (s : List ℕ) → Where (IsMeter s) (plain_ratio s)
unfolding plain_ratio
plain-takes s =
    let above : List ℕ = before 47 s in
    let below : List ℕ = after_one (from_first 47 s) in
    ratio-takes (sum_of above) (below_of below) (sum-takes above) (below-takes below)
    (λ sum half. formed (sum_form sum.terms below) (sum-good above below sum half)
    (parted 47 s (no_number below half.number) ∙ ap (λ t. t ++ 47 ∷ below) sum.joined))

wrapped-takes : (s : List ℕ) → Where (IsMeter (40 ∷ s)) (wrapped_ratio s)
unfolding wrapped_ratio
wrapped-takes s =
    let above : List ℕ = before 41 s in
    let after : List ℕ = after_one (from_first 41 s) in
    ratio-takes (sum_of above) (below_after (after_prefix (codes "/") after)) (sum-takes above)
    (after_below (codes "/") after)
    (λ sum low.
    let closed = parted 41 s (λ empty. let slash = low.cut in cc) in
    let all = closed ∙ ap (λ t. t ++ 41 ∷ after) sum.joined ∙ ap (λ t. join_with_byte 43 sum.terms ++ 41 ∷ t) low.cut in
    formed (wrapped_form sum.terms low.below) (sum-good above low.below sum low.half) (ap (λ t. 40 ∷ t) all))

ratio_of-takes : (s : List ℕ) → Where (IsMeter s) (ratio_of s)
unfolding ratio_of
ratio_of-takes s =
    option_case (λ o. Where (IsMeter s) (ratio_by s o)) (after_prefix (codes "(") s)
    (λ inside is. where_then (wrapped_ratio inside) (wrapped-takes inside)
    (λ meter. formed meter.form meter.good (following-takes (codes "(") s inside is ∙ meter.spelled)))
    (λ none. plain-takes s)

meter_at-takes : (s : List ℕ) → Where (IsMeter s) (meter_at s)
unfolding meter_at
meter_at-takes s =
    word_case (Where (IsMeter s)) s (codes "C") _ _ (formed common_form tt)
    (λ _. word_case (Where (IsMeter s)) s (codes "C|") _ _ (formed cut_form tt)
    (λ _. word_case (Where (IsMeter s)) s (codes "none") _ _ (formed none_form tt)
    (λ _. word_case (Where (IsMeter s)) s [] _ _ (formed empty_form tt) (λ _. ratio_of-takes s))))

-- a text that begins with a digit is read as a sum without parentheses
digit-first : (d : ℕ) (s : List ℕ) → is_digit d ≡ true → meter_at (d ∷ s) ≡ plain_ratio (d ∷ s)
unfolding meter_at ratio_of after_prefix
digit-first d s h =
    let not_c : (d == 67) ≡ false = not-true _ (digit-passes (other 67) d refl h) in
    let not_n : (d == 110) ≡ false = not-true _ (digit-passes (other 110) d refl h) in
    let not_open : (40 == d) ≡ false = not-true _ (digit-passes (λ b. not (40 == b)) d refl h) in
    rw (not_c, not_n, not_open) refl

digit_begins : (terms : List (List ℕ)) (s : List ℕ) → 1 ≤ length terms → list_all is_number terms ≡ true
    → meter_at (join_with_byte 43 terms ++ s) ≡ plain_ratio (join_with_byte 43 terms ++ s)
digit_begins [] s some all = absurd (omega arith)
digit_begins ([] ∷ terms) s some all = cc
digit_begins ((d ∷ ds) ∷ []) s some all =
    digit-first d (ds ++ s) (and_parts _ _ (number-passes is_digit (d ∷ ds) refl (and_parts _ _ all).0)).0
digit_begins ((d ∷ ds) ∷ next ∷ terms) s some all =
    digit-first d ((ds ++ 43 ∷ join_with_byte 43 (next ∷ terms)) ++ s)
    (and_parts _ _ (number-passes is_digit (d ∷ ds) refl (and_parts _ _ all).0)).0

plain-read : (above below : List ℕ) (n d : ℕ) → lacks 47 above ≡ true → sum_of above ≡ Some n → below_of below ≡ Some d
    → plain_ratio (above ++ 47 ∷ below) ≡ Some (Meter.Ratio n d)
unfolding plain_ratio
plain-read above below n d none sum half =
    let cut = cut-at 47 above (47 ∷ below) none refl in rw (cut.0, cut.1, sum, half) refl

wrapped-read : (above below : List ℕ) (n d : ℕ)
    → lacks 41 above ≡ true → sum_of above ≡ Some n → below_of below ≡ Some d
    → meter_at (40 ∷ (above ++ 41 ∷ 47 ∷ below)) ≡ Some (Meter.Ratio n d)
unfolding meter_at ratio_of wrapped_ratio after_prefix
wrapped-read above below n d none sum half =
    let cut = cut-at 41 above (41 ∷ 47 ∷ below) none refl in rw (cut.0, cut.1, sum, half) refl

form-read : (form : MeterForm) → IsGoodMeterForm form → meter_at (meter_spelled form) ≡ Some (meter_meant form)
unfolding meter_at
form-read (sum_form terms below) good =
    digit_begins terms (47 ∷ below) good.some good.numbers
    ∙ plain-read (join_with_byte 43 terms) below (value_sum terms) (value_of below)
    (sum-passes (other 47) terms refl refl good.numbers)
    (sum-reaches terms good.some good.numbers good.few) (below-reaches below good.number good.halving)
form-read (wrapped_form terms below) good =
    wrapped-read (join_with_byte 43 terms) below (value_sum terms) (value_of below)
    (sum-passes (other 41) terms refl refl good.numbers)
    (sum-reaches terms good.some good.numbers good.few) (below-reaches below good.number good.halving)
form-read _ good = refl

-- No form has a blank.
abbrev no_blank : ℕ → Bool
no_blank b = not (is_blank b)

form-unblank : (form : MeterForm) → IsGoodMeterForm form → list_all no_blank (meter_spelled form) ≡ true
form-unblank (sum_form terms below) good =
    list_all-append no_blank (join_with_byte 43 terms) (47 ∷ below)
    ∙ rw (sum-passes no_blank terms refl refl good.numbers, number-passes no_blank below refl good.number) refl
form-unblank (wrapped_form terms below) good =
    list_all-append no_blank (join_with_byte 43 terms) (41 ∷ 47 ∷ below)
    ∙ rw (sum-passes no_blank terms refl refl good.numbers, number-passes no_blank below refl good.number) refl
form-unblank _ good = refl

-- a text reads as a meter only if a good form of it spells the text
pub meter-says : (text : List ℕ) (meter : Meter) → meter_of text ≡ Some meter → SaysMeter text meter
unfolding meter_of
meter-says text meter h =
    let form = where_read h (meter_at-takes (trimmed text)) in
    record {
      core = trimmed text;
      between = trimmed-between text;
      writes = record {
        form = form.form;
        good = form.good;
        spelled = form.spelled;
        meant = form_meant meter_at form-read form h;
      };
    }

-- and it does whenever one spells it
pub meter-read : (text : List ℕ) (meter : Meter) → SaysMeter text meter → meter_of text ≡ Some meter
unfolding meter_of
meter-read text meter says =
    let writes = says.writes in
    ap meter_at
    (between-trimmed text says.core (ap (list_all no_blank) writes.spelled ∙ form-unblank writes.form writes.good)
    says.between)
    ∙ ap meter_at writes.spelled ∙ form-read writes.form writes.good ∙ ap Some writes.meant

-- Unit lengths.
unit_at-takes : (s : List ℕ) → Where (HasForm unit_spelled IsGoodUnitForm s) (unit_at s)
unfolding unit_at
unit_at-takes s =
    word_case (Where (HasForm unit_spelled IsGoodUnitForm s)) s (codes "1") _ _ (formed whole_form tt)
    (λ _. over (below_after (after_prefix (codes "1/") s)) (after_below (codes "1/") s))
  where
    over : (o : Option ℕ)
        → Where (IsAfter (codes "1/") s) o → Where (HasForm unit_spelled IsGoodUnitForm s) (one_over o)
    over None low = tt
    over (Some d) low = formed (over_form low.below) (low.half.number, low.half.halving) low.cut

unit-form-read : (form : UnitForm) → IsGoodUnitForm form → unit_at (unit_spelled form) ≡ Some (unit_meant form)
unfolding unit_at after_prefix
unit-form-read whole_form good = refl
unit-form-read (over_form below) good = ap one_over (below-reaches below good.0 good.1)

unit-unblank : (form : UnitForm) → IsGoodUnitForm form → list_all no_blank (unit_spelled form) ≡ true
unit-unblank whole_form good = refl
unit-unblank (over_form below) good = number-passes no_blank below refl good.0

-- a text reads as a unit length only if a good form of it spells the text
pub unit-says : (text : List ℕ) (unit : Frac) → unit_of text ≡ Some unit → SaysUnit text unit
unfolding unit_of
unit-says text unit h =
    let form = where_read h (unit_at-takes (trimmed text)) in
    record {
      core = trimmed text;
      between = trimmed-between text;
      writes = record {
        form = form.form;
        good = form.good;
        spelled = form.spelled;
        meant = form_meant unit_at unit-form-read form h;
      };
    }

-- and it does whenever one spells it
pub unit-read : (text : List ℕ) (unit : Frac) → SaysUnit text unit → unit_of text ≡ Some unit
unfolding unit_of
unit-read text unit says =
    let writes = says.writes in
    ap unit_at
    (between-trimmed text says.core (ap (list_all no_blank) writes.spelled ∙ unit-unblank writes.form writes.good)
    says.between)
    ∙ ap unit_at writes.spelled ∙ unit-form-read writes.form writes.good ∙ ap Some writes.meant
