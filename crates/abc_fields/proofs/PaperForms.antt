-- A text reads as a length, or as a scale, exactly when a good form of it spells the text.
use Rattle.std.proofs.Common.{◌≡◌, refl, sym, ap, ◌∙◌, subst, ℕ, ◌+◌, ◌*◌, ◌≤◌, List, [], ◌∷◌, ◌++◌, true, length, take}
use Rattle.std.proofs.Common.{drop, arith}
use Rattle.std.proofs.lemmas.Bool.{and_parts, cond_both, leb-true, le-leb}
use Rattle.std.proofs.lemmas.List.{take-append-drop}
use Rattle.std.proofs.lemmas.Slice.Eq.{bytes_eq-Decides}
use Rattle.std.proofs.Math.Seq.{take-append_seam, drop-append_seam}
use Rattle.std.specs.Prelude.{◌&&◌, nat_le, Option, Some, None, IfSome, codes}
use Rattle.std.specs.{List.list_all, Str.bytes_eq}
use Rattle.abc_field.specs.Numbers.{is_digit, value_of}
use Rattle.abc_field.specs.Words.{after_prefix}
use Rattle.abc_field.proofs.BlankLaws.{Stops, prefix-stops, leading-passes}
use Rattle.abc_field.proofs.{
  MeterForms.{following-takes, following-leading},
  ReadLaws.{option_case, some_then, word_case},
}
use Rattle.abc_fields.specs.Lengths.{digit_len, with_decimals, decimals, whole_of, hundredths_of, in_units}
use Rattle.abc_fields.specs.Lengths.{within_paper, length_of, is_scale}
use Rattle.abc_fields.specs.Lengths.{scale_by, scale_of}
use Rattle.abc_fields.specs.PaperSpelling.{PaperNumber, point_spelled, number_spelled, IsGoodNumber, hundredths}
use Rattle.abc_fields.specs.PaperSpelling.{LengthUnit, points, inches}
use Rattle.abc_fields.specs.PaperSpelling.{centimetres, length_unit_spelled, in_points, WritesLength, WritesScale}

-- A good number is read, and the text after it is left.
digits-cut : (ds s : List ℕ) → list_all is_digit ds ≡ true → Stops is_digit s
    → (take (digit_len (ds ++ s)) (ds ++ s) ≡ ds) × (drop (digit_len (ds ++ s)) (ds ++ s) ≡ s)
digits-cut ds s all stops =
    let size : digit_len (ds ++ s) ≡ length ds = prefix-stops is_digit ds s all stops in
    (rw size (take-append_seam ds s), rw size (drop-append_seam ds s))

abbrev read_as : ℕ → List ℕ → Option (ℕ × List ℕ)
read_as v rest = Some (v, rest)

whole-read : (ds : List ℕ) → 1 ≤ length ds → value_of ds ≤ 100000 → whole_of ds ≡ Some (value_of ds)
whole-read [] some few = absurd (omega (arith, some))
whole-read (d ∷ ds) some few =
    let yes : nat_le (value_of (d ∷ ds)) 100000 ≡ true = le-leb (value_of (d ∷ ds)) 100000 few in rw yes refl

with-read : (w d : ℕ) (ds rest : List ℕ) → length (d ∷ ds) ≤ 2
    → with_decimals w (d ∷ ds) rest ≡ read_as (100 * w + value_of (take 2 ((d ∷ ds) ++ codes "00"))) rest
with-read w d [] rest few = ap (λ v. read_as v rest) (omega arith)
with-read w d (e ∷ []) rest few = ap (λ v. read_as v rest) (omega arith)
with-read w d (e ∷ f ∷ ds) rest few = absurd (omega (arith, few))

decimals-read : (w : ℕ) (ds rest : List ℕ)
    → length ds ≤ 2 → list_all is_digit ds ≡ true → Stops is_digit rest → after_prefix (codes ".") rest ≡ None
    → decimals w (point_spelled ds rest) (after_prefix (codes ".") (point_spelled ds rest))
    ≡ read_as (100 * w + value_of (take 2 (ds ++ codes "00"))) rest
decimals-read w [] rest few all stops none = rw none (ap (λ v. read_as v rest) (omega arith))
decimals-read w (d ∷ ds) rest few all stops none =
    let cut = digits-cut (d ∷ ds) rest all stops in
    rw (following-leading (codes ".") ((d ∷ ds) ++ rest), cut.0, cut.1) (with-read w d ds rest few)

point-stops : (ds rest : List ℕ) → Stops is_digit rest → Stops is_digit (point_spelled ds rest)
point-stops [] rest stops = stops
point-stops (d ∷ ds) rest stops = refl

number-read : (number : PaperNumber) (rest : List ℕ)
    → IsGoodNumber number → value_of number.whole ≤ 100000 → Stops is_digit rest
    → after_prefix (codes ".") rest ≡ None
    → hundredths_of (number_spelled number rest) ≡ read_as (hundredths number) rest
unfolding hundredths_of
number-read number rest good few stops none =
    let cut = digits-cut number.whole (point_spelled number.decimals rest) good.whole_digits
    (point-stops number.decimals rest stops) in
    rw (cut.0, cut.1, whole-read number.whole good.some few)
    (decimals-read (value_of number.whole) number.decimals rest good.few good.decimal_digits stops none)

-- A number that is read is good.
record IsNumberBefore (s : List ℕ) (z : ℕ × List ℕ) : Type 0 where
  number : PaperNumber
  good : IsGoodNumber number
  spelled : s ≡ number_spelled number z.1
  meant : hundredths number ≡ z.0

record IsWhole (ds : List ℕ) (w : ℕ) : Type 0 where
  some : 1 ≤ length ds
  all : list_all is_digit ds ≡ true
  value : value_of ds ≡ w

whole-takes : (ds : List ℕ) → list_all is_digit ds ≡ true → IfSome (whole_of ds) (IsWhole ds)
whole-takes [] all = tt
whole-takes (d ∷ ds) all =
    cond_both (nat_le (value_of (d ∷ ds)) 100000) _ _ (λ o. IfSome o (IsWhole (d ∷ ds)))
    (λ few. record { some = omega arith; all = all; value = refl }) (λ many. tt)

with-takes : (w : ℕ) (ds t rest : List ℕ) → IsWhole ds w → list_all is_digit t ≡ true
    → IfSome (with_decimals w t rest) (IsNumberBefore (ds ++ (codes "." ++ (t ++ rest))))
with-takes w ds (a ∷ []) rest whole all =
    record {
      number = record { whole = ds; decimals = a ∷ [] };
      good = record { some = whole.some; whole_digits = whole.all; few = omega arith; decimal_digits = all };
      spelled = refl;
      meant = omega (arith, whole.value);
    }
with-takes w ds (a ∷ b ∷ []) rest whole all =
    record {
      number = record { whole = ds; decimals = a ∷ b ∷ [] };
      good = record { some = whole.some; whole_digits = whole.all; few = omega arith; decimal_digits = all };
      spelled = refl;
      meant = omega (arith, whole.value);
    }
with-takes w ds _ rest whole all = tt

decimals-takes : (w : ℕ) (ds s : List ℕ)
    → IsWhole ds w → IfSome (decimals w s (after_prefix (codes ".") s)) (IsNumberBefore (ds ++ s))
decimals-takes w ds s whole =
    option_case (λ o. IfSome (decimals w s o) (IsNumberBefore (ds ++ s))) (after_prefix (codes ".") s)
    (λ t e.
    let digits : List ℕ = take (digit_len t) t in
    let rest : List ℕ = drop (digit_len t) t in
    let parts = take-append-drop (digit_len t) t in
    let same : codes "." ++ (digits ++ rest) ≡ s =
    ap (λ x. codes "." ++ x) parts ∙ sym (following-takes (codes ".") s t e) in
    subst (λ x. IfSome (with_decimals w digits rest) (IsNumberBefore (ds ++ x))) same
    (with-takes w ds digits rest whole (leading-passes is_digit t)))
    (λ none. record {
      number = record { whole = ds; decimals = [] };
      good = record { some = whole.some; whole_digits = whole.all; few = omega arith; decimal_digits = refl };
      spelled = refl;
      meant = omega (arith, whole.value);
    })

number-takes : (s : List ℕ) → IfSome (hundredths_of s) (IsNumberBefore s)
unfolding hundredths_of
number-takes s =
    let digits : List ℕ = take (digit_len s) s in
    let left : List ℕ = drop (digit_len s) s in
    some_then (IsNumberBefore s) _ (whole_of digits) (whole-takes digits (leading-passes is_digit s))
    (λ w whole.
    subst (λ t. IfSome (decimals w left (after_prefix (codes ".") left)) (IsNumberBefore t))
    (take-append-drop (digit_len s) s)
    (decimals-takes w digits left whole))

-- Units.
unit-stops : (unit : LengthUnit) → Stops is_digit (length_unit_spelled unit)
unit-stops points = refl
unit-stops _ = refl

unit-pointless : (unit : LengthUnit) → after_prefix (codes ".") (length_unit_spelled unit) ≡ None
unfolding after_prefix
unit-pointless points = refl
unit-pointless _ = refl

unit-read : (unit : LengthUnit) (v : ℕ) → in_units v (length_unit_spelled unit) ≡ Some (in_points unit v)
unit-read points v = refl
unit-read _ v = refl

record IsUnit (w : List ℕ) (v size : ℕ) : Type 0 where
  unit : LengthUnit
  spelled : w ≡ length_unit_spelled unit
  meant : in_points unit v ≡ size

unit-takes : (v : ℕ) (w : List ℕ) → IfSome (in_units v w) (IsUnit w v)
unit-takes v w =
    word_case (λ o. IfSome o (IsUnit w v)) w (codes "pt") _ _
    (λ is. record { unit = points; spelled = is; meant = refl })
    (λ _.
    word_case (λ o. IfSome o (IsUnit w v)) w (codes "in") _ _
    (λ is. record { unit = inches; spelled = is; meant = refl })
    (λ _.
    word_case (λ o. IfSome o (IsUnit w v)) w (codes "cm") _ _
    (λ is. record { unit = centimetres; spelled = is; meant = refl }) (λ _. tt)))

-- a paper length has no number above 100,000 before its point
few_points : (unit : LengthUnit) (w d : ℕ) → in_points unit (100 * w + d) ≤ 100000 → w ≤ 100000
few_points points w d few = omega (arith, few)
few_points _ w d few = omega (arith, few)

-- Lengths.

-- a text reads as a length only if a good form of it spells the text
pub length-writes : (text : List ℕ) → IfSome (length_of text) (WritesLength text)
unfolding length_of
length-writes text =
    some_then (WritesLength text) _ (hundredths_of text) (number-takes text)
    (λ z read. some_then (WritesLength text) within_paper (in_units z.0 z.1) (unit-takes z.0 z.1)
    (λ u measured. cond_both (nat_le u 100000) (Some u) None (λ o. IfSome o (WritesLength text))
    (λ few. record {
      number = read.number;
      unit = measured.unit;
      good = read.good;
      spelled = read.spelled ∙ ap (number_spelled read.number) measured.spelled;
      meant = ap (in_points measured.unit) read.meant ∙ measured.meant;
      small = leb-true u 100000 few;
    })
    (λ many. tt)))

-- and whenever one does
pub length-read : (text : List ℕ) (size : ℕ) → WritesLength text size → length_of text ≡ Some size
unfolding length_of
length-read text size writes =
    let few = subst (λ u. u ≤ 100000) (sym writes.meant) writes.small in
    let small = few_points writes.unit (value_of writes.number.whole)
    (value_of (take 2 (writes.number.decimals ++ codes "00"))) few in
    let read = number-read writes.number (length_unit_spelled writes.unit) writes.good small (unit-stops writes.unit)
    (unit-pointless writes.unit) in
    let yes : nat_le size 100000 ≡ true = le-leb size 100000 writes.small in
    rw (writes.spelled, read, unit-read writes.unit (hundredths writes.number), writes.meant, yes) refl

-- The scale.

-- a text reads as a scale only if a good form of it spells the text
pub scale-writes : (text : List ℕ) → IfSome (scale_of text) (WritesScale text)
unfolding scale_of
scale-writes text =
    some_then (WritesScale text) scale_by (hundredths_of text) (number-takes text)
    (λ z read. cond_both (is_scale z.0 && bytes_eq z.1 []) (Some z.0) None (λ o. IfSome o (WritesScale text))
    (λ e.
    let parts = and_parts (is_scale z.0) (bytes_eq z.1 []) e in
    let bounds = and_parts (nat_le 40 z.0) (nat_le z.0 150) parts.0 in
    record {
      number = read.number;
      good = read.good;
      spelled = read.spelled ∙ ap (number_spelled read.number) ((bytes_eq-Decides z.1 []).0 parts.1);
      meant = read.meant;
      low = leb-true 40 z.0 bounds.0;
      high = leb-true z.0 150 bounds.1;
    })
    (λ _. tt))

alone-pointless : after_prefix (codes ".") [] ≡ None
unfolding after_prefix
alone-pointless = refl

-- and whenever one does
pub scale-read : (text : List ℕ) (percent : ℕ) → WritesScale text percent → scale_of text ≡ Some percent
unfolding scale_of
scale-read text percent writes =
    let small : value_of writes.number.whole ≤ 100000 = omega (arith, writes.meant, writes.high) in
    let least : nat_le 40 percent ≡ true = le-leb 40 percent writes.low in
    let most : nat_le percent 150 ≡ true = le-leb percent 150 writes.high in
    rw (writes.spelled, number-read writes.number [] writes.good small tt alone-pointless, writes.meant, least, most)
    refl
