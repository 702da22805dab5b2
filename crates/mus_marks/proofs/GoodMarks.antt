-- The texts of a staff have at most 60 characters.
use Rattle.std.proofs.Common.{ℕ, ◌≤◌, List, [], ◌∷◌, length, map, take, subst, sym, arith}
use Rattle.std.proofs.lemmas.List.{length-map, length-take}
use Rattle.std.proofs.lemmas.List.Elements.{All-from_recursion}
use Rattle.std.proofs.lemmas.Fmt.{length-decimal-le}
use Rattle.std.proofs.lemmas.Bool.Decides.{nat_tests}
use Rattle.std.specs.List.{All, AllByRecursion}
use Rattle.std.specs.Prelude.{IsTrue, decimal}
use Rattle.mus_units.specs.declared.key.Meter.{Meter}
use Rattle.mus_units.specs.Good.{IsGoodMeter, is_halving}
use Rattle.mus_onsets.specs.declared.keys.ColumnKey.{ColumnKey}
use Rattle.mus_laid.specs.declared.drawn.BridgeShape.{BridgeShape}
use Rattle.mus_laid.specs.declared.laid.Laid.{Laid}
use Rattle.mus_laid.specs.Boxes.{AreGoodMarks, IsGoodMark}
use Rattle.mus_laid.specs.Printed.{printed_byte}
use Rattle.mus_laid.specs.Ranked.{drawn_at, span_at}
use Rattle.mus_ink.specs.Signatures.{meter_marks}
use Rattle.mus_words.proofs.EachWord.{IsShown}
use Rattle.mus_drawn.specs.declared.drawn.DrawnVoice.{DrawnVoice}
use Rattle.mus_slots.proofs.Marks.{FitsVoice, OfLaid, staff_all}
use Rattle.mus_marks.specs.Staff.{staff_marks, staff_over, verses_on}

halving_small : (n : ℕ) → IsTrue (is_halving n) → n ≤ 64
halving_small n h = grind (arith, nat_tests, h)

digits_few : (n : ℕ) → n ≤ 99 → length (decimal n) ≤ 60
digits_few n h =
    let few = length-decimal-le 2 n (omega arith) (omega (arith, h)) (omega (arith, h)) in omega (arith, few)

abbrev pub IsGood : Laid → Type 0
IsGood laid = IsGoodMark laid.mark

meter : (r dx : ℕ) (m : Meter) → IsGoodMeter m → AllByRecursion (λ d. IsGood (drawn_at r d)) (meter_marks dx m)
unfolding meter_marks
meter r dx Meter.Free good = tt
meter r dx Meter.Common good = (omega arith, tt)
meter r dx Meter.Cut good = (omega arith, tt)
meter r dx (Meter.Ratio num den) good =
    let small = halving_small den good.2 in (digits_few num good.1, (digits_few den (omega (arith, small)), tt))

shown_few : (t : List ℕ) → IsShown t → length t ≤ 60
shown_few t h =
    let mapped = length-map (take 60 h.text) printed_byte in
    let taken = length-take 60 h.text in
    subst (λ u. length u ≤ 60) (sym h.is) (omega (arith, mapped, taken))

span_good : (first last : ℕ) (span : BridgeShape) → IsGoodMark (span_at first last span)
span_good first last (BridgeShape.Beam way from to) = tt
span_good first last (BridgeShape.Arc from to bulge) = tt

-- a text is good if it has few characters, and all else is good
pub goods : (verses : ℕ) (keys : List ColumnKey) → OfLaid verses keys IsGood
goods verses keys = record {
  of_marks =
      λ r.
      record { of_glyph = λ g dx dy. tt; of_loose = λ g dx dy. tt; of_stem = λ dx from to. tt; of_meter = meter r };
  of_words =
      λ r. record {
        of_syllable = λ low n t verse shown. shown_few t shown;
        of_above = λ dy t shown. shown_few t shown;
        of_below = λ dy t shown. shown_few t shown;
      };
  of_bridge = λ b. span_good _ _ b.span;
}

pub staves_good : (keys : List ColumnKey) (lengths : List ℕ) (a b : ℕ) (staves : List (List DrawnVoice))
    → AllByRecursion (AllByRecursion FitsVoice) staves
    → All (λ s. AreGoodMarks s.marks) (map (staff_marks keys lengths a b) staves)
unfolding staff_marks staff_over
staves_good keys lengths a b staves fit =
    All-from_recursion (λ s. AreGoodMarks s.marks) (map (staff_marks keys lengths a b) staves) (by staves fit)
  where
    by : (staves : List (List DrawnVoice))
        → AllByRecursion (AllByRecursion FitsVoice) staves
        → AllByRecursion (λ s. AreGoodMarks s.marks) (map (staff_marks keys lengths a b) staves)
    by [] fit = tt
    by (vs ∷ staves) fit = (
      staff_all (verses_on vs) keys IsGood (goods (verses_on vs) keys) lengths a b vs (omega arith) fit.0,
      by staves fit.1,
    )
