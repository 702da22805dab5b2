-- The texts of the marks that a score calls for can be printed.
use Rattle.std.proofs.Common.{ℕ, ◌≤◌, length, List, refl, sym, subst, arith}
use Rattle.std.proofs.lemmas.Bool.Decides.{nat_tests}
use Rattle.std.specs.List.{AllByRecursion}
use Rattle.mus_units.specs.declared.key.Meter.{Meter}
use Rattle.mus_units.specs.Good.{IsGoodMeter}
use Rattle.mus_onsets.specs.declared.keys.ColumnKey.{ColumnKey}
use Rattle.mus_laid.specs.declared.drawn.BridgeShape.{BridgeShape}
use Rattle.mus_laid.specs.declared.laid.Laid.{Laid}
use Rattle.mus_laid.specs.Ranked.{drawn_at, span_at}
use Rattle.mus_ink.specs.Signatures.{meter_marks}
use Rattle.{mus_words.proofs.EachWord.{IsShown}, mus_drawn.specs.declared.drawn.DrawnVoice.{DrawnVoice}}
use Rattle.mus_slots.specs.Staff.{staff_laid}
use Rattle.mus_slots.specs.Voice.{slots_of_voices}
use Rattle.mus_slots.proofs.Marks.{FitsVoice, OfLaid, staff_all}
use Rattle.mus_marks.specs.Staff.{verses_on}
use Rattle.law_marks_in_range.specs.Texts.{HasPrinted, IsPrinted}
use Rattle.law_marks_in_range.proofs.PrintedTexts.{digits_printed, text_printed}

abbrev IsGood : Laid → Type 0
IsGood laid = HasPrinted laid.mark

meter : (r dx : ℕ) (m : Meter) → IsGoodMeter m → AllByRecursion (λ d. IsGood (drawn_at r d)) (meter_marks dx m)
unfolding meter_marks
meter r dx Meter.Free good = tt
meter r dx Meter.Common good = (record { printable = refl; some = omega arith; few = omega arith }, tt)
meter r dx Meter.Cut good = (record { printable = refl; some = omega arith; few = omega arith }, tt)
meter r dx (Meter.Ratio num den) good =
    let halving = good.2 in (digits_printed num good.1, (digits_printed den (grind (arith, nat_tests, halving)), tt))

word : (t : List ℕ) → IsShown t → IsPrinted t
word t shown = subst IsPrinted (sym shown.is) (text_printed shown.text (subst (λ u. 1 ≤ length u) shown.is shown.some))

span : (first last : ℕ) (s : BridgeShape) → HasPrinted (span_at first last s)
span first last (BridgeShape.Beam way from to) = tt
span first last (BridgeShape.Arc from to bulge) = tt

all_good : (verses : ℕ) (keys : List ColumnKey) → OfLaid verses keys IsGood
all_good verses keys = record {
  of_marks =
      λ r.
      record { of_glyph = λ g dx dy. tt; of_loose = λ g dx dy. tt; of_stem = λ dx from to. tt; of_meter = meter r };
  of_words =
      λ r. record {
        of_syllable = λ low n t verse shown. word t shown;
        of_above = λ dy t shown. word t shown;
        of_below = λ dy t shown. word t shown;
      };
  of_bridge = λ b. span _ _ b.span;
}

pub staff_printed : (keys : List ColumnKey) (lengths : List ℕ) (a b : ℕ) (voices : List DrawnVoice)
    → AllByRecursion FitsVoice voices
    → AllByRecursion IsGood (staff_laid keys (verses_on voices) (slots_of_voices 0 lengths a b voices))
staff_printed keys lengths a b voices fit =
    let verses = verses_on voices in
    staff_all verses keys IsGood (all_good verses keys) lengths a b voices (omega arith) fit
