-- The marks of a staff are in its lanes, if they are in any: syllables are as many as the verses of its voices.
use Rattle.std.proofs.Common.{ℕ, List, arith}
use Rattle.std.proofs.lemmas.List.Elements.{All-contains, All-from_recursion}
use Rattle.std.specs.List.{AllByRecursion, Contains}
use Rattle.mus_units.specs.declared.key.Meter.{Meter}
use Rattle.mus_units.specs.Good.{IsGoodMeter}
use Rattle.mus_onsets.specs.declared.keys.ColumnKey.{ColumnKey}
use Rattle.mus_laid.specs.declared.laid.Laid.{Laid}
use Rattle.mus_laid.specs.Ranked.{drawn_at}
use Rattle.mus_ink.specs.Signatures.{meter_marks}
use Rattle.mus_drawn.specs.declared.drawn.DrawnVoice.{DrawnVoice}
use Rattle.mus_slots.proofs.Marks.{FitsVoice, OfLaid, staff_all}
use Rattle.mus_marks.specs.Staff.{staff_over, verses_on}
use Rattle.mus_marks.specs.Staff.{staff_marks}
use Rattle.law_marks_apart.proofs.LaneGaps.{HasLane}

module _ (verses : ℕ) where
  abbrev IsLaned : Laid → Type 0
  IsLaned laid = HasLane verses laid.lane

  meter : (r dx : ℕ) (m : Meter) → IsGoodMeter m → AllByRecursion (λ d. IsLaned (drawn_at r d)) (meter_marks dx m)
  unfolding meter_marks
  meter r dx Meter.Free good = tt
  meter r dx Meter.Common good = (tt, tt)
  meter r dx Meter.Cut good = (tt, tt)
  meter r dx (Meter.Ratio num den) good = (tt, (tt, tt))

  all_laned : (keys : List ColumnKey) → OfLaid verses keys IsLaned
  all_laned keys = record {
    of_marks =
        λ r.
        record { of_glyph = λ g dx dy. tt; of_loose = λ g dx dy. tt; of_stem = λ dx from to. tt; of_meter = meter r };
    of_words =
        λ r.
        record { of_syllable = λ low n t verse shown. verse; of_above = λ dy t shown. tt; of_below = λ dy t shown. tt };
    of_bridge = λ b. tt;
  }

-- the lane of a mark of a staff
pub lane_of : (keys : List ColumnKey) (lengths : List ℕ) (a b : ℕ) (voices : List DrawnVoice)
    → AllByRecursion FitsVoice voices
    → (laid : Laid) → Contains (staff_marks keys lengths a b voices).marks laid → HasLane (verses_on voices) laid.lane
unfolding staff_marks staff_over
lane_of keys lengths a b voices fit laid has =
    let verses = verses_on voices in
    let all = (staff_marks keys lengths a b voices).marks in
    All-contains (IsLaned verses) all laid
    (All-from_recursion (IsLaned verses) all
    (staff_all verses keys (IsLaned verses) (all_laned verses keys) lengths a b voices (omega arith) fit))
    has
