-- The measures of a good voice have good meters, and each of its events has a place for each verse.
use Rattle.std.proofs.Common.{ℕ, ◌+◌, ◌*◌, ◌≤◌, List, [], ◌∷◌, ◌++◌, length, map, Option, Some, None, arith}
use Rattle.std.proofs.lemmas.List.Elements.{recursion_from_All}
use Rattle.std.specs.List.{AllByRecursion}
use Rattle.std.specs.Prelude.{IfSome, unwrap_or}
use Rattle.mus_units.specs.{declared.key.Meter.Meter, Good.IsGoodMeter}
use Rattle.mus_score.specs.declared.score.Flat.{Flat}
use Rattle.mus_score.specs.declared.score.Measure.{Measure}
use Rattle.mus_score.specs.declared.score.Score.{Score}
use Rattle.mus_score.specs.declared.score.Voice.{Voice}
use Rattle.mus_score.specs.GoodScore.{IsGoodEvent, IsGoodScore, IsGoodVoice, events_of}
use Rattle.mus_score.specs.Times.{flats_of}
use Rattle.mus_stems.specs.declared.plans.StemPlan.{StemPlan}
use Rattle.mus_drawn.specs.declared.drawn.Style.{Style}
use Rattle.mus_drawn.specs.declared.standing.StaffState.{StaffState}
use Rattle.mus_drawn.specs.Drawn.{drawn_events, drawn_measure, drawn_measures, drawn_voice, opening_of, standing_after}
use Rattle.mus_drawn.specs.Drawn.{staff_state_after, standing_of, style_of}
use Rattle.mus_marks.specs.Staff.{verses_on}
use Rattle.mus_marks.specs.System.{drawn_staves, is_drawn_lower}
use Rattle.mus_marks.proofs.Groups.{grouped_all}
use Rattle.mus_slots.proofs.Marks.{Fits, FitsEvent, FitsMeasure, FitsVoice}
use Rattle.mus_marks.proofs.Verses.{verses_cons}

all_cut : {A : Type 0} (P : A → Type 0) (xs ys : List A)
    → AllByRecursion P (xs ++ ys) → AllByRecursion P xs × AllByRecursion P ys
all_cut P [] ys all = (tt, all)
all_cut P (x ∷ xs) ys all = let more = all_cut P xs ys all.1 in ((all.0, more.0), more.1)

meter_after : (m : Option Meter) (now : Meter) → IfSome m IsGoodMeter → IsGoodMeter now → IsGoodMeter (unwrap_or m now)
meter_after None now h good = good
meter_after (Some m) now h good = h

module _ (verses : ℕ) where
  meter_left_after : (now : StaffState) (fs : List Flat)
      → IsGoodMeter now.meter → AllByRecursion (IsGoodEvent verses) fs → IsGoodMeter (staff_state_after now fs).meter
  meter_left_after now [] good h = good
  meter_left_after now (f ∷ fs) good h =
      meter_left_after (standing_after now f.event.changes) fs
      (meter_after f.event.changes.meter now.meter h.0.meter good)
      h.1

  events_fit : (style : Style) (tick : ℕ) (now : StaffState) (fs : List Flat) (ps : List StemPlan)
      → AllByRecursion (IsGoodEvent verses) fs → AllByRecursion (FitsEvent verses) (drawn_events style tick now fs ps)
  events_fit style tick now [] ps h = tt
  events_fit style tick now (f ∷ fs) [] h = tt
  events_fit style tick now (f ∷ fs) (p ∷ ps) h =
      ((h.0.meter, h.0.words), events_fit style (tick + f.duration) (standing_after now f.event.changes) fs ps h.1)

  opening_meter : (now : StaffState) (fs : List Flat)
      → IsGoodMeter now.meter → AllByRecursion (IsGoodEvent verses) fs → IsGoodMeter (opening_of now fs).meter
  opening_meter now [] good h = good
  opening_meter now (f ∷ fs) good h = meter_after f.event.changes.meter now.meter h.0.meter good

  measure_fits : (style : Style) (now : StaffState) (m : Measure)
      → IsGoodMeter now.meter → AllByRecursion (IsGoodEvent verses) (flats_of m.body)
      → FitsMeasure verses (drawn_measure style now m)
  unfolding drawn_measure
  measure_fits style now m good h =
      (opening_meter now (flats_of m.body) good h, events_fit style 0 now (flats_of m.body) _ h)

  measures_fit : (style : Style) (now : StaffState) (ms : List Measure)
      → IsGoodMeter now.meter → AllByRecursion (IsGoodEvent verses) (events_of ms)
      → Fits verses (drawn_measures style now ms)
  measures_fit style now [] good h = tt
  measures_fit style now (m ∷ ms) good h =
      let fs = flats_of m.body in let here = all_cut (IsGoodEvent verses) fs (events_of ms) h in (
        measure_fits style now m good here.0,
        measures_fit style (staff_state_after now fs) ms (meter_left_after now fs good here.0) here.1,
      )

pub voice_fits : (v : Voice) → IsGoodVoice v → FitsVoice (drawn_voice v)
unfolding drawn_voice
voice_fits v good =
    measures_fit v.verses (style_of v) (standing_of v) v.measures good.meter
    (recursion_from_All (IsGoodEvent v.verses) (events_of v.measures) good.events)

-- the voices of each staff of a good score
voices_fit : (vs : List Voice) → AllByRecursion IsGoodVoice vs → AllByRecursion FitsVoice (map drawn_voice vs)
voices_fit [] good = tt
voices_fit (v ∷ vs) good = (voice_fits v good.0, voices_fit vs good.1)

pub staves_fit : (s : Score) → IsGoodScore s → AllByRecursion (AllByRecursion FitsVoice) (drawn_staves s)
staves_fit s good =
    grouped_all is_drawn_lower FitsVoice (map drawn_voice s.voices)
    (voices_fit s.voices (recursion_from_All IsGoodVoice s.voices good.voices))

-- they have few verses
verses_few : (vs : List Voice) → AllByRecursion IsGoodVoice vs → verses_on (map drawn_voice vs) ≤ 8 * length vs
unfolding drawn_voice
verses_few [] good = omega arith
verses_few (v ∷ vs) good =
    let count = verses_cons (drawn_voice v) (map drawn_voice vs) in
    let own = good.0.few_verses in
    omega (arith, count, own, verses_few vs good.1)

pub few_verses : (s : Score) → IsGoodScore s → verses_on (map drawn_voice s.voices) ≤ 128
few_verses s good =
    omega (arith, verses_few s.voices (recursion_from_All IsGoodVoice s.voices good.voices), good.few_voices)
