-- Within a measure of a voice each event is later than those before it, has a greater id, and is in a later column.
use Rattle.std.proofs.Common.{◌≡◌, ℕ, suc, ◌+◌, ◌<◌, true, List, [], ◌∷◌, ◌++◌, arith}
use Rattle.std.proofs.lemmas.Bool.Decides.{nat_tests}
use Rattle.std.proofs.lemmas.List.Elements.{recursion_from_All}
use Rattle.std.specs.List.{AllByRecursion}
use Rattle.mus_score.specs.declared.score.Flat.{Flat}
use Rattle.mus_score.specs.declared.score.Measure.{Measure}
use Rattle.mus_score.specs.declared.score.Voice.{Voice}
use Rattle.mus_score.specs.Good.{IsGoodBody, IsGoodFlat}
use Rattle.mus_score.specs.GoodScore.{AreCounted, IsGoodVoice, events_of}
use Rattle.mus_score.specs.Times.{flats_of}
use Rattle.mus_score.proofs.Bounds.{flats_good}
use Rattle.{mus_onsets.specs.Order.{is_below}, mus_stems.specs.declared.plans.StemPlan.{StemPlan}}
use Rattle.mus_drawn.specs.declared.drawn.DrawnEvent.{DrawnEvent}
use Rattle.mus_drawn.specs.declared.drawn.DrawnMeasure.{DrawnMeasure}
use Rattle.mus_drawn.specs.declared.drawn.Style.{Style}
use Rattle.mus_drawn.specs.declared.standing.StaffState.{StaffState}
use Rattle.mus_drawn.specs.Drawn.{drawn_event, drawn_events, drawn_measure, drawn_measures, drawn_voice, standing_after}
use Rattle.mus_drawn.specs.Drawn.{staff_state_after, standing_of, style_of}
use Rattle.mus_time.specs.Columns.{note_key}

-- each event is later than those before it, and has a greater id
abbrev pub IsEarlier : DrawnEvent → DrawnEvent → Type 0
IsEarlier e f = (e.tick < f.tick) × (e.flat.event.id < f.flat.event.id)

abbrev pub GoOn : List DrawnEvent → Type 0
GoOn [] = Unit {0}
GoOn (e ∷ es) = AllByRecursion (IsEarlier e) es × GoOn es

abbrev pub AllGoOn : List DrawnMeasure → Type 0
AllGoOn ds = AllByRecursion (λ d. GoOn d.events) ds

events_after : (style : Style) (e : DrawnEvent) (tick id : ℕ) (now : StaffState) (fs : List Flat) (ps : List StemPlan)
    → e.tick < tick → e.flat.event.id < id → AreCounted id fs
    → AllByRecursion (IsEarlier e) (drawn_events style tick now fs ps)
events_after style e tick id now [] ps later more count = tt
events_after style e tick id now (f ∷ fs) [] later more count = tt
events_after style e tick id now (f ∷ fs) (p ∷ ps) later more count =
    let own = count.0 in (
      (later, omega (arith, own, more)),
      events_after style e (tick + f.duration) (suc id) (standing_after now f.event.changes) fs ps
          (omega (arith, later)) (omega (arith, more)) count.1,
    )

events_go_on : (style : Style) (tick id : ℕ) (now : StaffState) (fs : List Flat) (ps : List StemPlan)
    → AllByRecursion IsGoodFlat fs → AreCounted id fs → GoOn (drawn_events style tick now fs ps)
events_go_on style tick id now [] ps good count = tt
events_go_on style tick id now (f ∷ fs) [] good count = tt
events_go_on style tick id now (f ∷ fs) (p ∷ ps) good count =
    let some = good.0.some in let own = count.0 in (
      events_after style (drawn_event style tick now f p) (tick + f.duration) (suc id)
          (standing_after now f.event.changes) fs ps (omega (arith, some)) (omega (arith, own)) count.1,
      events_go_on style (tick + f.duration) (suc id) (standing_after now f.event.changes) fs ps good.1 count.1,
    )

counted_cut : (n : ℕ) (fs gs : List Flat) → AreCounted n (fs ++ gs) → AreCounted n fs × ((k : ℕ) × AreCounted k gs)
counted_cut n [] gs h = (tt, (n, h))
counted_cut n (f ∷ fs) gs h = let more = counted_cut (suc n) fs gs h.1 in ((h.0, more.0), more.1)

measure_goes_on : (style : Style) (now : StaffState) (m : Measure) (n : ℕ)
    → IsGoodBody m.body → AreCounted n (flats_of m.body) → GoOn (drawn_measure style now m).events
unfolding drawn_measure
measure_goes_on style now m n good count =
    events_go_on style 0 n now (flats_of m.body) _
    (recursion_from_All IsGoodFlat (flats_of m.body) (flats_good m.body good)) count

measures_go_on : (style : Style) (now : StaffState) (ms : List Measure) (n : ℕ)
    → AllByRecursion (λ m. IsGoodBody m.body) ms → AreCounted n (events_of ms) → AllGoOn (drawn_measures style now ms)
measures_go_on style now [] n good count = tt
measures_go_on style now (m ∷ ms) n good count =
    let parts = counted_cut n (flats_of m.body) (events_of ms) count in (
      measure_goes_on style now m n good.0 parts.0,
      measures_go_on style (staff_state_after now (flats_of m.body)) ms parts.1.0 good.1 parts.1.1,
    )

pub voice_goes_on : (v : Voice) → IsGoodVoice v → AllGoOn (drawn_voice v).measures
unfolding drawn_voice
voice_goes_on v good =
    measures_go_on (style_of v) (standing_of v) v.measures 0
    (recursion_from_All (λ m. IsGoodBody m.body) v.measures good.bodies) good.ids

pub later_below : (m : ℕ) (e f : DrawnEvent) → e.tick < f.tick → is_below (note_key m e) (note_key m f) ≡ true
unfolding is_below
later_below m e f h = grind (arith, nat_tests)
