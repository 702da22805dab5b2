-- A score is good in only one way, and so are the measures of drawn voices.
use Rattle.std.proofs.{Common.{ℕ, suc, List, [], ◌∷◌}, Props.props}
use Rattle.std.specs.Prelude.{All}
use Rattle.mus_units.specs.declared.key.Meter.TheVariants as meters
use Rattle.mus_units.specs.{declared.key.Meter.Meter, declared.pitch.Clef.Clef, Good.IsGoodMeter}
use Rattle.mus_score.specs.declared.score.{Flat.Flat, Score.Score, Voice.Voice}
use Rattle.mus_score.specs.GoodScore.{AreCounted, AreInReach, IsGoodEvent, IsGoodScore, IsGoodVoice, IsLed, clef_at}
use Rattle.mus_score.specs.GoodScore.{events_of}
use Rattle.mus_drawn.specs.declared.drawn.DrawnVoice.{DrawnVoice}
use Rattle.mus_drawn.specs.Good.{AllCanGrace, AreGoodMeasures, IsGoodDrawn, IsGoodMeasure}
use Rattle.mus_score.specs.declared.score.Event.{Event}
use Rattle.mus_drawn.specs.declared.drawn.{DrawnEvent.DrawnEvent, DrawnMeasure.DrawnMeasure}

meter_prop : (meter : Meter) → IsProp (IsGoodMeter meter)
meter_prop (meters.Ratio num den) = hlevel props
meter_prop meters.Free = hlevel props
meter_prop meters.Common = hlevel props
meter_prop meters.Cut = hlevel props

event_prop : (verses : ℕ) (f : Flat) → IsProp (IsGoodEvent verses f)
event_prop verses f = hlevel (props, meter_prop)

reach_prop : (before : Clef) (fs : List Flat) → IsProp (AreInReach before fs)
reach_prop before [] = hlevel props
reach_prop before (f ∷ fs) = hlevel (props, reach_prop (clef_at before f.event) fs)

counted_prop : (n : ℕ) (fs : List Flat) → IsProp (AreCounted n fs)
counted_prop n [] = hlevel props
counted_prop n (f ∷ fs) = hlevel (props, counted_prop (suc n) fs)

voice_prop : (v : Voice) → IsProp (IsGoodVoice v)
voice_prop v =
    hlevel (
      props,
      meter_prop v.meter,
      event_prop v.verses,
      reach_prop v.clef (events_of v.measures),
      counted_prop 0 (events_of v.measures),
    )

led_prop : (vs : List Voice) → IsProp (IsLed vs)
led_prop [] = hlevel props
led_prop (v ∷ vs) = hlevel props

pub score_prop : (s : Score) → IsProp (IsGoodScore s)
score_prop s = hlevel (props, voice_prop, led_prop s.voices)

graces_prop : (clef : Clef) (gs : List Event) → IsProp (AllCanGrace clef gs)
graces_prop clef [] = hlevel props
graces_prop clef (g ∷ gs) = hlevel (props, graces_prop clef gs)

drawn_prop : (e : DrawnEvent) → IsProp (IsGoodDrawn e)
drawn_prop e = hlevel (props, graces_prop e.clef e.flat.graces)

measure_prop : (m : DrawnMeasure) → IsProp (IsGoodMeasure m)
measure_prop m = hlevel (props, drawn_prop)

pub measured_prop : (vs : List DrawnVoice) → IsProp (All (λ v. AreGoodMeasures v.measures) vs)
measured_prop vs = hlevel (props, measure_prop)
