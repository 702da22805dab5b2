-- The voices of a good score have their slots in the columns of a system, one after another.
use Rattle.std.proofs.Common.{◌≡◌, ℕ, ◌+◌, ◌-◌, ◌<◌, ◌≤◌, true, List, []}
use Rattle.std.proofs.Common.{◌∷◌, length, length-drop, length-take, map, drop, refl, sym, subst}
use Rattle.std.proofs.Common.{arith}
use Rattle.std.proofs.lemmas.List.Elements.{All-contains, recursion_from_All}
use Rattle.std.specs.List.{All, AllByRecursion, Contains, slice_index, slice_range}
use Rattle.mus_score.specs.declared.score.Flat.{Flat}
use Rattle.mus_score.specs.declared.score.Measure.{Measure}
use Rattle.mus_score.specs.declared.score.Score.{Score}
use Rattle.mus_score.specs.declared.score.Voice.{Voice}
use Rattle.mus_score.specs.GoodScore.{IsGoodScore, IsGoodVoice}
use Rattle.mus_score.specs.Seats.{is_lower}
use Rattle.mus_score.specs.Times.{flats_of}
use Rattle.mus_onsets.specs.declared.keys.ColumnKey.{ColumnKey}
use Rattle.mus_onsets.specs.declared.times.Timeline.{Timeline}
use Rattle.mus_onsets.specs.Keys.{AreKeys, IsInSystem, called_keys, voice_keys}
use Rattle.mus_onsets.specs.Onsets.{timeline_of}
use Rattle.mus_onsets.specs.Order.{Rises}
use Rattle.mus_stems.specs.declared.plans.StemPlan.{StemPlan}
use Rattle.mus_stems.proofs.RunLaws.{all_drop, all_take}
use Rattle.mus_drawn.specs.declared.drawn.DrawnEvent.{DrawnEvent}
use Rattle.mus_drawn.specs.declared.drawn.DrawnMeasure.{DrawnMeasure}
use Rattle.mus_drawn.specs.declared.drawn.DrawnVoice.{DrawnVoice}
use Rattle.mus_drawn.specs.declared.drawn.Style.{Style}
use Rattle.mus_drawn.specs.declared.standing.StaffState.{StaffState}
use Rattle.mus_drawn.specs.Drawn.{drawn_events, drawn_measure, drawn_measures, drawn_voice, staff_state_after}
use Rattle.mus_drawn.specs.Drawn.{standing_after, standing_of, style_of}
use Rattle.mus_time.specs.Columns.{note_key, staff_columns}
use Rattle.mus_time.proofs.Called.{keys_placed, staff_same}
use Rattle.mus_time.proofs.Counts.{voice_count}
use Rattle.mus_slots.specs.declared.slots.Slot.{Slot}
use Rattle.mus_slots.specs.Voice.{keys_of, voice_slots}
use Rattle.mus_slots.specs.Words.{IsOrdered}
use Rattle.mus_slots.proofs.KeysOf.{AreSeated, IsSeated, voice_keyed}
use Rattle.mus_slots.proofs.Rising.{AreTimed, TicksRise, voice_rises}
use Rattle.mus_marks.proofs.GoingOn.{AllGoOn, GoOn, IsEarlier, voice_goes_on}
use Rattle.mus_marks.proofs.Inside.{AreAmong, HasEvent, HasMeasures, here, measures_inside, there, voices_called}

-- ---- the events of a voice have its seat
events_seated : (style : Style) (tick : ℕ) (now : StaffState) (fs : List Flat) (ps : List StemPlan)
    → AreSeated (is_lower style.seat) (drawn_events style tick now fs ps)
events_seated style tick now [] ps = tt
events_seated style tick now (f ∷ fs) [] = tt
events_seated style tick now (f ∷ fs) (p ∷ ps) =
    (refl, events_seated style (tick + f.duration) (standing_after now f.event.changes) fs ps)

measure_seated : (style : Style) (now : StaffState) (m : Measure)
    → IsSeated (is_lower style.seat) (drawn_measure style now m)
unfolding drawn_measure
measure_seated style now m = (refl, events_seated style 0 now (flats_of m.body) _)

measures_seated : (style : Style) (now : StaffState) (ms : List Measure)
    → AllByRecursion (IsSeated (is_lower style.seat)) (drawn_measures style now ms)
measures_seated style now [] = tt
measures_seated style now (m ∷ ms) =
    (measure_seated style now m, measures_seated style (staff_state_after now (flats_of m.body)) ms)

pub voice_seated : (v : Voice) → AllByRecursion (IsSeated (is_lower (drawn_voice v).seat)) (drawn_voice v).measures
unfolding drawn_voice
voice_seated v = measures_seated (style_of v) (standing_of v) v.measures

-- ---- and come one after another, within their measures
ticks_rise : (low high : ℕ) (es : List DrawnEvent)
    → GoOn es → AllByRecursion (λ e. low ≤ e.tick) es → AllByRecursion (λ e. e.tick ≤ high) es → TicksRise low high es
ticks_rise low high [] on from to = tt
ticks_rise low high (e ∷ es) on from to =
    (from.0, to.0, ticks_rise (e.tick + 1) high es on.1 (later es on.0) to.1)
  where
    later : (fs : List DrawnEvent) → AllByRecursion (IsEarlier e) fs → AllByRecursion (λ f. e.tick + 1 ≤ f.tick) fs
    later [] h = tt
    later (f ∷ fs) h = let less = h.0.0 in (omega (arith, less), later fs h.1)

from_zero : (es : List DrawnEvent) → AllByRecursion (λ e. 0 ≤ e.tick) es
from_zero [] = tt
from_zero (e ∷ es) = (omega arith, from_zero es)

module _ (lengths : List ℕ) (a b : ℕ) (keys : List ColumnKey) (places : All (IsInSystem lengths a b) keys) where
  ticks_within : (m : ℕ) (es : List DrawnEvent)
      → AllByRecursion (HasEvent keys m) es → AllByRecursion (λ e. e.tick ≤ slice_index lengths m) es
  ticks_within m [] has = tt
  ticks_within m (e ∷ es) has =
      ((All-contains (IsInSystem lengths a b) keys (note_key m e) places has.0.note).within, ticks_within m es has.1)

  are_timed : (m : ℕ) (ds : List DrawnMeasure) → HasMeasures keys lengths m ds → AllGoOn ds → AreTimed lengths m ds
  are_timed m [] has on = tt
  are_timed m (d ∷ ds) has on = (
    ticks_rise 0 (slice_index lengths m) d.events on.0 (from_zero d.events) (ticks_within m d.events has.0.events),
    are_timed (m + 1) ds has.1 on.1,
  )

-- ---- all voices
among_all : (some keys : List ColumnKey) → AreAmong some keys → AllByRecursion (Contains keys) some
among_all [] keys h = tt
among_all (k ∷ ks) keys h = (h k (here k ks), among_all ks keys (λ l has. h l (there l k ks has)))

-- a voice whose columns rise and are among the keys of its system
pub record IsSlotted (keys : List ColumnKey) (lengths : List ℕ) (a b : ℕ) (v : DrawnVoice) : Type 0 where
  pub keyed : (first : ℕ) → keys_of (voice_slots first lengths a b v) ≡ staff_columns true lengths a b v
  pub rise : Rises (staff_columns true lengths a b v)
  pub inside : AllByRecursion (Contains keys) (staff_columns true lengths a b v)

each_inside : (keys : List ColumnKey) (ss : List Slot)
    → AllByRecursion (Contains keys) (keys_of ss) → AllByRecursion (λ s. Contains keys s.key) ss
each_inside keys [] h = tt
each_inside keys (s ∷ ss) h = (h.0, each_inside keys ss h.1)

pub slots_ordered : (keys : List ColumnKey) (lengths : List ℕ) (a b : ℕ) (v : DrawnVoice)
    → IsSlotted keys lengths a b v → IsOrdered keys lengths a b v
slots_ordered keys lengths a b v is first = (
  subst Rises (sym (is.keyed first)) is.rise,
  each_inside keys (voice_slots first lengths a b v)
      (subst (AllByRecursion (Contains keys)) (sym (is.keyed first)) is.inside),
)

-- a voice of a system that is not empty, with its seat and its columns
pub record IsReady (keys : List ColumnKey) (lengths : List ℕ) (a b : ℕ) (v : DrawnVoice) : Type 0 where
  pub some : 1 ≤ length (slice_range v.measures a b)
  pub seated : AllByRecursion (IsSeated (is_lower v.seat)) v.measures
  pub slotted : IsSlotted keys lengths a b v

module _ (s : Score) (t : Timeline) (a b : ℕ) (keys : List ColumnKey) (timed : t ≡ timeline_of s)
    (good : IsGoodScore s) (order : a < b) (within : b ≤ s.measures)
    (are : AreKeys keys (called_keys s t.lengths a b)) where
  places : All (IsInSystem t.lengths a b) keys
  places = keys_placed s t a b keys timed good order within are

  voice_ready : (v : Voice)
      → IsGoodVoice v → length v.measures ≡ s.measures → AreAmong (voice_keys t.lengths a b v) keys
      → HasMeasures keys t.lengths a (slice_range (drawn_voice v).measures a b)
      → IsReady keys t.lengths a b (drawn_voice v)
  voice_ready v fine all among has =
      let w = drawn_voice v in
      let on = all_take (λ d. GoOn d.events) (b - a) (drop a w.measures)
      (all_drop (λ d. GoOn d.events) a w.measures (voice_goes_on v fine)) in
      let dropped = length-drop a w.measures in
      let taken = length-take (b - a) (drop a w.measures) in
      let some : 1 ≤ length (slice_range w.measures a b) =
      omega (arith, order, within, all, voice_count v, dropped, taken) in
      record {
        some = some;
        seated = voice_seated v;
        slotted = record {
          keyed = λ first. voice_keyed first t.lengths a b w some (voice_seated v);
          rise =
              voice_rises t.lengths a b w
              (are_timed t.lengths a b keys places a (slice_range w.measures a b) has on);
          inside =
              subst (AllByRecursion (Contains keys)) (staff_same t.lengths a b v)
              (among_all (voice_keys t.lengths a b v) keys among);
        };
      }

  voices_ready : (vs : List Voice)
      → AllByRecursion IsGoodVoice vs → AllByRecursion (λ v. length v.measures ≡ s.measures) vs
      → AllByRecursion (λ v. AreAmong (voice_keys t.lengths a b v) keys) vs
      → AllByRecursion (λ v. HasMeasures keys t.lengths a (slice_range (drawn_voice v).measures a b)) vs
      → AllByRecursion (IsReady keys t.lengths a b) (map drawn_voice vs)
  voices_ready [] fine all among has = tt
  voices_ready (v ∷ vs) fine all among has =
      (voice_ready v fine.0 all.0 among.0 has.0, voices_ready vs fine.1 all.1 among.1 has.1)

  pub all_ready : AllByRecursion (IsReady keys t.lengths a b) (map drawn_voice s.voices)
  all_ready =
      voices_ready s.voices (recursion_from_All IsGoodVoice s.voices good.voices)
      (recursion_from_All (λ v. length v.measures ≡ s.measures) s.voices good.measures)
      (recursion_from_All (λ v. AreAmong (voice_keys t.lengths a b v) keys) s.voices
      (voices_called s t.lengths a b keys are))
      (recursion_from_All (λ v. HasMeasures keys t.lengths a (slice_range (drawn_voice v).measures a b)) s.voices
      (measures_inside s t.lengths a b keys good within are))
