-- The drawn measures of a voice, tilted or not, come from the score's, and their events have columns in its system.
use Rattle.std.proofs.Common.{◌≡◌, Bool, refl, sym, ap, subst, ◌∙◌, zero, suc, ◌+◌, ◌≤◌, ◌<◌, map, false, Some}
use Rattle.std.proofs.Common.{arith}
use Rattle.std.proofs.lemmas.List.{length-map}
use Rattle.std.proofs.lemmas.List.Elements.{All-contains, recursion_from_All}
use Rattle.std.proofs.lemmas.Simd.{map-map}
use Rattle.std.specs.Prelude.{ℕ, ℤ, List, [], ◌∷◌, take, drop, slice_get, slice_range}
use Rattle.std.specs.List.{AllByRecursion, AllZip, Contains}
use Rattle.mus_score.specs.declared.score.Flat.{Flat}
use Rattle.mus_score.specs.declared.score.Measure.{Measure}
use Rattle.mus_score.specs.declared.score.Score.{Score}
use Rattle.mus_score.specs.declared.score.Seat.{Seat}
use Rattle.mus_score.specs.declared.score.Voice.{Voice}
use Rattle.mus_score.specs.GoodScore.{AreInReach, IsGoodScore, IsGoodVoice, IsInReach, clef_at, events_of}
use Rattle.mus_score.specs.Seats.{is_lower}
use Rattle.mus_score.specs.Times.{flats_of}
use Rattle.mus_onsets.specs.{declared.keys.ColumnKey.ColumnKey, Keys.{AreKeys, called_keys}, Onsets.timeline_of}
use Rattle.mus_stems.specs.declared.plans.StemPlan.{StemPlan}
use Rattle.mus_stems.specs.declared.stills.StemInput.{StemInput}
use Rattle.mus_stems.specs.Columns.{AreInColumns}
use Rattle.mus_stems.specs.Displaced.{AreDisplaced}
use Rattle.mus_stems.specs.Heads.{AllNear, stand_of}
use Rattle.mus_stems.specs.Signs.{first_sign}
use Rattle.mus_stems.specs.Stills.{clefs_from, still_of, stills}
use Rattle.mus_stems.specs.Plans.{plan_of, stems_of}
use Rattle.mus_stems.proofs.ColumnLaws.{signs_in_columns}
use Rattle.mus_stems.proofs.DisplacedLaws.{shifts_displace}
use Rattle.mus_units.specs.declared.note.Wish.{Wish}
use Rattle.mus_units.specs.declared.pitch.Clef.{Clef}
use Rattle.mus_drawn.specs.declared.drawn.DrawnEvent.{DrawnEvent}
use Rattle.mus_drawn.specs.declared.drawn.DrawnMeasure.{DrawnMeasure}
use Rattle.mus_drawn.specs.declared.drawn.Style.{Style}
use Rattle.mus_drawn.specs.declared.standing.StaffState.{StaffState}
use Rattle.mus_drawn.specs.Drawn.{drawn_events, drawn_measure, drawn_measures, drawn_voice, opening_of, standing_after}
use Rattle.mus_drawn.specs.Drawn.{staff_state_after, standing_of, style_of}
use Rattle.mus_drawn.proofs.Reaches.{near_of, reach_cut}
use Rattle.mus_slots.proofs.Plans.{all_planned}
use Rattle.mus_marks.specs.Tilt.{sloped_over, voice_tilted}
use Rattle.mus_marks.proofs.Ending.{flat_event, flat_measure, flat_voice}
use Rattle.mus_marks.proofs.GoingOn.{AllGoOn, GoOn, voice_goes_on}
use Rattle.mus_marks.proofs.Inside.{HasEvent, HasMeasures, measure_at, measures_inside}
use Rattle.law_voice_sound.specs.Columns.{state_shown, standing_through}
use Rattle.law_staff_columns.proofs.Forms.{AreSeated, EventsDrawn, MeasuresDrawn, flats_in}
use Rattle.law_staff_columns.proofs.Signed.{heads_shifted, signs_placed}

-- ---- plans that have a place for each sign and head
HasPlaces : StemInput → StemPlan → Type 0
HasPlaces e p = AreDisplaced p.up e.stands p.shifts × AreInColumns (first_sign p.shifts) e.stands p.signs

plan_placed : (up : Bool) (to : ℤ) (group : ℕ) (e : StemInput)
    → AllNear e.stands → HasPlaces e (plan_of up to group e)
unfolding plan_of HasPlaces
plan_placed up to group e near = (shifts_displace up e.stands near, signs_in_columns _ e.stands near)

stills_near : (clef : Clef) (fs : List Flat)
    → AreInReach clef fs → AllByRecursion (λ e. AllNear e.stands) (stills fs (clefs_from clef fs))
unfolding still_of
stills_near clef [] reach = tt
stills_near clef (f ∷ fs) reach =
    (near_of (clef_at clef f.event) f.event.heads reach.0, stills_near (clef_at clef f.event) fs reach.2)

stems_placed : (wish : Wish) (clef : Clef) (fs : List Flat)
    → AreInReach clef fs → AllZip HasPlaces (stills fs (clefs_from clef fs)) (stems_of wish fs (clefs_from clef fs))
stems_placed wish clef fs reach =
    all_planned (λ e. AllNear e.stands) HasPlaces plan_placed wish fs (clefs_from clef fs) (stills_near clef fs reach)

-- ---- measures as they are drawn, all ends at 0
events_drawn : (style : Style) (tick : ℕ) (now : StaffState) (fs : List Flat) (ps : List StemPlan)
    → is_lower style.seat ≡ false → AreInReach now.clef fs → AllZip HasPlaces (stills fs (clefs_from now.clef fs)) ps
    → (flats_in (map flat_event (drawn_events style tick now fs ps)) ≡ fs)
    × EventsDrawn now (map flat_event (drawn_events style tick now fs ps))
unfolding HasPlaces still_of
events_drawn style tick now [] ps alone reach places = (refl, tt)
events_drawn style tick now (f ∷ fs) [] alone reach places = absurd places
events_drawn style tick now (f ∷ fs) (p ∷ ps) alone reach places =
    let more =
    events_drawn style (tick + f.duration) (standing_after now f.event.changes) fs ps alone reach.2 places.1 in
    let signs = signs_placed (first_sign p.shifts) (clef_at now.clef f.event) f.event.heads p.signs places.0.1 in
    let shifts = heads_shifted f.event.heads p.shifts
    (places.0.0.each ∙ length-map f.event.heads (stand_of (clef_at now.clef f.event))) in (
      ap (λ gs. f ∷ gs) more.0,
      (record { first = alone; clef = refl; old = refl; signs = signs; shifts = shifts; graces = reach.1 }, more.1),
    )

opening_shown : (now : StaffState) (fs : List Flat)
    → ((opening_of now fs).clef ≡ (state_shown now fs).clef) × ((opening_of now fs).key ≡ (state_shown now fs).key)
opening_shown now [] = (refl, refl)
opening_shown now (f ∷ fs) = (refl, refl)

module _ (keys : List ColumnKey) (a b : ℕ) where
  events_seated : (style : Style) (m id low tick : ℕ) (now : StaffState) (fs : List Flat) (ps : List StemPlan)
      → AreInReach now.clef fs → GoOn (drawn_events style tick now fs ps)
      → AllByRecursion (λ e. (low ≤ e.tick) × (id ≤ e.flat.event.id)) (drawn_events style tick now fs ps)
      → (a ≤ m → m < b → AllByRecursion (HasEvent keys m) (drawn_events style tick now fs ps))
      → AreSeated keys a b m id low (map flat_event (drawn_events style tick now fs ps))
  events_seated style m id low tick now [] ps reach on least has = tt
  events_seated style m id low tick now (f ∷ fs) [] reach on least has = tt
  events_seated style m id low tick now (f ∷ fs) (p ∷ ps) reach on least has = (
    record {
      id = least.0.1;
      tick = least.0.0;
      column = λ from to. (has from to).0.note;
      heads = recursion_from_All (IsInReach (clef_at now.clef f.event)) f.event.heads reach.0;
    },
    events_seated style m (suc f.event.id) (suc tick) (tick + f.duration) (standing_after now f.event.changes) fs ps
        reach.2 on.1 on.0 (λ from to. (has from to).1),
  )

  least : (es : List DrawnEvent) → AllByRecursion (λ e. (0 ≤ e.tick) × (0 ≤ e.flat.event.id)) es
  least [] = tt
  least (e ∷ es) = ((omega arith, omega arith), least es)

  measures_drawn : (style : Style) (m : ℕ) (now : StaffState) (xs : List Measure)
      → is_lower style.seat ≡ false → AreInReach now.clef (events_of xs) → AllGoOn (drawn_measures style now xs)
      → ((k n : ℕ) (d : DrawnMeasure)
      → n ≡ k + m → slice_get (drawn_measures style now xs) k ≡ Some d → a ≤ n → n < b
      → AllByRecursion (HasEvent keys n) d.events)
      → MeasuresDrawn keys a b m now xs (map flat_measure (drawn_measures style now xs))
  unfolding drawn_measure
  measures_drawn style m now [] alone reach on has = tt
  measures_drawn style m now (x ∷ xs) alone reach on has =
      let fs = flats_of x.body in
      let parts = reach_cut now fs (events_of xs) reach in
      let shown = opening_shown now fs in
      let d = drawn_measure style now x in
      let events = events_drawn style 0 now fs _ alone parts.0 (stems_placed style.wish now.clef fs parts.0) in
      let seats = events_seated style m 0 0 0 now fs _ parts.0 on.0 (least d.events) (has 0 m d (omega arith) refl) in (
        record {
          first = alone;
          bar = refl;
          flats = events.0;
          clef = shown.0;
          key = shown.1;
          events = events.1;
          seats = seats;
        },
        measures_drawn style (m + 1) (staff_state_after now fs) xs alone parts.1 on.1
            (λ k n e same. has (suc k) n e (omega (arith, same))),
      )

  -- ---- ends do not matter
  events_kept : (now : StaffState) (es : List DrawnEvent) → EventsDrawn now (map flat_event es) → EventsDrawn now es
  events_kept now [] drawn = tt
  events_kept now (e ∷ es) drawn =
      let d = drawn.0 in (
        record { first = d.first; clef = d.clef; old = d.old; signs = d.signs; shifts = d.shifts; graces = d.graces },
        events_kept (standing_after now e.flat.event.changes) es drawn.1,
      )

  seats_kept : (m id tick : ℕ) (es : List DrawnEvent)
      → AreSeated keys a b m id tick (map flat_event es) → AreSeated keys a b m id tick es
  seats_kept m id tick [] seats = tt
  seats_kept m id tick (e ∷ es) seats =
      let s = seats.0 in (
        record { id = s.id; tick = s.tick; column = s.column; heads = s.heads },
        seats_kept m (suc e.flat.event.id) (suc e.tick) es seats.1,
      )

  measures_kept : (m : ℕ) (now : StaffState) (xs : List Measure) (ds : List DrawnMeasure)
      → MeasuresDrawn keys a b m now xs (map flat_measure ds) → MeasuresDrawn keys a b m now xs ds
  measures_kept m now [] [] drawn = tt
  measures_kept m now (x ∷ xs) (d ∷ ds) drawn =
      let r = drawn.0 in let same = sym (map-map (λ (e : DrawnEvent). e.flat) flat_event d.events) ∙ r.flats in (
        record {
          first = r.first;
          bar = r.bar;
          flats = same;
          clef = r.clef;
          key = r.key;
          events = events_kept now d.events r.events;
          seats = seats_kept m 0 0 d.events r.seats;
        },
        measures_kept (m + 1) (staff_state_after now (flats_of x.body)) xs ds drawn.1,
      )
  measures_kept m now xs ds drawn = absurd drawn

  -- ---- some of the measures
  pub measures_after : (k m n : ℕ) (now : StaffState) (xs : List Measure) (ds : List DrawnMeasure)
      → n ≡ k + m → MeasuresDrawn keys a b m now xs ds
      → MeasuresDrawn keys a b n (standing_through now (take k xs)) (drop k xs) (drop k ds)
  measures_after zero m n now xs ds at drawn =
      let here : m ≡ n = omega (arith, at) in subst (λ i. MeasuresDrawn keys a b i now xs ds) here drawn
  measures_after (suc k) m n now [] [] at drawn = tt
  measures_after (suc k) m n now (x ∷ xs) (d ∷ ds) at drawn =
      measures_after k (m + 1) n (staff_state_after now (flats_of x.body)) xs ds (omega (arith, at)) drawn.1
  measures_after (suc k) m n now xs ds at drawn = absurd drawn

  pub measures_prefix : (n m : ℕ) (now : StaffState) (xs : List Measure) (ds : List DrawnMeasure)
      → MeasuresDrawn keys a b m now xs ds → MeasuresDrawn keys a b m now (take n xs) (take n ds)
  measures_prefix zero m now xs ds drawn = tt
  measures_prefix (suc n) m now [] [] drawn = tt
  measures_prefix (suc n) m now (x ∷ xs) (d ∷ ds) drawn =
      (drawn.0, measures_prefix n (m + 1) (staff_state_after now (flats_of x.body)) xs ds drawn.1)
  measures_prefix (suc n) m now xs ds drawn = absurd drawn

pub voice_drawn : (s : Score) (v : Voice) (keys : List ColumnKey) (at : List ℤ) (a b : ℕ)
    → IsGoodScore s → Contains s.voices v → v.seat ≡ Seat.Alone → b ≤ s.measures
    → AreKeys keys (called_keys s (timeline_of s).lengths a b)
    → MeasuresDrawn keys a b 0 (standing_of v) v.measures (voice_tilted keys at a b (drawn_voice v)).measures
unfolding drawn_voice
voice_drawn s v keys at a b good has alone within are =
    let lengths = (timeline_of s).lengths in
    let now = standing_of v in
    let d = drawn_voice v in
    let fine = All-contains IsGoodVoice s.voices v good.voices has in
    let seen = All-contains (λ w. HasMeasures keys lengths a (slice_range (drawn_voice w).measures a b)) s.voices v
    (measures_inside s lengths a b keys good within are) has in
    let same = sym (flat_voice a (sloped_over keys at a (slice_range d.measures a b)) d) in
    measures_kept keys a b 0 now v.measures (voice_tilted keys at a b d).measures
    (subst (MeasuresDrawn keys a b 0 now v.measures) same
    (measures_drawn keys a b (style_of v) 0 now v.measures (ap is_lower alone) fine.reach (voice_goes_on v fine)
    (λ k n e at is from to.
    (measure_at keys lengths a b n d.measures e seen from to
    (subst (λ i. slice_get d.measures i ≡ Some e) (omega (arith, at)) is)).events)))
