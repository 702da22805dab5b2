-- The voices of a score call for the columns that they have when drawn.
use Rattle.std.proofs.Common.{◌≡◌, ◌∙◌, ℕ, zero, suc, ◌+◌, ◌-◌, ◌<◌, ◌≤◌, Bool, true, false, not, ◌&&◌, ◌||◌, nat_le}
use Rattle.std.proofs.Common.{if◌then◌else◌, List, [], ◌∷◌, ◌++◌, length, map, take, drop, Option, Some, None, refl}
use Rattle.std.proofs.Common.{sym, ap, subst, arith}
use Rattle.std.proofs.lemmas.List.Sums.{sum_by-cons}
use Rattle.std.specs.List.{All, flat_map}
use Rattle.std.specs.Prelude.{is_some, unwrap_or}
use Rattle.mus_units.specs.declared.key.Key.{Key}
use Rattle.mus_units.specs.declared.key.Meter.{Meter}
use Rattle.mus_units.specs.declared.note.Wish.{Wish}
use Rattle.mus_units.specs.declared.pitch.Clef.{Clef}
use Rattle.mus_score.specs.declared.score.Flat.{Flat}
use Rattle.mus_score.specs.declared.score.Measure.{Measure}
use Rattle.mus_score.specs.declared.score.Score.{Score}
use Rattle.mus_score.specs.declared.score.Voice.{Voice}
use Rattle.mus_score.specs.Good.{total_ticks}
use Rattle.mus_score.specs.GoodScore.{IsGoodScore}
use Rattle.mus_score.specs.Seats.{is_lower}
use Rattle.mus_score.specs.Times.{flats_of}
use Rattle.mus_stems.specs.declared.plans.StemPlan.{StemPlan}
use Rattle.mus_stems.specs.Plans.{stems_of}
use Rattle.mus_stems.specs.Stills.{clefs_from, stills}
use Rattle.mus_stems.proofs.EndLaws.{plans_length}
use Rattle.mus_onsets.proofs.Places.{further_places, places_of}
use Rattle.mus_onsets.specs.declared.times.Timeline.{Timeline}
use Rattle.mus_onsets.specs.Onsets.{timeline_of}
use Rattle.mus_onsets.specs.Keys.{all_keys, AreKeys, bar_key, called_keys, event_keys, events_keys, first_keys}
use Rattle.mus_onsets.specs.Keys.{grace_keys, has_entries, head_key, IsInSystem, key_at, key_has_mark, keys_by}
use Rattle.mus_onsets.specs.Keys.{measure_keys, measures_keys, meter_has_mark, signed_after, signed_from}
use Rattle.mus_onsets.specs.Keys.{signed_through, voice_keys}
use Rattle.mus_onsets.specs.declared.keys.Class.{Class}
use Rattle.mus_onsets.specs.declared.keys.ColumnKey.{ColumnKey}
use Rattle.mus_drawn.specs.declared.drawn.DrawnVoice.{DrawnVoice}
use Rattle.mus_drawn.specs.declared.drawn.Style.{Style}
use Rattle.mus_drawn.specs.declared.standing.StaffState.{StaffState}
use Rattle.mus_drawn.specs.Drawn.{drawn_events, drawn_measure, drawn_measures, drawn_voice, old_signs, standing_after}
use Rattle.mus_drawn.specs.Drawn.{staff_state_after, standing_of, style_of}
use Rattle.mus_time.specs.Columns.{events_columns, keys_called, measures_columns, staff_columns, voice_columns}

-- ---- the columns of drawn events
-- a drawn event has the signs of the key before it if they matter
mark_same : (key : Key) (clef : Option Clef) (new : Option Key) (meter : Option Meter)
    → (is_some clef || key_has_mark (has_entries key) new || meter_has_mark meter)
    ≡ (is_some clef || key_has_mark (nat_le 1 (length (old_signs key new))) new || meter_has_mark meter)
mark_same key clef None meter = refl
mark_same key clef (Some new) meter = refl

signed_same : (key : Key) (new : Option Key) → signed_after (has_entries key) new ≡ has_entries (unwrap_or new key)
signed_same key None = refl
signed_same key (Some new) = refl

event_same : (m tick : ℕ) (in_head : Bool) (now : StaffState) (f : Flat)
    → event_keys m tick in_head (has_entries now.key) f
    ≡ event_keys m tick in_head (nat_le 1 (length (old_signs now.key f.event.changes.key))) f
event_same m tick in_head now f =
    ap (λ c.
    (if not in_head && c then key_at m tick Class.Change 0 ∷ [] else []) ++ grace_keys m tick 0 f.graces
    ++ key_at m tick Class.Note 0 ∷ [])
    (mark_same now.key f.event.changes.clef f.event.changes.key f.event.changes.meter)

events_same : (style : Style) (m tick : ℕ) (in_head signed : Bool) (now : StaffState) (before fs : List Flat)
    (ps : List StemPlan)
    → signed ≡ has_entries now.key → tick ≡ total_ticks before → length ps ≡ length fs
    → events_keys m in_head signed before fs ≡ events_columns m in_head (drawn_events style tick now fs ps)
events_same style m tick in_head signed now before [] ps s t long = refl
events_same style m tick in_head signed now before (f ∷ fs) [] s t long = absurd (omega (arith, long))
events_same style m tick in_head signed now before (f ∷ fs) (p ∷ ps) s t long =
    let sum = sum_by-cons (λ x. x.duration) f before in
    let more = events_same style m (tick + f.duration) false (signed_after signed f.event.changes.key)
    (standing_after now f.event.changes) (f ∷ before) fs ps
    (ap (λ c. signed_after c f.event.changes.key) s ∙ signed_same now.key f.event.changes.key) (omega (arith, sum, t))
    (omega (arith, long)) in
    ap (λ c.
    event_keys m (total_ticks before) in_head c f
    ++ events_keys m false (signed_after signed f.event.changes.key) (f ∷ before) fs)
    s
    ∙ ap (λ t. t ++ events_keys m false (signed_after signed f.event.changes.key) (f ∷ before) fs)
    (event_same m (total_ticks before) in_head now f)
    ∙ ap (λ n.
    event_keys m n in_head (nat_le 1 (length (old_signs now.key f.event.changes.key))) f
    ++ events_keys m false (signed_after signed f.event.changes.key) (f ∷ before) fs)
    (sym t)
    ∙ ap (λ t. event_keys m tick in_head (nat_le 1 (length (old_signs now.key f.event.changes.key))) f ++ t) more

-- ---- those of drawn measures
plans_count : (wish : Wish) (clef : Clef) (fs : List Flat) → length (stems_of wish fs (clefs_from clef fs)) ≡ length fs
unfolding stems_of
plans_count wish clef fs = plans_length wish (stills fs (clefs_from clef fs)) _ fs clef refl refl

measure_same : (m : ℕ) (in_head signed : Bool) (style : Style) (now : StaffState) (x : Measure)
    → signed ≡ has_entries now.key
    → events_keys m in_head signed [] (flats_of x.body) ≡ events_columns m in_head (drawn_measure style now x).events
unfolding drawn_measure
measure_same m in_head signed style now x s =
    events_same style m 0 in_head signed now [] (flats_of x.body) _ s refl
    (plans_count style.wish now.clef (flats_of x.body))

through_same : (signed : Bool) (now : StaffState) (fs : List Flat)
    → signed ≡ has_entries now.key → signed_through signed fs ≡ has_entries (staff_state_after now fs).key
through_same signed now [] s = s
through_same signed now (f ∷ fs) s =
    through_same (signed_after signed f.event.changes.key) (standing_after now f.event.changes) fs
    (ap (λ c. signed_after c f.event.changes.key) s ∙ signed_same now.key f.event.changes.key)

module _ (lengths : List ℕ) (style : Style) where
  first_measures : (m n : ℕ) (in_head signed : Bool) (now : StaffState) (xs : List Measure)
      → signed ≡ has_entries now.key
      → measures_keys lengths m in_head signed (take n xs)
      ≡ measures_columns lengths m in_head (take n (drawn_measures style now xs))
  first_measures m zero in_head signed now xs s = refl
  first_measures m (suc n) in_head signed now [] s = refl
  first_measures m (suc n) in_head signed now (x ∷ xs) s =
      let fs = flats_of x.body in
      ap (λ t. t ++ bar_key lengths m ∷ measures_keys lengths (m + 1) false (signed_through signed fs) (take n xs))
      (measure_same m in_head signed style now x s)
      ∙ ap (λ t. events_columns m in_head (drawn_measure style now x).events ++ bar_key lengths m ∷ t)
      (first_measures (m + 1) n false (signed_through signed fs) (staff_state_after now fs) xs
      (through_same signed now fs s))

  some_measures : (m a n : ℕ) (in_head signed : Bool) (now : StaffState) (xs : List Measure)
      → signed ≡ has_entries now.key
      → measures_keys lengths m in_head (signed_from signed (take a xs)) (take n (drop a xs))
      ≡ measures_columns lengths m in_head (take n (drop a (drawn_measures style now xs)))
  some_measures m zero n in_head signed now xs s = first_measures m n in_head signed now xs s
  some_measures m (suc a) zero in_head signed now [] s = refl
  some_measures m (suc a) (suc n) in_head signed now [] s = refl
  some_measures m (suc a) n in_head signed now (x ∷ xs) s =
      some_measures m a n in_head (signed_through signed (flats_of x.body)) (staff_state_after now (flats_of x.body)) xs
      (through_same signed now (flats_of x.body) s)

-- a voice with a staff of its own calls for the columns of its drawing, and a lower one for those of its notes and
-- graces
pub voice_same : (lengths : List ℕ) (a b : ℕ) (v : Voice)
    → all_keys lengths a b v ≡ voice_columns lengths a b (drawn_voice v)
unfolding drawn_voice
voice_same lengths a b v =
    ap (λ t. head_key a ∷ first_keys a v.first ++ t)
    (some_measures lengths (style_of v) a a (b - a) true (has_entries v.key) (standing_of v) v.measures refl)

-- voices call for the columns that they have on their staves when drawn
pub staff_same : (lengths : List ℕ) (a b : ℕ) (v : Voice)
    → voice_keys lengths a b v ≡ staff_columns true lengths a b (drawn_voice v)
unfolding drawn_voice
staff_same lengths a b v = ap (keys_by (is_lower v.seat)) (voice_same lengths a b v)

further_same : (lengths : List ℕ) (m : ℕ) (v : Voice)
    → measure_keys lengths m v ≡ staff_columns false lengths m (m + 1) (drawn_voice v)
unfolding drawn_voice
further_same lengths m v =
    ap (keys_by (is_lower v.seat))
    (some_measures lengths (style_of v) m m (m + 1 - m) false (has_entries v.key) (standing_of v) v.measures refl)

each_same : (f : Voice → List ColumnKey) (g : DrawnVoice → List ColumnKey)
    → ((v : Voice) → f v ≡ g (drawn_voice v)) → (vs : List Voice) → flat_map f vs ≡ flat_map g (map drawn_voice vs)
each_same f g same [] = refl
each_same f g same (v ∷ vs) =
    ap (λ ks. ks ++ flat_map f vs) (same v) ∙ ap (λ ks. g (drawn_voice v) ++ ks) (each_same f g same vs)

pub voices_same : (lengths : List ℕ) (a b : ℕ) (vs : List Voice)
    → flat_map (voice_keys lengths a b) vs ≡ flat_map (staff_columns true lengths a b) (map drawn_voice vs)
voices_same lengths a b = each_same (voice_keys lengths a b) (staff_columns true lengths a b) (staff_same lengths a b)

pub called_same : (begins : Bool) (s : Score) (lengths : List ℕ) (m : ℕ)
    → keys_called begins s lengths m ≡ flat_map (staff_columns begins lengths m (m + 1)) (map drawn_voice s.voices)
called_same true s lengths m = voices_same lengths m (m + 1) s.voices
called_same false s lengths m =
    each_same (measure_keys lengths m) (staff_columns false lengths m (m + 1)) (further_same lengths m) s.voices

-- the keys of a system are within it
pub keys_placed : (s : Score) (t : Timeline) (a b : ℕ) (keys : List ColumnKey)
    → t ≡ timeline_of s → IsGoodScore s → a < b → b ≤ s.measures
    → AreKeys keys (called_keys s t.lengths a b) → All (IsInSystem t.lengths a b) keys
keys_placed s t a b keys timed good order within are =
    let same = ap (λ t. t.lengths) timed in
    subst (λ ls. All (IsInSystem ls a b) keys) (sym same)
    (places_of s a b keys good order within (subst (λ ls. AreKeys keys (called_keys s ls a b)) same are))

pub called_places : (begins : Bool) (s : Score) (m : ℕ) (keys : List ColumnKey)
    → IsGoodScore s → m < s.measures
    → AreKeys keys (keys_called begins s (timeline_of s).lengths m)
    → All (IsInSystem (timeline_of s).lengths m (m + 1)) keys
called_places true s m keys good within are = places_of s m (m + 1) keys good (omega arith) (omega (arith, within)) are
called_places false s m keys good within are = further_places s m keys good within are
