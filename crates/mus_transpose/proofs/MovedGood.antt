-- A moved score in reach is good.
use Rattle.mus_score.specs.Limits.{highest_head, lowest_head}
use Rattle.std.proofs.Common.{◌≡◌, ◌≢◌, ℕ, suc, ◌==◌, ◌&&◌, ◌*◌, ◌+ℤ◌, ◌<◌, nat_le, Bool, true, false, List, get_or, []}
use Rattle.std.proofs.Common.{◌∷◌, ◌++◌, length, map, refl, sym, ◌∙◌, Decides, ap, subst, arith, sum, if◌then◌else◌}
use Rattle.std.proofs.Math.Path.{fun_ext}
use Rattle.std.proofs.lemmas.Bool.{false≢true}
use Rattle.std.proofs.lemmas.Bool.Decides.{Decides-and, Decides-by_and, Decides-like}
use Rattle.std.proofs.lemmas.Int.{ints}
use Rattle.std.proofs.lemmas.List.{get_or-map, length-map, map-append}
use Rattle.std.proofs.lemmas.List.Elements.{All-map, All-weaker}
use Rattle.std.proofs.lemmas.List.Sums.{sum-map}
use Rattle.std.proofs.lemmas.Simd.{map-map}
use Rattle.std.specs.Prelude.{pos, negsuc, ◌≤ℤ◌, int_le, All, AllPairs, IfSome, Option, Some, None, sum_by, ℤ}
use Rattle.std.specs.Int.{int_div_euclid}
use Rattle.std.specs.Option.{option_map}
use Rattle.std.specs.List.{list_all}
use Rattle.mus_units.specs.Good.{IsGoodKey}
use Rattle.mus_units.specs.Pitch.{height_of, letter_number}
use Rattle.mus_units.specs.Value.{value_length, whole_note}
use Rattle.mus_units.specs.declared.key.Key.{Key}
use Rattle.mus_units.specs.declared.note.Head.{Head}
use Rattle.mus_units.specs.declared.pitch.Clef.{Clef}
use Rattle.mus_units.specs.declared.pitch.Letter.{Letter}
use Rattle.mus_pitch.proofs.SignLaws.{signs_of_good}
use Rattle.mus_score.specs.declared.score.Event.{Event}
use Rattle.mus_score.specs.declared.score.Flat.{Flat}
use Rattle.mus_score.specs.declared.score.Measure.{Measure}
use Rattle.mus_score.specs.declared.score.Music.{Music}
use Rattle.mus_score.specs.declared.score.Music.TheOpen.{Music-F}
use Rattle.mus_score.specs.declared.score.Score.{Score}
use Rattle.mus_score.specs.declared.score.Voice.{Voice}
use Rattle.mus_score.specs.declared.good.NodeContext.{NodeContext}
use Rattle.mus_score.specs.Good.{IsGoodBody, all_judged, good_step, has_value_ticks, node_verdict, outside, weight}
use Rattle.mus_score.specs.Good.{weight_step}
use Rattle.mus_score.specs.GoodScore.{AreCounted, AreInReach, IsInReach, clef_at, IsGoodEvent, IsGoodScore, IsGoodVoice}
use Rattle.mus_score.specs.GoodScore.{IsLed, events_of, voice_weight}
use Rattle.mus_score.specs.Times.{flats_of}
use Rattle.mus_transpose.specs.Moved.{CanMove, Within, are_in_reach, event_by, in_reach, moved_key, body_by}
use Rattle.mus_transpose.specs.Moved.{changed_flat, measure_by, move_from, moved_head, moved_score, on_circle, score_by}
use Rattle.mus_transpose.specs.Moved.{sharps_in, voice_by, voice_may}
use Rattle.mus_transpose.specs.declared.moves.Move.{Move}
use Rattle.mus_transpose.proofs.Changed.{flats_changed, fold_same}

-- ---- numbers
pub twelfth_fits : (z : ℤ) → Within (negsuc 1199) (pos 1199) z → Within (negsuc 99) (pos 99) (int_div_euclid z (pos 12))
twelfth_fits (pos a) h = let low = h.0 in let high = h.1 in (omega (arith, ints), omega (arith, ints))
twelfth_fits (negsuc a) h = let low = h.0 in let high = h.1 in (omega (arith, ints), omega (arith, ints))

pub few_letters : (l : Letter) → letter_number l < 7
few_letters Letter.C = omega arith
few_letters _ = omega arith

-- ---- bodies
note_judged : (m : Move) (e : Event) → good_step (Music-F.Note (event_by m e)) ≡ good_step (Music-F.Note e)
note_judged m e =
    ap (λ n. λ (at : NodeContext). node_verdict (nat_le 1 n && has_value_ticks e) true)
    (length-map e.heads (moved_head m))

rest_judged : (m : Move) (e : Event) → good_step (Music-F.Rest (event_by m e)) ≡ good_step (Music-F.Rest e)
rest_judged m e =
    ap (λ n.
    λ (at : NodeContext).
    node_verdict
    (if at.grace then false
    else (n == 0
    && nat_le e.value.dots 3
    && (if at.inner then e.ticks == value_length e.value else nat_le 1 e.ticks && nat_le e.ticks (99 * whole_note))))
    true)
    (length-map e.heads (moved_head m))

weights_kept : (m : Move) (body : List Music) → sum (map weight (body_by m body)) ≡ sum (map weight body)
weights_kept m body =
    ap sum (fold_same (event_by m) weight_step (λ e. length-map e.heads (moved_head m)) (λ e. refl) body)

body_good : (m : Move) (body : List Music) → IsGoodBody body → IsGoodBody (body_by m body)
body_good m body good = record {
  good = ap (λ js. (all_judged js outside).good) (fold_same (event_by m) good_step (note_judged m) (rest_judged m) body)
      ∙ good.good;
  few = omega (arith, weights_kept m body, good.few);
}

-- ---- events
pub events_moved : (m : Move) (ms : List Measure)
    → events_of (map (measure_by m) ms) ≡ map (changed_flat (event_by m)) (events_of ms)
events_moved m [] = refl
events_moved m (x ∷ ms) =
    ap (λ fs. fs ++ events_of (map (measure_by m) ms)) (flats_changed (event_by m) (λ e. refl) x.body)
    ∙ ap (λ fs. map (changed_flat (event_by m)) (flats_of x.body) ++ fs) (events_moved m ms)
    ∙ sym (map-append (changed_flat (event_by m)) (flats_of x.body) (events_of ms))

change_good : (m : Move) (k : Option Key) → IfSome (option_map (moved_key m) k) IsGoodKey
change_good m None = tt
change_good m (Some k) = signs_of_good (sharps_in k.signs +ℤ m.sharps)

event_good : (m : Move) (verses : ℕ) (f : Flat)
    → IsGoodEvent verses f → IsGoodEvent verses (changed_flat (event_by m) f)
event_good m verses f good = record { words = good.words; key = change_good m f.event.changes.key; meter = good.meter }

counted : (m : Move) (n : ℕ) (fs : List Flat) → AreCounted n fs → AreCounted n (map (changed_flat (event_by m)) fs)
counted m n [] h = tt
counted m n (f ∷ fs) h = (h.0, counted m (suc n) fs h.1)

-- ---- voices and scores
sum_kept : {A : Type 0} (f : A → ℕ) (g : A → A)
    → ((x : A) → f (g x) ≡ f x) → (xs : List A) → sum_by f (map g xs) ≡ sum_by f xs
sum_kept f g same xs =
    sym (sum-map f (map g xs)) ∙ ap sum (map-map f g xs ∙ ap (λ h. map h xs) (fun_ext same)) ∙ sum-map f xs

voice_weight_kept : (m : Move) (v : Voice) → voice_weight (voice_by m v) ≡ voice_weight v
voice_weight_kept m v =
    sum_kept (λ (x : Measure). sum (map weight x.body)) (measure_by m) (λ x. weights_kept m x.body) v.measures

pub bodies_good : (m : Move) (v : Voice)
    → IsGoodVoice v → All (λ (x : Measure). IsGoodBody x.body) (voice_by m v).measures
bodies_good m v good =
    All-map (λ (x : Measure). IsGoodBody x.body) (measure_by m) v.measures
    (All-weaker (λ (x : Measure). IsGoodBody x.body) (λ x. IsGoodBody (body_by m x.body)) (λ x. body_good m x.body)
    v.measures good.bodies)

voice_good : (m : Move) (v : Voice)
    → AreInReach v.clef (events_of (voice_by m v).measures) → IsGoodVoice v → IsGoodVoice (voice_by m v)
voice_good m v reach good =
    let g = changed_flat (event_by m) in
    record {
      few_measures = omega (arith, length-map v.measures (measure_by m), good.few_measures);
      few_verses = good.few_verses;
      near = good.near;
      few_heads = omega (arith, voice_weight_kept m v, good.few_heads);
      key = signs_of_good (sharps_in v.key.signs +ℤ m.sharps);
      meter = good.meter;
      bodies = bodies_good m v good;
      events =
          subst (All (IsGoodEvent v.verses)) (sym (events_moved m v.measures))
          (All-map (IsGoodEvent v.verses) g (events_of v.measures)
          (All-weaker (IsGoodEvent v.verses) (λ f. IsGoodEvent v.verses (g f)) (event_good m v.verses)
          (events_of v.measures) good.events));
      reach = reach;
      ids = subst (AreCounted 0) (sym (events_moved m v.measures)) (counted m 0 (events_of v.measures) good.ids);
    }

pub all_bodies_good : (m : Move) (s : Score)
    → IsGoodScore s → All (λ v. All (λ x. IsGoodBody x.body) v.measures) (score_by m s).voices
all_bodies_good m s good =
    All-map (λ v. All (λ x. IsGoodBody x.body) v.measures) (voice_by m) s.voices
    (All-weaker IsGoodVoice (λ v. All (λ (x : Measure). IsGoodBody x.body) (voice_by m v).measures) (bodies_good m)
    s.voices good.voices)

abbrev ReachAll : List Voice → Type 0
ReachAll vs = All (λ v. AreInReach v.clef (events_of v.measures)) vs

voices_good : (m : Move) (vs : List Voice)
    → ReachAll (map (voice_by m) vs) → All IsGoodVoice vs → All IsGoodVoice (map (voice_by m) vs)
voices_good m vs reach good = λ k d lt.
    let inside : k < length vs = omega (arith, length-map vs (voice_by m), lt) in
    let v = get_or vs k d in
    let e = get_or-map (voice_by m) vs k d d inside in
    subst IsGoodVoice (sym e)
    (voice_good m v (subst (λ (w : Voice). AreInReach w.clef (events_of w.measures)) e (reach k d lt))
    (good k d inside))

ids_apart : (m : Move) (vs : List Voice)
    → AllPairs (λ v w. v.id ≢ w.id) vs → AllPairs (λ v w. v.id ≢ w.id) (map (voice_by m) vs)
ids_apart m vs h = λ i j d below lt.
    let inside : j < length vs = omega (arith, length-map vs (voice_by m), lt) in
    let e = ap (λ (v : Voice). v.id) (get_or-map (voice_by m) vs i d d (omega arith)) in
    let f = ap (λ (v : Voice). v.id) (get_or-map (voice_by m) vs j d d inside) in
    λ same. h i j d below inside (sym e ∙ same ∙ f)

led_still : (m : Move) (vs : List Voice) → IsLed vs → IsLed (map (voice_by m) vs)
led_still m [] h = tt
led_still m (v ∷ vs) h = h

pub moved_good : (m : Move) (s : Score) → IsGoodScore s → ReachAll (score_by m s).voices → IsGoodScore (score_by m s)
moved_good m s good reach = record {
  few_voices = omega (arith, length-map s.voices (voice_by m), good.few_voices);
  few_measures = good.few_measures;
  few_heads = omega (arith, sum_kept voice_weight (voice_by m) (voice_weight_kept m) s.voices, good.few_heads);
  voices = voices_good m s.voices reach good.voices;
  measures =
      All-map (λ v. length v.measures ≡ s.measures) (voice_by m) s.voices
      (All-weaker (λ v. length v.measures ≡ s.measures) (λ v. length (map (measure_by m) v.measures) ≡ s.measures)
      (λ v e. length-map v.measures (measure_by m) ∙ e) s.voices good.measures);
  ids = ids_apart m s.voices good.ids;
  forced = good.forced;
  forced_rise = good.forced_rise;
  led = led_still m s.voices good.led;
}

-- ---- reach, and its tests
le_decides : (x y : ℤ) → Decides (int_le x y) (x ≤ℤ y)
le_decides x y = (λ e. grind (arith, ints), λ l. grind (arith, ints))

head_decides : (clef : Clef) (h : Head) → Decides (in_reach clef h) (IsInReach clef h)
head_decides clef h =
    Decides-and (int_le lowest_head (height_of h.pitch clef)) (int_le (height_of h.pitch clef) highest_head)
    (le_decides lowest_head (height_of h.pitch clef)) (le_decides (height_of h.pitch clef) highest_head)

heads_decide : (clef : Clef) (hs : List Head) → Decides (list_all (in_reach clef) hs) (All (IsInReach clef) hs)
heads_decide clef hs =
    Decides-by_and (in_reach clef) (IsInReach clef) (list_all (in_reach clef)) (head_decides clef) refl (λ _ _. refl) hs

graces_decide : (clef : Clef) (gs : List Event)
    → Decides (list_all (λ g. list_all (in_reach clef) g.heads) gs) (All (λ g. All (IsInReach clef) g.heads) gs)
graces_decide clef gs =
    let test = λ (g : Event). list_all (in_reach clef) g.heads in
    Decides-by_and test (λ g. All (IsInReach clef) g.heads) (list_all test) (λ g. heads_decide clef g.heads) refl
    (λ _ _. refl) gs

flats_decide : (before : Clef) (fs : List Flat) → Decides (are_in_reach before fs) (AreInReach before fs)
flats_decide before [] = (λ e. tt, λ h. refl)
flats_decide before (f ∷ fs) =
    let clef = clef_at before f.event in
    let graces = list_all (λ (g : Event). list_all (in_reach clef) g.heads) f.graces in
    Decides-like (list_all (in_reach clef) f.event.heads && (graces && are_in_reach clef fs)) (λ h. (h.0, h.1.0, h.1.1))
    (λ h. (h.0, (h.1, h.2)))
    (Decides-and (list_all (in_reach clef) f.event.heads) (graces && are_in_reach clef fs)
    (heads_decide clef f.event.heads)
    (Decides-and graces (are_in_reach clef fs) (graces_decide clef f.graces) (flats_decide clef fs)))

pub voices_decide : (vs : List Voice)
    → Decides (list_all (λ v. are_in_reach v.clef (events_of v.measures)) vs)
    (All (λ v. AreInReach v.clef (events_of v.measures)) vs)
voices_decide vs =
    let test = λ (v : Voice). are_in_reach v.clef (events_of v.measures) in
    Decides-by_and test (λ v. AreInReach v.clef (events_of v.measures)) (list_all test)
    (λ v. flats_decide v.clef (events_of v.measures)) refl (λ _ _. refl) vs

-- ---- what the tests say about a move
abbrev pub all_in_reach : List Voice → Bool
all_in_reach vs = list_all (λ v. are_in_reach v.clef (events_of v.measures)) vs

pub has_moved : (s : Score) (key : Key) (by : ℤ) (m : Move) (t : Score) → m ≡ move_from key by → t ≡ score_by m s
    → on_circle key ≡ true → list_all (voice_may m) s.voices ≡ true → all_in_reach t.voices ≡ true
    → CanMove s key by × (t ≡ moved_score s key by)
has_moved s key by m t move is header voices reach =
    let e : t ≡ moved_score s key by = is ∙ ap (λ (n : Move). score_by n s) move in (
      record {
        header = header;
        voices = ap (λ (n : Move). list_all (voice_may n) s.voices) (sym move) ∙ voices;
        reach = subst (λ (u : Score). ReachAll u.voices) e ((voices_decide t.voices).0 reach);
      },
      e,
    )

pub out_of_reach : (s : Score) (key : Key) (by : ℤ) (m : Move) (t : Score)
    → m ≡ move_from key by → t ≡ score_by m s → all_in_reach t.voices ≡ false → CanMove s key by → ⊥
out_of_reach s key by m t move is out can =
    let e : t ≡ moved_score s key by = is ∙ ap (λ (n : Move). score_by n s) move in
    false≢true (sym out ∙ (voices_decide t.voices).1 (subst (λ (u : Score). ReachAll u.voices) (sym e) can.reach))
