-- Voices with other ends: what stays unchanged.
use Rattle.std.proofs.Common.{◌≡◌, ◌∙◌, ℕ, zero, suc, ℤ, pos, ◌+◌, ◌-◌, cond, List, [], ◌∷◌, ◌++◌}
use Rattle.std.proofs.Common.{◌&&◌, length, take, drop, sum, map, refl, sym, ap}
use Rattle.std.proofs.lemmas.List.{drop-map, length-map, map-append, take-append-drop, take-map}
use Rattle.std.specs.List.{AllByRecursion, list_all, prefix_len, slice_range}
use Rattle.mus_onsets.specs.declared.keys.ColumnKey.{ColumnKey}
use Rattle.mus_stems.specs.declared.plans.StemPlan.{StemPlan}
use Rattle.mus_stems.specs.Slope.{with_end}
use Rattle.mus_stems.proofs.RunLaws.{all_append, all_drop, all_take}
use Rattle.mus_laid.specs.declared.laid.Laid.{Laid}
use Rattle.mus_words.specs.declared.texts.TextPlace.{TextPlace}
use Rattle.mus_drawn.specs.declared.drawn.DrawnEvent.{DrawnEvent}
use Rattle.mus_drawn.specs.declared.drawn.DrawnMeasure.{DrawnMeasure}
use Rattle.mus_drawn.specs.declared.drawn.DrawnVoice.{DrawnVoice}
use Rattle.mus_bridges.specs.Ends.{event_ended, measure_ended, over, voice_ended}
use Rattle.mus_slots.specs.Voice.{head_slots, levels_after, slots_of_voices, voice_slots}
use Rattle.mus_slots.specs.Words.{all_passed, with_words, words_from, words_slot, words_slots}
use Rattle.mus_slots.proofs.Marks.{Fits, FitsEvent, FitsMeasure}
use Rattle.mus_slots.proofs.Words.{voice_words}
use Rattle.mus_marks.specs.Silent.{are_silent, is_silent, is_silent_staff}
use Rattle.mus_marks.specs.Staff.{verses_on}
use Rattle.mus_marks.specs.System.{is_drawn_lower}

-- ---- f of each element and the list's entry for it
module _ {A B : Type 0} (f : B → A → A) where
  -- what f keeps of an element stays unchanged
  over_map : {C : Type 0} (h : A → C)
      → ((t : B) (x : A) → h (f t x) ≡ h x) → (ts : List B) (xs : List A) → map h (over f ts xs) ≡ map h xs
  over_map h same [] xs = refl
  over_map h same (t ∷ ts) [] = refl
  over_map h same (t ∷ ts) (x ∷ xs) =
      ap (λ z. z ∷ map h (over f ts xs)) (same t x) ∙ ap (λ z. h x ∷ z) (over_map h same ts xs)

  pub over_all : (P : A → Type 0)
      → ((t : B) (x : A) → P x → P (f t x)) → (ts : List B) (xs : List A) → AllByRecursion P xs
      → AllByRecursion P (over f ts xs)
  over_all P keeps [] xs all = all
  over_all P keeps (t ∷ ts) [] all = tt
  over_all P keeps (t ∷ ts) (x ∷ xs) all = (keeps t x all.0, over_all P keeps ts xs all.1)

  over_none : (ts : List B) → over f ts [] ≡ []
  over_none [] = refl
  over_none (t ∷ ts) = refl

  pub over_drop : (n : ℕ) (ts : List B) (xs : List A) → drop n (over f ts xs) ≡ over f (drop n ts) (drop n xs)
  over_drop zero ts xs = refl
  over_drop (suc n) [] xs = refl
  over_drop (suc n) (t ∷ ts) [] = sym (over_none (drop n ts))
  over_drop (suc n) (t ∷ ts) (x ∷ xs) = over_drop n ts xs

-- ---- events and measures: all ends at 0
abbrev pub flat_event : DrawnEvent → DrawnEvent
flat_event e = event_ended (pos 0) e

abbrev pub flat_measure : DrawnMeasure → DrawnMeasure
flat_measure d = record d { events = map flat_event d.events }

flat_ended : (ends : List ℤ) (d : DrawnMeasure) → flat_measure (measure_ended ends d) ≡ flat_measure d
flat_ended ends d = ap (λ es. record d { events = es }) (over_map event_ended flat_event (λ to e. refl) ends d.events)

pub flat_voice : (a : ℕ) (ends : List (List ℤ)) (v : DrawnVoice)
    → map flat_measure (voice_ended a ends v).measures ≡ map flat_measure v.measures
flat_voice a ends v =
    map-append flat_measure (take a v.measures) (over measure_ended ends (drop a v.measures))
    ∙ ap (λ z. map flat_measure (take a v.measures) ++ z)
    (over_map measure_ended flat_measure flat_ended ends (drop a v.measures))
    ∙ sym (map-append flat_measure (take a v.measures) (drop a v.measures))
    ∙ ap (map flat_measure) (take-append-drop a v.measures)

-- what does not depend on ends is the same in a system
pub same_range : {X : Type 0} (g : List DrawnMeasure → X)
    → ((ds : List DrawnMeasure) → g (map flat_measure ds) ≡ g ds)
    → (a b : ℕ) (ends : List (List ℤ)) (v : DrawnVoice)
    → g (slice_range (voice_ended a ends v).measures a b) ≡ g (slice_range v.measures a b)
same_range g flat a b ends v =
    let slice = λ (ds : List DrawnMeasure).
    ap (take (b - a)) (drop-map flat_measure a ds) ∙ take-map flat_measure (b - a) (drop a ds) in
    let same = λ (ds : List DrawnMeasure). ap g (slice ds) ∙ flat (slice_range ds a b) in
    sym (same (voice_ended a ends v).measures)
    ∙ ap (λ ds. g (slice_range ds a b)) (flat_voice a ends v)
    ∙ same v.measures

-- ---- one voice
pub own_ended : (a : ℕ) (v : DrawnVoice) → voice_ended a [] v ≡ v
own_ended a v = ap (λ ms. record v { measures = ms }) (take-append-drop a v.measures)

pub ended_length : (a : ℕ) (ends : List (List ℤ)) (v : DrawnVoice)
    → length (voice_ended a ends v).measures ≡ length v.measures
ended_length a ends v =
    sym (length-map (voice_ended a ends v).measures flat_measure)
    ∙ ap length (flat_voice a ends v)
    ∙ length-map v.measures flat_measure

pub ended_fits : (verses a : ℕ) (ends : List (List ℤ)) (v : DrawnVoice)
    → Fits verses v.measures → Fits verses (voice_ended a ends v).measures
ended_fits verses a ends v fits =
    all_append (FitsMeasure verses) (take a v.measures) _ (all_take (FitsMeasure verses) a v.measures fits)
    (over_all measure_ended (FitsMeasure verses)
    (λ own d fit. (fit.0, over_all event_ended (FitsEvent verses) (λ to e h. h) own d.events fit.1)) ends
    (drop a v.measures) (all_drop (FitsMeasure verses) a v.measures fits))

pub after_ended : (p : StemPlan) (to : ℤ) (ends : List ℤ) (es : List DrawnEvent)
    → levels_after p es ≡ levels_after (with_end p to) (over event_ended ends es)
after_ended p to [] [] = refl
after_ended p to [] (e ∷ es) = refl
after_ended p to (t ∷ ts) [] = refl
after_ended p to (t ∷ ts) (e ∷ es) = refl

pub head_ended : (a : ℕ) (ends : List (List ℤ)) (ds : List DrawnMeasure)
    → head_slots a ds ≡ head_slots a (over measure_ended ends ds)
head_ended a [] ds = refl
head_ended a (t ∷ ts) [] = refl
head_ended a (t ∷ ts) (d ∷ ds) = refl

-- ---- words, and events without words
words_flat : (first m : ℕ) (ds : List DrawnMeasure)
    → words_slots first m (map flat_measure ds) ≡ words_slots first m ds
words_flat first m [] = refl
words_flat first m (d ∷ ds) =
    ap (λ t. t ++ words_slots first (m + 1) (map flat_measure ds)) (by d.events)
    ∙ ap (λ t. map (words_slot first m) d.events ++ t) (words_flat first (m + 1) ds)
  where
    by : (es : List DrawnEvent) → map (words_slot first m) (map flat_event es) ≡ map (words_slot first m) es
    by [] = refl
    by (e ∷ es) = ap (λ t. words_slot first m e ∷ t) (by es)

module _ (keys : List ColumnKey) (lengths : List ℕ) (a b : ℕ) where
  words_ended : (first : ℕ) (places : List TextPlace) (ends : List (List ℤ)) (v : DrawnVoice)
      → words_from keys places (voice_slots first lengths a b (voice_ended a ends v))
      ≡ words_from keys places (voice_slots first lengths a b v)
  words_ended first places ends v =
      (voice_words keys first lengths a b (voice_ended a ends v)).words places
      ∙ ap (words_from keys places) (same_range (words_slots first a) (words_flat first a) a b ends v)
      ∙ sym ((voice_words keys first lengths a b v).words places)

  passed_ended : (first : ℕ) (places : List TextPlace) (ends : List (List ℤ)) (v : DrawnVoice)
      → all_passed keys places (voice_slots first lengths a b (voice_ended a ends v))
      ≡ all_passed keys places (voice_slots first lengths a b v)
  passed_ended first places ends v =
      (voice_words keys first lengths a b (voice_ended a ends v)).after places
      ∙ ap (all_passed keys places) (same_range (words_slots first a) (words_flat first a) a b ends v)
      ∙ sym ((voice_words keys first lengths a b v).after places)

  pub with_words_ended : (first : ℕ) (places : List TextPlace) (parts : List (List Laid)) (ends : List (List (List ℤ)))
      (vs : List DrawnVoice)
      → with_words keys places parts (slots_of_voices first lengths a b vs)
      ≡ with_words keys places parts (slots_of_voices first lengths a b (over (voice_ended a) ends vs))
  with_words_ended first places parts [] vs = refl
  with_words_ended first places parts (t ∷ ts) [] = refl
  with_words_ended first places [] (t ∷ ts) (v ∷ vs) = refl
  with_words_ended first places (part ∷ parts) (t ∷ ts) (v ∷ vs) =
      let more = λ (next : List TextPlace) (ws : List DrawnVoice).
      with_words keys next parts (slots_of_voices (first + v.verses) lengths a b ws) in
      let own = all_passed keys places (voice_slots first lengths a b v) in
      let there = over (voice_ended a) ts vs in
      ap (λ ws. part ∷ words_from keys places (voice_slots first lengths a b v) ∷ ws)
      (with_words_ended (first + v.verses) own parts ts vs)
      ∙ ap (λ ws. part ∷ ws ∷ more own there) (sym (words_ended first places t v))
      ∙ ap (λ next.
      part ∷ words_from keys places (voice_slots first lengths a b (voice_ended a t v)) ∷ more next there)
      (sym (passed_ended first places t v))

silent_flat : (ds : List DrawnMeasure) → are_silent (map flat_measure ds) ≡ are_silent ds
silent_flat [] = refl
silent_flat (d ∷ ds) =
    ap (λ c. c && are_silent (map flat_measure ds)) (by d.events)
    ∙ ap (λ c. list_all (λ e. is_silent e.flat) d.events && c) (silent_flat ds)
  where
    by : (es : List DrawnEvent)
        → list_all (λ e. is_silent e.flat) (map flat_event es) ≡ list_all (λ e. is_silent e.flat) es
    by [] = refl
    by (e ∷ es) = ap (λ c. is_silent e.flat && c) (by es)

-- ---- all voices of a staff
module _ (a : ℕ) where
  pub silent_ended : (b : ℕ) (ends : List (List (List ℤ))) (vs : List DrawnVoice)
      → is_silent_staff a b (over (voice_ended a) ends vs) ≡ is_silent_staff a b vs
  silent_ended b [] vs = refl
  silent_ended b (t ∷ ts) [] = refl
  silent_ended b (t ∷ ts) (v ∷ vs) =
      ap (λ c. c && is_silent_staff a b (over (voice_ended a) ts vs)) (same_range are_silent silent_flat a b t v)
      ∙ ap (λ c. are_silent (slice_range v.measures a b) && c) (silent_ended b ts vs)

  pub verses_ended : (ends : List (List (List ℤ))) (vs : List DrawnVoice)
      → verses_on (over (voice_ended a) ends vs) ≡ verses_on vs
  verses_ended ends vs = ap sum (over_map (voice_ended a) (λ v. v.verses) (λ t v. refl) ends vs)

  pub prefix_ended : (ends : List (List (List ℤ))) (vs : List DrawnVoice)
      → prefix_len is_drawn_lower (over (voice_ended a) ends vs) ≡ prefix_len is_drawn_lower vs
  prefix_ended [] vs = refl
  prefix_ended (t ∷ ts) [] = refl
  prefix_ended (t ∷ ts) (v ∷ vs) = ap (λ n. cond (is_drawn_lower v) (1 + n) 0) (prefix_ended ts vs)
