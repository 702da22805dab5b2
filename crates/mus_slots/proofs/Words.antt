-- The words of slots one after another; slots without words are skipped, so the words of a voice are those of its
-- events.
use Rattle.std.proofs.Common.{◌≡◌, ◌∙◌, ℕ, ◌+◌, Bool, true, false, not, ◌||◌, List, [], ◌∷◌, ◌++◌, length}
use Rattle.std.proofs.Common.{map, set, Option, Some, None, append_assoc, refl, sym, ap, subst, arith}
use Rattle.std.proofs.lemmas.List.{append-nil, set-get_or}
use Rattle.std.proofs.lemmas.Option.{get_or_from_slice_get}
use Rattle.std.specs.List.{AllByRecursion, slice_get, slice_range}
use Rattle.mus_units.specs.declared.note.Bar.{Bar}
use Rattle.mus_units.specs.declared.pitch.Clef.{Clef}
use Rattle.mus_score.specs.declared.score.Event.{Event}
use Rattle.mus_score.specs.declared.score.Seat.{Seat}
use Rattle.mus_score.specs.Seats.{is_lower}
use Rattle.mus_onsets.specs.declared.keys.ColumnKey.{ColumnKey}
use Rattle.mus_onsets.specs.Keys.{bar_key}
use Rattle.mus_onsets.specs.Order.{key_rank}
use Rattle.mus_stems.proofs.RunLaws.{all_append}
use Rattle.mus_laid.specs.declared.drawn.LaneInk.{LaneInk}
use Rattle.mus_laid.specs.Ranked.{drawn_at}
use Rattle.mus_ink.specs.declared.graces.Group.{Group}
use Rattle.mus_ink.specs.Bars.{bar_marks}
use Rattle.mus_ink.specs.Graces.{group_of}
use Rattle.mus_words.specs.declared.texts.TextPlace.{TextPlace}
use Rattle.mus_drawn.specs.declared.drawn.DrawnEvent.{DrawnEvent}
use Rattle.mus_drawn.specs.declared.drawn.DrawnMeasure.{DrawnMeasure}
use Rattle.mus_drawn.specs.declared.drawn.DrawnVoice.{DrawnVoice}
use Rattle.mus_slots.specs.declared.slots.Slot.{Slot}
use Rattle.mus_slots.specs.declared.slots.Written.{Written}
use Rattle.mus_slots.specs.Staff.{place_after, written_marks}
use Rattle.mus_slots.specs.Voice.{change_slots, columns_slots, event_slots, events_slots, first_slots, grace_slots}
use Rattle.mus_slots.specs.Voice.{head_slots, levels_after, levels_in, measures_slots, nothing, slot_if, voice_slots}
use Rattle.mus_slots.specs.Words.{all_passed, passed, passed_in, words_from, words_in, words_slot, words_slots}

-- words that print nothing at any place
pub record IsBlank (w : Written) : Type 0 where
  pub marks : (place : TextPlace) → written_marks place w ≡ []
  pub above : length w.above ≡ 0
  pub below : length w.below ≡ 0

abbrev pub AreBlank : List Slot → Type 0
AreBlank ss = AllByRecursion (λ s. IsBlank s.written) ss

pub nothing_blank : IsBlank nothing
nothing_blank = record { marks = λ place. refl; above = refl; below = refl }

-- slots that have no words
pub one_blank : (b : Bool) (key : ColumnKey) (drawn : List LaneInk) → AreBlank (slot_if b key drawn)
one_blank true key drawn = (nothing_blank, tt)
one_blank false key drawn = tt

pub graces_blank : (m tick : ℕ) (clef : Clef) (group : Group) (i : ℕ) (gs : List Event)
    → AreBlank (grace_slots m tick clef group i gs)
graces_blank m tick clef group i [] = tt
graces_blank m tick clef group i (g ∷ gs) = (nothing_blank, graces_blank m tick clef group (i + 1) gs)

pub head_blank : (a : ℕ) (ds : List DrawnMeasure) → AreBlank (head_slots a ds)
head_blank a [] = tt
head_blank a (d ∷ ds) = one_blank _ _ _

module _ (w : Written) (blank : IsBlank w) where
  pub blank_words : (o : Option TextPlace) → words_in o w ≡ []
  blank_words None = refl
  blank_words (Some place) = blank.marks place

  pub same_place : (place : TextPlace) → place_after place w ≡ place
  same_place place =
      let above : place.above + length w.above ≡ place.above = omega (arith, blank.above) in
      let below : place.below + length w.below ≡ place.below = omega (arith, blank.below) in
      ap (λ n. record place { above = n; below = place.below + length w.below }) above
      ∙ ap (λ n. record place { above = place.above; below = n }) below

  pub blank_passed : (places : List TextPlace) (r : ℕ) → passed places r w ≡ places
  blank_passed places r = by (slice_get places r) refl
    where
      by : (o : Option TextPlace) → slice_get places r ≡ o → passed_in places r w o ≡ places
      by None e = refl
      by (Some place) e =
          ap (set places r) (same_place place ∙ sym (get_or_from_slice_get places r place place e))
          ∙ set-get_or places r place

module _ (keys : List ColumnKey) where
  pub passed_join : (places : List TextPlace) (xs ys : List Slot)
      → all_passed keys places (xs ++ ys) ≡ all_passed keys (all_passed keys places xs) ys
  passed_join places [] ys = refl
  passed_join places (x ∷ xs) ys = passed_join (passed places (key_rank keys x.key) x.written) xs ys

  pub words_join : (places : List TextPlace) (xs ys : List Slot)
      → words_from keys places (xs ++ ys)
      ≡ words_from keys places xs ++ words_from keys (all_passed keys places xs) ys
  words_join places [] ys = refl
  words_join places (x ∷ xs) ys =
      let r = key_rank keys x.key in
      let next = passed places r x.written in
      let own = map (drawn_at r) (words_in (slice_get places r) x.written) in
      ap (λ t. own ++ t) (words_join next xs ys)
      ∙ sym (append_assoc own (words_from keys next xs) (words_from keys (all_passed keys next xs) ys))

  -- slots with the same words in the same columns, wherever these go
  pub record SameWords (xs ys : List Slot) : Type 0 where
    pub words : (places : List TextPlace) → words_from keys places xs ≡ words_from keys places ys
    pub after : (places : List TextPlace) → all_passed keys places xs ≡ all_passed keys places ys

  same_join : (xs us ys vs : List Slot) → SameWords xs us → SameWords ys vs → SameWords (xs ++ ys) (us ++ vs)
  same_join xs us ys vs h g = record {
    words = λ places.
        words_join places xs ys
        ∙ ap (λ t. t ++ words_from keys (all_passed keys places xs) ys) (h.words places)
        ∙ ap (λ p. words_from keys places us ++ words_from keys p ys) (h.after places)
        ∙ ap (λ t. words_from keys places us ++ t) (g.words (all_passed keys places us))
        ∙ sym (words_join places us vs);
    after = λ places.
        passed_join places xs ys
        ∙ ap (λ p. all_passed keys p ys) (h.after places)
        ∙ g.after (all_passed keys places us)
        ∙ sym (passed_join places us vs);
  }

  pub blank_same : (xs : List Slot) → AreBlank xs → SameWords xs []
  blank_same [] blank = record { words = λ places. refl; after = λ places. refl }
  blank_same (x ∷ xs) blank =
      let more = blank_same xs blank.1 in
      let r = key_rank keys x.key in
      record {
        words = λ places.
            ap (λ t. map (drawn_at r) t ++ words_from keys (passed places r x.written) xs)
            (blank_words x.written blank.0 (slice_get places r))
            ∙ more.words (passed places r x.written);
        after = λ places. more.after (passed places r x.written) ∙ blank_passed x.written blank.0 places r;
      }

  -- ---- those of a voice
  module _ (first : ℕ) where
    event_words : (m : ℕ) (in_head : Bool) (before after : ℕ) (e : DrawnEvent)
        → SameWords (event_slots first m in_head before after e) (words_slot first m e ∷ [])
    event_words m in_head before after e =
        let change = change_slots m (in_head || is_lower e.seat) e in
        let graces = grace_slots m e.tick e.clef (group_of e.clef e.flat.graces e.flat.slash) 0 e.flat.graces in
        same_join (change ++ graces) [] _ (words_slot first m e ∷ [])
        (blank_same (change ++ graces)
        (all_append (λ s. IsBlank s.written) change graces (one_blank _ _ _)
        (graces_blank m e.tick e.clef _ 0 e.flat.graces)))
        (record { words = λ places. refl; after = λ places. refl })

    events_words : (m : ℕ) (in_head : Bool) (group flags : ℕ) (es : List DrawnEvent)
        → SameWords (events_slots first m in_head group flags es) (map (words_slot first m) es)
    events_words m in_head group flags [] = record { words = λ places. refl; after = λ places. refl }
    events_words m in_head group flags (e ∷ es) =
        same_join (event_slots first m in_head (levels_in e.plan group flags) (levels_after e.plan es) e)
        (words_slot first m e ∷ []) (events_slots first m false e.plan.group e.plan.flags es)
        (map (words_slot first m) es)
        (event_words m in_head (levels_in e.plan group flags) (levels_after e.plan es) e)
        (events_words m false e.plan.group e.plan.flags es)

    measures_words : (lengths : List ℕ) (m : ℕ) (in_head : Bool) (ds : List DrawnMeasure)
        → SameWords (measures_slots first lengths m in_head ds) (words_slots first m ds)
    measures_words lengths m in_head [] = record { words = λ places. refl; after = λ places. refl }
    measures_words lengths m in_head (d ∷ ds) =
        let own = events_slots first m in_head 0 0 d.events in
        let bar = slot_if (not (is_lower d.seat)) (bar_key lengths m) (bar_marks d.bar) in
        let words = map (words_slot first m) d.events in
        same_join (own ++ bar) words (measures_slots first lengths (m + 1) false ds) (words_slots first (m + 1) ds)
        (subst (SameWords (own ++ bar)) (append-nil words)
        (same_join own words bar [] (events_words m in_head 0 0 d.events) (blank_same bar (one_blank _ _ _))))
        (measures_words lengths (m + 1) false ds)

    columns_words : (lengths : List ℕ) (a : ℕ) (seat : Seat) (bar : Bar) (ds : List DrawnMeasure)
        → SameWords (columns_slots first lengths a seat bar ds) (words_slots first a ds)
    columns_words lengths a seat bar ds =
        let own = head_slots a ds ++ first_slots a seat bar in
        same_join own [] (measures_slots first lengths a true ds) (words_slots first a ds)
        (blank_same own
        (all_append (λ s. IsBlank s.written) (head_slots a ds) (first_slots a seat bar) (head_blank a ds)
        (one_blank _ _ _)))
        (measures_words lengths a true ds)

    pub voice_words : (lengths : List ℕ) (a b : ℕ) (v : DrawnVoice)
        → SameWords (voice_slots first lengths a b v) (words_slots first a (slice_range v.measures a b))
    voice_words lengths a b v = columns_words lengths a v.seat v.first (slice_range v.measures a b)
