-- One walk over the slots of a voice: what holds of each kind of slot holds of all slots.
use Rattle.std.proofs.Common.{◌≡◌, ℕ, ◌+◌, ◌-◌, ◌==◌, Bool, true, false, not, ◌&&◌, ◌||◌, List, [], ◌∷◌}
use Rattle.std.proofs.Common.{◌++◌, drop, refl}
use Rattle.std.specs.List.{AllByRecursion, slice_range}
use Rattle.mus_units.specs.declared.note.Bar.{Bar}
use Rattle.mus_units.specs.declared.pitch.Clef.{Clef}
use Rattle.mus_score.specs.declared.score.Event.{Event}
use Rattle.mus_score.specs.declared.score.Seat.{Seat}
use Rattle.mus_score.specs.Seats.{is_lower}
use Rattle.mus_onsets.specs.declared.keys.Class.{Class}
use Rattle.mus_onsets.specs.declared.keys.ColumnKey.{ColumnKey}
use Rattle.mus_onsets.specs.Keys.{bar_key, change_has_mark, head_key, key_at}
use Rattle.mus_stems.proofs.RunLaws.{all_append, all_drop, all_take}
use Rattle.mus_laid.specs.declared.drawn.LaneInk.{LaneInk}
use Rattle.mus_ink.specs.declared.graces.Group.{Group}
use Rattle.mus_ink.specs.Bars.{bar_marks}
use Rattle.mus_ink.specs.Changes.{change_marks, head_marks}
use Rattle.mus_ink.specs.Graces.{grace_marks, group_of}
use Rattle.mus_drawn.specs.declared.drawn.DrawnEvent.{DrawnEvent}
use Rattle.mus_drawn.specs.declared.drawn.DrawnMeasure.{DrawnMeasure}
use Rattle.mus_drawn.specs.declared.drawn.DrawnVoice.{DrawnVoice}
use Rattle.mus_time.specs.Columns.{has_old}
use Rattle.mus_slots.specs.declared.slots.Slot.{Slot}
use Rattle.mus_slots.specs.Voice.{change_slots, columns_slots, event_slots, events_slots, first_slots, grace_slots}
use Rattle.mus_slots.specs.Voice.{head_slots, levels_after, levels_in, measures_slots, meter_shown, note_slot}
use Rattle.mus_slots.specs.Voice.{range_slots, slot, slot_if, voice_slots}

-- what is asked of each kind of slot; E is what is known of events, D what is known of measures
pub record OfSlots (first : ℕ) (lengths : List ℕ) (P : Slot → Type 0) (E : DrawnEvent → Type 0)
    (D : DrawnMeasure → Type 0) : Type 0 where
  pub of_head : (a : ℕ) (d : DrawnMeasure)
      → D d → P (slot (head_key a) (head_marks d.opening.clef d.opening.key.signs (meter_shown a d.opening)))
  pub of_first : (bar : Bar) → P (slot (key_at 0 0 Class.First 0) (bar_marks bar))
  pub of_change : (m : ℕ) (e : DrawnEvent)
      → E e → change_has_mark (has_old e) e.flat.event.changes ≡ true
      → P (slot (key_at m e.tick Class.Change 0) (change_marks e.clef e.old e.flat.event.changes))
  pub of_grace : (m tick : ℕ) (clef : Clef) (group : Group) (i : ℕ) (g : Event)
      → P (slot (key_at m tick Class.Grace i) (grace_marks clef group (i == 0) g))
  pub of_note : (m before after : ℕ) (e : DrawnEvent) → E e → P (note_slot first m before after e)
  pub of_bar : (m : ℕ) (d : DrawnMeasure) → D d → P (slot (bar_key lengths m) (bar_marks d.bar))

module _ (first : ℕ) (lengths : List ℕ) (P : Slot → Type 0) (E : DrawnEvent → Type 0) (D : DrawnMeasure → Type 0)
    (w : OfSlots first lengths P E D) where
  one : (b : Bool) (key : ColumnKey) (drawn : List LaneInk)
      → (b ≡ true → P (slot key drawn)) → AllByRecursion P (slot_if b key drawn)
  one true key drawn h = (h refl, tt)
  one false key drawn h = tt

  marked : (b c : Bool) → b && c ≡ true → c ≡ true
  marked true c h = h
  marked false c h = cc

  graces_all : (m tick : ℕ) (clef : Clef) (group : Group) (i : ℕ) (gs : List Event)
      → AllByRecursion P (grace_slots m tick clef group i gs)
  graces_all m tick clef group i [] = tt
  graces_all m tick clef group i (g ∷ gs) =
      (w.of_grace m tick clef group i g, graces_all m tick clef group (i + 1) gs)

  event_all : (m : ℕ) (in_head : Bool) (before after : ℕ) (e : DrawnEvent)
      → E e → AllByRecursion P (event_slots first m in_head before after e)
  event_all m in_head before after e known =
      let change = change_slots m (in_head || is_lower e.seat) e in
      let graces = grace_slots m e.tick e.clef (group_of e.clef e.flat.graces e.flat.slash) 0 e.flat.graces in
      all_append P (change ++ graces) (note_slot first m before after e ∷ [])
      (all_append P change graces
      (one _ _ _ (λ h. w.of_change m e known (marked (not (in_head || is_lower e.seat)) _ h)))
      (graces_all m e.tick e.clef _ 0 e.flat.graces))
      (w.of_note m before after e known, tt)

  events_all : (m : ℕ) (in_head : Bool) (group flags : ℕ) (es : List DrawnEvent)
      → AllByRecursion E es → AllByRecursion P (events_slots first m in_head group flags es)
  events_all m in_head group flags [] known = tt
  events_all m in_head group flags (e ∷ es) known =
      let own = event_slots first m in_head (levels_in e.plan group flags) (levels_after e.plan es) e in
      all_append P own (events_slots first m false e.plan.group e.plan.flags es)
      (event_all m in_head (levels_in e.plan group flags) (levels_after e.plan es) e known.0)
      (events_all m false e.plan.group e.plan.flags es known.1)

  pub measures_all : (m : ℕ) (in_head : Bool) (ds : List DrawnMeasure)
      → AllByRecursion (λ d. D d × AllByRecursion E d.events) ds
      → AllByRecursion P (measures_slots first lengths m in_head ds)
  measures_all m in_head [] known = tt
  measures_all m in_head (d ∷ ds) known =
      let own = events_slots first m in_head 0 0 d.events in
      let bar = slot_if (not (is_lower d.seat)) (bar_key lengths m) (bar_marks d.bar) in
      all_append P (own ++ bar) (measures_slots first lengths (m + 1) false ds)
      (all_append P own bar (events_all m in_head 0 0 d.events known.0.1) (one _ _ _ (λ h. w.of_bar m d known.0.0)))
      (measures_all (m + 1) false ds known.1)

  head_all : (a : ℕ) (ds : List DrawnMeasure)
      → AllByRecursion (λ d. D d × AllByRecursion E d.events) ds → AllByRecursion P (head_slots a ds)
  head_all a [] known = tt
  head_all a (d ∷ ds) known = one _ _ _ (λ h. w.of_head a d known.0.0)

  pub columns_all : (a : ℕ) (seat : Seat) (bar : Bar) (ds : List DrawnMeasure)
      → AllByRecursion (λ d. D d × AllByRecursion E d.events) ds
      → AllByRecursion P (columns_slots first lengths a seat bar ds)
  columns_all a seat bar ds known =
      all_append P (head_slots a ds ++ first_slots a seat bar) (measures_slots first lengths a true ds)
      (all_append P (head_slots a ds) (first_slots a seat bar) (head_all a ds known)
      (one _ _ _ (λ h. w.of_first bar)))
      (measures_all a true ds known)

  sliced : (a b : ℕ) (ds : List DrawnMeasure)
      → AllByRecursion (λ d. D d × AllByRecursion E d.events) ds
      → AllByRecursion (λ d. D d × AllByRecursion E d.events) (slice_range ds a b)
  sliced a b ds known =
      all_take (λ d. D d × AllByRecursion E d.events) (b - a) (drop a ds)
      (all_drop (λ d. D d × AllByRecursion E d.events) a ds known)

  pub voice_all : (a b : ℕ) (v : DrawnVoice)
      → AllByRecursion (λ d. D d × AllByRecursion E d.events) v.measures
      → AllByRecursion P (voice_slots first lengths a b v)
  voice_all a b v known =
      columns_all a v.seat v.first (slice_range v.measures a b)
      (sliced a b v.measures known)

  pub range_all : (begins : Bool) (a b : ℕ) (v : DrawnVoice)
      → AllByRecursion (λ d. D d × AllByRecursion E d.events) v.measures
      → AllByRecursion P (range_slots begins lengths a b first v)
  range_all true a b v known = voice_all a b v known
  range_all false a b v known = measures_all a false (slice_range v.measures a b) (sliced a b v.measures known)
