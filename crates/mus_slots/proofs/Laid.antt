-- The marks of slots in a system, as they are drawn: one part of a voice after another. Where there are no words, their
-- place makes no difference.
use Rattle.std.proofs.Common.{◌≡◌, ◌∙◌, ℕ, Bool, true, false, ◌||◌, List, [], ◌∷◌, ◌++◌, map, Option, Some}
use Rattle.std.proofs.Common.{None, refl, sym, ap}
use Rattle.std.proofs.lemmas.Grind.{flat_map-append}
use Rattle.std.proofs.lemmas.List.{append-nil}
use Rattle.mus_units.specs.declared.note.Bar.{Bar}
use Rattle.mus_score.specs.declared.score.Seat.{Seat}
use Rattle.mus_score.specs.Seats.{is_lower}
use Rattle.mus_onsets.specs.declared.keys.Class.{Class}
use Rattle.mus_onsets.specs.declared.keys.ColumnKey.{ColumnKey}
use Rattle.mus_onsets.specs.Keys.{change_has_mark, key_at}
use Rattle.mus_onsets.specs.Order.{key_rank}
use Rattle.mus_laid.specs.declared.drawn.LaneInk.{LaneInk}
use Rattle.mus_laid.specs.Ranked.{drawn_at}
use Rattle.mus_ink.specs.Changes.{change_marks}
use Rattle.mus_words.specs.declared.texts.TextPlace.{TextPlace}
use Rattle.mus_drawn.specs.declared.drawn.DrawnEvent.{DrawnEvent}
use Rattle.mus_drawn.specs.declared.drawn.DrawnMeasure.{DrawnMeasure}
use Rattle.mus_time.specs.Columns.{has_old, note_key}
use Rattle.mus_slots.specs.declared.slots.Slot.{Slot}
use Rattle.mus_slots.specs.declared.slots.Written.{Written}
use Rattle.mus_slots.specs.Staff.{ink_with, slot_laid, slots_laid}
use Rattle.mus_slots.specs.Voice.{change_slots, columns_slots, event_marks, event_slots}
use Rattle.mus_slots.specs.Voice.{first_slots, group_slots, head_slots, measures_slots, note_slot, slot_if, written_of}
use Rattle.mus_slots.proofs.Filled.{no_marks}
use Rattle.mus_slots.proofs.Words.{AreBlank, IsBlank, graces_blank, head_blank, one_blank}

without_words : (drawn : List LaneInk) (w : Written) → IsBlank w → (o : Option TextPlace) → drawn ≡ ink_with o drawn w
without_words drawn w blank None = refl
without_words drawn w blank (Some place) = sym (ap (λ t. drawn ++ t) (blank.marks place) ∙ append-nil drawn)

-- a change without marks draws nothing
pub change_laid : (keys : List ColumnKey) (m : ℕ) (e : DrawnEvent)
    → map (drawn_at (key_rank keys (key_at m e.tick Class.Change 0))) (change_marks e.clef e.old e.flat.event.changes)
    ≡ slots_laid keys None (change_slots m false e)
change_laid keys m e = by (change_has_mark (has_old e) e.flat.event.changes) refl
  where
    marks : List LaneInk
    marks = change_marks e.clef e.old e.flat.event.changes

    key : ColumnKey
    key = key_at m e.tick Class.Change 0

    by : (c : Bool) → change_has_mark (has_old e) e.flat.event.changes ≡ c
        → map (drawn_at (key_rank keys key)) marks ≡ slots_laid keys None (slot_if c key marks)
    by true marked = sym (append-nil (map (drawn_at (key_rank keys key)) marks))
    by false marked =
        ap (map (drawn_at (key_rank keys key))) (no_marks e.clef e.old e.flat.event.changes marked)

module _ (keys : List ColumnKey) (place : Option TextPlace) where
  pub blank_laid : (ss : List Slot) → AreBlank ss → slots_laid keys None ss ≡ slots_laid keys place ss
  blank_laid [] blank = refl
  blank_laid (s ∷ ss) blank =
      ap (λ t. map (drawn_at (key_rank keys s.key)) t ++ slots_laid keys None ss)
      (without_words s.drawn s.written blank.0 place)
      ∙ ap (λ t. slot_laid keys place s ++ t) (blank_laid ss blank.1)

  pub event_laid : (first m : ℕ) (in_head : Bool) (before after : ℕ) (e : DrawnEvent)
      → slots_laid keys None (change_slots m (in_head || is_lower e.seat) e)
      ++ slots_laid keys None (group_slots m e)
      ++ map (drawn_at (key_rank keys (note_key m e)))
      (ink_with place (event_marks before after e) (written_of first e.flat))
      ≡ slots_laid keys place (event_slots first m in_head before after e)
  event_laid first m in_head before after e =
      let change = change_slots m (in_head || is_lower e.seat) e in
      let graces = group_slots m e in
      let note = note_slot first m before after e in
      ap (λ t. t ++ slots_laid keys None graces ++ slot_laid keys place note)
      (blank_laid change (one_blank _ _ _))
      ∙ ap (λ t. slots_laid keys place change ++ t ++ slot_laid keys place note)
      (blank_laid graces (graces_blank m e.tick e.clef _ 0 e.flat.graces))
      ∙ ap (λ t. slots_laid keys place change ++ slots_laid keys place graces ++ t)
      (sym (append-nil (slot_laid keys place note)))
      ∙ ap (λ t. t ++ slots_laid keys place (note ∷ []))
      (sym (flat_map-append (slot_laid keys place) change graces))
      ∙ sym (flat_map-append (slot_laid keys place) (change ++ graces) (note ∷ []))

  -- a head and the bar before the first measure, and then the measures
  pub columns_laid : (first : ℕ) (lengths : List ℕ) (a : ℕ) (seat : Seat) (bar : Bar) (ds : List DrawnMeasure)
      → slots_laid keys None (head_slots a ds)
      ++ slots_laid keys None (first_slots a seat bar)
      ++ slots_laid keys place (measures_slots first lengths a true ds)
      ≡ slots_laid keys place (columns_slots first lengths a seat bar ds)
  columns_laid first lengths a seat bar ds =
      let head = head_slots a ds in
      let start = first_slots a seat bar in
      let own = measures_slots first lengths a true ds in
      ap (λ t. t ++ slots_laid keys None start ++ slots_laid keys place own) (blank_laid head (head_blank a ds))
      ∙ ap (λ t. slots_laid keys place head ++ t ++ slots_laid keys place own) (blank_laid start (one_blank _ _ _))
      ∙ ap (λ t. t ++ slots_laid keys place own) (sym (flat_map-append (slot_laid keys place) head start))
      ∙ sym (flat_map-append (slot_laid keys place) (head ++ start) own)
