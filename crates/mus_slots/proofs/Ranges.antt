-- The slots of a system that is one measure longer: those of the system, then those of the further measure. So are its
-- columns.
use Rattle.std.proofs.Common.{◌≡◌, ◌∙◌, ℕ, ◌+◌, ◌-◌, ◌<◌, ◌≤◌, ◌==◌, ◌&&◌, not, Bool, true, false, List, [], ◌∷◌, ◌++◌}
use Rattle.std.proofs.Common.{length, length-drop, take, drop, refl, sym, ap, arith}
use Rattle.std.proofs.Math.Seq.{take-add}
use Rattle.std.proofs.lemmas.Bool.Decides.{nat_tests}
use Rattle.std.proofs.lemmas.List.{append-nil, append_assoc, drop-drop, length-take-le, map-append}
use Rattle.std.specs.List.{AllByRecursion, slice_range}
use Rattle.std.specs.Prelude.{⊤}
use Rattle.mus_score.specs.Seats.{is_lower}
use Rattle.mus_onsets.specs.declared.keys.Class.{Class}
use Rattle.mus_onsets.specs.Keys.{bar_key, change_has_mark, has_features, head_key, key_at, keys_by}
use Rattle.mus_ink.specs.Bars.{bar_marks}
use Rattle.mus_ink.specs.Changes.{change_marks}
use Rattle.mus_ink.specs.Graces.{group_of}
use Rattle.mus_drawn.specs.declared.drawn.DrawnEvent.{DrawnEvent}
use Rattle.mus_drawn.specs.declared.drawn.DrawnMeasure.{DrawnMeasure}
use Rattle.mus_drawn.specs.declared.drawn.DrawnVoice.{DrawnVoice}
use Rattle.mus_time.specs.Columns.{has_old, staff_columns}
use Rattle.mus_slots.specs.Voice.{change_slots, events_slots, first_slots, grace_slots, head_slots, keys_of}
use Rattle.mus_slots.specs.Voice.{levels_after, levels_in, measures_slots, note_slot, range_slots, slot_if, voice_slots}
use Rattle.mus_slots.proofs.KeysOf.{IsSeated, head_keyed, range_keyed, seated_range}

-- ---- one more of some
slice_more : {X : Type 0} (a b : ℕ) (xs : List X)
    → a ≤ b → slice_range xs a (b + 1) ≡ slice_range xs a b ++ slice_range xs b (b + 1)
slice_more a b xs h =
    let e : b + 1 - a ≡ (b - a) + 1 = omega (arith, h) in
    let f : a + (b - a) ≡ b = omega (arith, h) in
    let g : 1 ≡ b + 1 - b = omega arith in
    ap (λ k. take k (drop a xs)) e
    ∙ take-add (b - a) 1 (drop a xs)
    ∙ ap (λ t. take (b - a) (drop a xs) ++ take 1 t) (drop-drop (b - a) a xs ∙ ap (λ k. drop k xs) f)
    ∙ ap (λ k. take (b - a) (drop a xs) ++ take k (drop b xs)) g

pub slice_long : {X : Type 0} (a b : ℕ) (xs : List X) → b ≤ length xs → length (slice_range xs a b) ≡ b - a
slice_long a b xs w = let left = length-drop a xs in length-take-le (b - a) (drop a xs) (omega (arith, w, left))

-- ---- slots of further measures
module _ (first : ℕ) (lengths : List ℕ) where
  slots_on : (m : ℕ) (in_head : Bool) (xs ys : List DrawnMeasure)
      → 1 ≤ length xs
      → measures_slots first lengths m in_head (xs ++ ys)
      ≡ measures_slots first lengths m in_head xs ++ measures_slots first lengths (m + length xs) false ys
  slots_on m in_head [] ys some = absurd (omega (arith, some))
  slots_on m in_head (x ∷ []) ys some =
      let own = events_slots first m in_head 0 0 x.events
      ++ slot_if (not (is_lower x.seat)) (bar_key lengths m) (bar_marks x.bar) in
      ap (λ t. t ++ measures_slots first lengths (m + 1) false ys) (sym (append-nil own))
  slots_on m in_head (x ∷ z ∷ xs) ys some =
      let own = events_slots first m in_head 0 0 x.events
      ++ slot_if (not (is_lower x.seat)) (bar_key lengths m) (bar_marks x.bar) in
      let e : m + 1 + length (z ∷ xs) ≡ m + length (x ∷ z ∷ xs) = omega arith in
      ap (λ t. own ++ t)
      (slots_on (m + 1) false (z ∷ xs) ys (omega arith)
      ∙ ap (λ k. measures_slots first lengths (m + 1) false (z ∷ xs) ++ measures_slots first lengths k false ys) e)
      ∙ sym (append_assoc own (measures_slots first lengths (m + 1) false (z ∷ xs)) _)

  head_same : (a : ℕ) (xs ys : List DrawnMeasure) → 1 ≤ length xs → head_slots a (xs ++ ys) ≡ head_slots a xs
  head_same a [] ys some = absurd (omega (arith, some))
  head_same a (x ∷ xs) ys some = refl

  pub voice_more : (a b : ℕ) (v : DrawnVoice)
      → a < b → b < length v.measures
      → voice_slots first lengths a (b + 1) v
      ≡ voice_slots first lengths a b v ++ range_slots false lengths b (b + 1) first v
  voice_more a b v order within =
      let xs = slice_range v.measures a b in
      let ys = slice_range v.measures b (b + 1) in
      let long = slice_long a b v.measures (omega (arith, within)) in
      let some : 1 ≤ length xs = omega (arith, long, order) in
      let e : a + length xs ≡ b = omega (arith, long, order) in
      let start = first_slots a v.seat v.first in
      ap (λ ds. head_slots a ds ++ start ++ measures_slots first lengths a true ds)
      (slice_more a b v.measures (omega (arith, order)))
      ∙ ap (λ t. t ++ start ++ measures_slots first lengths a true (xs ++ ys)) (head_same a xs ys some)
      ∙ ap (λ t. head_slots a xs ++ start ++ t)
      (slots_on a true xs ys some
      ∙ ap (λ k. measures_slots first lengths a true xs ++ measures_slots first lengths k false ys) e)
      ∙ sym (append_assoc (head_slots a xs ++ start) (measures_slots first lengths a true xs) _)

-- ---- a change without marks makes no difference to the first event after the head
abbrev pub StartsBare : List DrawnEvent → Type 0
StartsBare [] = ⊤
StartsBare (e ∷ es) = change_has_mark (has_old e) e.flat.event.changes ≡ false

abbrev pub BeginBare : List DrawnMeasure → Type 0
BeginBare [] = ⊤
BeginBare (d ∷ ds) = StartsBare d.events

module _ (first : ℕ) (lengths : List ℕ) where
  no_change : (m : ℕ) (drawn : Bool) (e : DrawnEvent)
      → change_has_mark (has_old e) e.flat.event.changes ≡ false → change_slots m true e ≡ change_slots m drawn e
  no_change m true e bare = refl
  no_change m false e bare =
      ap (λ c. slot_if c (key_at m e.tick Class.Change 0) (change_marks e.clef e.old e.flat.event.changes)) (sym bare)

  events_bare : (m : ℕ) (es : List DrawnEvent)
      → StartsBare es → events_slots first m true 0 0 es ≡ events_slots first m false 0 0 es
  events_bare m [] bare = refl
  events_bare m (e ∷ es) bare =
      ap (λ t.
      (t ++ grace_slots m e.tick e.clef (group_of e.clef e.flat.graces e.flat.slash) 0 e.flat.graces
      ++ note_slot first m (levels_in e.plan 0 0) (levels_after e.plan es) e ∷ [])
      ++ events_slots first m false e.plan.group e.plan.flags es)
      (no_change m (is_lower e.seat) e bare)

  measures_bare : (m : ℕ) (ds : List DrawnMeasure)
      → BeginBare ds → measures_slots first lengths m true ds ≡ measures_slots first lengths m false ds
  measures_bare m [] bare = refl
  measures_bare m (d ∷ ds) bare =
      ap (λ t.
      (t ++ slot_if (not (is_lower d.seat)) (bar_key lengths m) (bar_marks d.bar))
      ++ measures_slots first lengths (m + 1) false ds)
      (events_bare m d.events bare)

  no_first : (a : ℕ) (lower features : Bool) → 1 ≤ a → (not lower && (a == 0) && features) ≡ false
  no_first a lower features later = grind (arith, nat_tests, later)

  -- the head, then what a system has that began before
  pub voice_bare : (a b : ℕ) (v : DrawnVoice)
      → 1 ≤ a → BeginBare (slice_range v.measures a b)
      → voice_slots first lengths a b v
      ≡ head_slots a (slice_range v.measures a b) ++ range_slots false lengths a b first v
  voice_bare a b v later bare =
      let ds = slice_range v.measures a b in
      ap (λ c.
      head_slots a ds ++ slot_if c (key_at 0 0 Class.First 0) (bar_marks v.first)
      ++ measures_slots first lengths a true ds)
      (no_first a (is_lower v.seat) (has_features v.first) later)
      ∙ ap (λ t. t ++ measures_slots first lengths a true ds) (append-nil (head_slots a ds))
      ∙ ap (λ t. head_slots a ds ++ t) (measures_bare a ds bare)

-- ---- columns
module _ (lengths : List ℕ) (a b : ℕ) (v : DrawnVoice) (seated : AllByRecursion (IsSeated (is_lower v.seat)) v.measures)
  where
    pub columns_more : a < b → b < length v.measures
        → staff_columns true lengths a (b + 1) v
        ≡ staff_columns true lengths a b v ++ staff_columns false lengths b (b + 1) v
    columns_more order within =
        let long = slice_long a b v.measures (omega (arith, within)) in
        let longer = slice_long a (b + 1) v.measures (omega (arith, within)) in
        let more = slice_long b (b + 1) v.measures (omega (arith, within)) in
        sym (range_keyed true 0 lengths a (b + 1) v (omega (arith, longer, order)) seated)
        ∙ ap keys_of (voice_more 0 lengths a b v order within)
        ∙ map-append (λ s. s.key) (voice_slots 0 lengths a b v) (range_slots false lengths b (b + 1) 0 v)
        ∙ ap (λ t. t ++ keys_of (range_slots false lengths b (b + 1) 0 v))
        (range_keyed true 0 lengths a b v (omega (arith, long, order)) seated)
        ∙ ap (λ t. staff_columns true lengths a b v ++ t)
        (range_keyed false 0 lengths b (b + 1) v (omega (arith, more)) seated)

    pub columns_bare : 1 ≤ a → 1 ≤ length (slice_range v.measures a b) → BeginBare (slice_range v.measures a b)
        → staff_columns true lengths a b v
        ≡ keys_by (is_lower v.seat) (head_key a ∷ []) ++ staff_columns false lengths a b v
    columns_bare later some bare =
        let ds = slice_range v.measures a b in
        sym (range_keyed true 0 lengths a b v some seated)
        ∙ ap keys_of (voice_bare 0 lengths a b v later bare)
        ∙ map-append (λ s. s.key) (head_slots a ds) (range_slots false lengths a b 0 v)
        ∙ ap (λ t. t ++ keys_of (range_slots false lengths a b 0 v))
        (head_keyed 0 (is_lower v.seat) a ds some (seated_range (is_lower v.seat) a b v.measures seated))
        ∙ ap (λ t. keys_by (is_lower v.seat) (head_key a ∷ []) ++ t) (range_keyed false 0 lengths a b v some seated)
