-- The keys of a voice's slots are the columns that it has on its staff.
use Rattle.std.proofs.Common.{◌≡◌, ◌∙◌, ℕ, ◌+◌, ◌==◌, Bool, true, false, not, ◌&&◌, ◌||◌, if◌then◌else◌, List, [], ◌∷◌}
use Rattle.std.proofs.Common.{◌++◌, append_assoc, ◌-◌, drop, length, ◌≤◌, refl, sym, ap, arith}
use Rattle.std.proofs.lemmas.List.{map-append}
use Rattle.std.proofs.lemmas.List.Elements.{filter-append}
use Rattle.std.specs.List.{AllByRecursion, slice_range}
use Rattle.mus_units.specs.declared.note.Bar.{Bar}
use Rattle.mus_units.specs.declared.pitch.Clef.{Clef}
use Rattle.mus_score.specs.declared.score.Event.{Event}
use Rattle.mus_score.specs.declared.score.Seat.{Seat}
use Rattle.mus_score.specs.Seats.{is_lower}
use Rattle.mus_onsets.specs.declared.keys.Class.{Class}
use Rattle.mus_onsets.specs.declared.keys.ColumnKey.{ColumnKey}
use Rattle.mus_onsets.specs.Keys.{bar_key, change_has_mark, change_keys, first_keys, grace_keys, has_features, head_key}
use Rattle.mus_onsets.specs.Keys.{is_for_each, key_at, keys_by}
use Rattle.mus_stems.proofs.RunLaws.{all_drop, all_take}
use Rattle.mus_laid.specs.declared.drawn.LaneInk.{LaneInk}
use Rattle.mus_ink.specs.declared.graces.Group.{Group}
use Rattle.mus_ink.specs.Bars.{bar_marks}
use Rattle.mus_drawn.specs.declared.drawn.DrawnEvent.{DrawnEvent}
use Rattle.mus_drawn.specs.declared.drawn.DrawnMeasure.{DrawnMeasure}
use Rattle.mus_drawn.specs.declared.drawn.DrawnVoice.{DrawnVoice}
use Rattle.mus_time.specs.Columns.{events_columns, has_old, measures_columns, staff_columns}
use Rattle.mus_slots.specs.Voice.{change_slots, columns_slots, events_slots, first_slots, grace_slots, head_slots}
use Rattle.mus_slots.specs.Voice.{keys_of, measures_slots, range_slots, slot_if, voice_slots}

-- events and measures with the seat of their voice
abbrev pub AreSeated : Bool → List DrawnEvent → Type 0
AreSeated lower es = AllByRecursion (λ e. is_lower e.seat ≡ lower) es

abbrev pub IsSeated : Bool → DrawnMeasure → Type 0
IsSeated lower d = (is_lower d.seat ≡ lower) × AreSeated lower d.events

pub one_key : (b : Bool) (key : ColumnKey) (drawn : List LaneInk)
    → keys_of (slot_if b key drawn) ≡ (if b then key ∷ [] else [])
one_key true key drawn = refl
one_key false key drawn = refl

pub keys_join : (lower : Bool) (ks ls : List ColumnKey)
    → keys_by lower (ks ++ ls) ≡ keys_by lower ks ++ keys_by lower ls
keys_join true ks ls = filter-append is_for_each ks ls
keys_join false ks ls = refl

no_keys : (lower : Bool) → keys_by lower [] ≡ []
no_keys true = refl
no_keys false = refl

-- ---- an event
change_kept : (m tick : ℕ) (in_head lower marked : Bool)
    → (if not (in_head || lower) && marked then key_at m tick Class.Change 0 ∷ [] else [])
    ≡ keys_by lower (if not in_head && marked then key_at m tick Class.Change 0 ∷ [] else [])
change_kept m tick true true marked = refl
change_kept m tick true false marked = refl
change_kept m tick false true true = refl
change_kept m tick false true false = refl
change_kept m tick false false marked = refl

change_keyed : (m : ℕ) (in_head lower : Bool) (e : DrawnEvent)
    → is_lower e.seat ≡ lower
    → keys_of (change_slots m (in_head || is_lower e.seat) e)
    ≡ keys_by lower (change_keys m e.tick in_head (has_old e) e.flat.event.changes)
change_keyed m in_head lower e seated =
    one_key (not (in_head || is_lower e.seat) && change_has_mark (has_old e) e.flat.event.changes) _ _
    ∙ ap (λ c.
    if not (in_head || c) && change_has_mark (has_old e) e.flat.event.changes
    then key_at m e.tick Class.Change 0 ∷ []
    else [])
    seated
    ∙ change_kept m e.tick in_head lower (change_has_mark (has_old e) e.flat.event.changes)

graces_keyed : (m tick : ℕ) (clef : Clef) (group : Group) (i : ℕ) (gs : List Event)
    → keys_of (grace_slots m tick clef group i gs) ≡ grace_keys m tick i gs
graces_keyed m tick clef group i [] = refl
graces_keyed m tick clef group i (g ∷ gs) =
    ap (λ t. key_at m tick Class.Grace i ∷ t) (graces_keyed m tick clef group (i + 1) gs)

graces_kept : (lower : Bool) (m tick i : ℕ) (gs : List Event)
    → keys_by lower (grace_keys m tick i gs) ≡ grace_keys m tick i gs
graces_kept false m tick i gs = refl
graces_kept true m tick i [] = refl
graces_kept true m tick i (g ∷ gs) = ap (λ t. key_at m tick Class.Grace i ∷ t) (graces_kept true m tick (i + 1) gs)

note_kept : (lower : Bool) (m tick : ℕ)
    → keys_by lower (key_at m tick Class.Note 0 ∷ []) ≡ key_at m tick Class.Note 0 ∷ []
note_kept true m tick = refl
note_kept false m tick = refl

module _ (first : ℕ) (lower : Bool) where
  events_keyed : (m : ℕ) (in_head : Bool) (group flags : ℕ) (es : List DrawnEvent)
      → AreSeated lower es
      → keys_of (events_slots first m in_head group flags es) ≡ keys_by lower (events_columns m in_head es)
  events_keyed m in_head group flags [] seated = sym (no_keys lower)
  events_keyed m in_head group flags (e ∷ es) seated =
      simp (
        map-append,
        keys_join,
        append_assoc,
        change_keyed m in_head lower e seated.0,
        graces_keyed,
        graces_kept,
        note_kept,
        events_keyed m false e.plan.group e.plan.flags es seated.1,
      )

  bar_keyed : (lengths : List ℕ) (m : ℕ) (b : Bool) (drawn : List LaneInk)
      → b ≡ lower → keys_of (slot_if (not b) (bar_key lengths m) drawn) ≡ keys_by lower (bar_key lengths m ∷ [])
  bar_keyed lengths m b drawn same =
      one_key (not b) _ _ ∙ ap (λ c. if not c then bar_key lengths m ∷ [] else []) same ∙ by lower
    where
      by : (l : Bool) → (if not l then bar_key lengths m ∷ [] else []) ≡ keys_by l (bar_key lengths m ∷ [])
      by true = refl
      by false = refl

  measures_keyed : (lengths : List ℕ) (m : ℕ) (in_head : Bool) (ds : List DrawnMeasure)
      → AllByRecursion (IsSeated lower) ds
      → keys_of (measures_slots first lengths m in_head ds) ≡ keys_by lower (measures_columns lengths m in_head ds)
  measures_keyed lengths m in_head [] seated = sym (no_keys lower)
  measures_keyed lengths m in_head (d ∷ ds) seated =
      let own = events_slots first m in_head 0 0 d.events in
      let bar = slot_if (not (is_lower d.seat)) (bar_key lengths m) (bar_marks d.bar) in
      let more = measures_slots first lengths (m + 1) false ds in
      let keys = events_columns m in_head d.events in
      let rest = measures_columns lengths (m + 1) false ds in
      map-append (λ s. s.key) (own ++ bar) more
      ∙ ap (λ t. t ++ keys_of more)
      (map-append (λ s. s.key) own bar
      ∙ ap (λ t. t ++ keys_of bar) (events_keyed m in_head 0 0 d.events seated.0.1)
      ∙ ap (λ t. keys_by lower keys ++ t) (bar_keyed lengths m (is_lower d.seat) (bar_marks d.bar) seated.0.0)
      ∙ sym (keys_join lower keys (bar_key lengths m ∷ [])))
      ∙ ap (λ t. keys_by lower (keys ++ bar_key lengths m ∷ []) ++ t)
      (measures_keyed lengths (m + 1) false ds seated.1)
      ∙ sym (keys_join lower (keys ++ bar_key lengths m ∷ []) rest)
      ∙ ap (keys_by lower) (append_assoc keys (bar_key lengths m ∷ []) rest)

  pub head_keyed : (a : ℕ) (ds : List DrawnMeasure)
      → 1 ≤ length ds → AllByRecursion (IsSeated lower) ds → keys_of (head_slots a ds) ≡ keys_by lower (head_key a ∷ [])
  head_keyed a [] some seated = absurd (omega (arith, some))
  head_keyed a (d ∷ ds) some seated =
      one_key (not (is_lower d.seat)) _ _
      ∙ ap (λ c. if not c then head_key a ∷ [] else []) seated.0.0 ∙ by lower
    where
      by : (l : Bool) → (if not l then head_key a ∷ [] else []) ≡ keys_by l (head_key a ∷ [])
      by true = refl
      by false = refl

  first_keyed : (a : ℕ) (seat : Seat) (bar : Bar)
      → is_lower seat ≡ lower → keys_of (first_slots a seat bar) ≡ keys_by lower (first_keys a bar)
  first_keyed a seat bar seated =
      one_key (not (is_lower seat) && (a == 0) && has_features bar) _ _
      ∙ ap (λ c. if not c && (a == 0) && has_features bar then key_at 0 0 Class.First 0 ∷ [] else []) seated
      ∙ by lower (a == 0) (has_features bar)
    where
      by : (l z f : Bool)
          → (if not l && z && f then key_at 0 0 Class.First 0 ∷ [] else [])
          ≡ keys_by l (if z && f then key_at 0 0 Class.First 0 ∷ [] else [])
      by true true true = refl
      by true true false = refl
      by true false f = refl
      by false true f = refl
      by false false f = refl

  columns_keyed : (lengths : List ℕ) (a : ℕ) (seat : Seat) (bar : Bar) (ds : List DrawnMeasure)
      → 1 ≤ length ds → is_lower seat ≡ lower → AllByRecursion (IsSeated lower) ds
      → keys_of (columns_slots first lengths a seat bar ds)
      ≡ keys_by lower (head_key a ∷ first_keys a bar ++ measures_columns lengths a true ds)
  columns_keyed lengths a seat bar ds some own seated =
      let head = head_slots a ds in
      let start = first_slots a seat bar in
      let more = measures_slots first lengths a true ds in
      let rest = measures_columns lengths a true ds in
      map-append (λ s. s.key) (head ++ start) more
      ∙ ap (λ t. t ++ keys_of more)
      (map-append (λ s. s.key) head start
      ∙ ap (λ t. t ++ keys_of start) (head_keyed a ds some seated)
      ∙ ap (λ t. keys_by lower (head_key a ∷ []) ++ t) (first_keyed a seat bar own)
      ∙ sym (keys_join lower (head_key a ∷ []) (first_keys a bar)))
      ∙ ap (λ t. keys_by lower (head_key a ∷ first_keys a bar) ++ t) (measures_keyed lengths a true ds seated)
      ∙ sym (keys_join lower (head_key a ∷ first_keys a bar) rest)

pub seated_range : (lower : Bool) (a b : ℕ) (ds : List DrawnMeasure)
    → AllByRecursion (IsSeated lower) ds → AllByRecursion (IsSeated lower) (slice_range ds a b)
seated_range lower a b ds seated =
    all_take (IsSeated lower) (b - a) (drop a ds) (all_drop (IsSeated lower) a ds seated)

-- the slots of a voice, whose measures have its seat, in a system that is not empty
pub voice_keyed : (first : ℕ) (lengths : List ℕ) (a b : ℕ) (v : DrawnVoice)
    → 1 ≤ length (slice_range v.measures a b) → AllByRecursion (IsSeated (is_lower v.seat)) v.measures
    → keys_of (voice_slots first lengths a b v) ≡ staff_columns true lengths a b v
voice_keyed first lengths a b v some seated =
    columns_keyed first (is_lower v.seat) lengths a v.seat v.first (slice_range v.measures a b) some refl
    (seated_range (is_lower v.seat) a b v.measures seated)

-- in a system that begins with these measures, or began before
pub range_keyed : (begins : Bool) (first : ℕ) (lengths : List ℕ) (a b : ℕ) (v : DrawnVoice)
    → 1 ≤ length (slice_range v.measures a b) → AllByRecursion (IsSeated (is_lower v.seat)) v.measures
    → keys_of (range_slots begins lengths a b first v) ≡ staff_columns begins lengths a b v
range_keyed true first lengths a b v some seated = voice_keyed first lengths a b v some seated
range_keyed false first lengths a b v some seated =
    measures_keyed first (is_lower v.seat) lengths a false (slice_range v.measures a b)
    (seated_range (is_lower v.seat) a b v.measures seated)
