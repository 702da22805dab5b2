-- The columns of a voice rise: its events come one after another, and each bar after those of its measure.
use Rattle.std.proofs.Common.{◌≡◌, ℕ, ◌+◌, ◌<◌, ◌≤◌, ◌==◌, Bool, true, false, not, ◌&&◌, if◌then◌else◌, List}
use Rattle.std.proofs.Common.{[], ◌∷◌, ◌++◌, append_assoc, cond, refl, sym, subst, arith}
use Rattle.std.proofs.lemmas.Bool.Decides.{nat_tests}
use Rattle.std.specs.List.{filter, slice_index, slice_range}
use Rattle.std.specs.Prelude.{⊤}
use Rattle.mus_units.specs.declared.note.Bar.{Bar}
use Rattle.mus_score.specs.declared.score.Event.{Event}
use Rattle.mus_score.specs.Seats.{is_lower}
use Rattle.mus_onsets.specs.declared.keys.Class.{Class}
use Rattle.mus_onsets.specs.declared.keys.ColumnKey.{ColumnKey}
use Rattle.mus_onsets.specs.Keys.{bar_key, change_has_mark, first_keys, grace_keys, has_features, head_key}
use Rattle.mus_onsets.specs.Keys.{is_for_each, key_at, keys_by}
use Rattle.mus_onsets.specs.Order.{BelowAll, Rises, class_number, is_below}
use Rattle.mus_onsets.proofs.Orders.{below_through, lower}
use Rattle.mus_drawn.specs.declared.drawn.DrawnEvent.{DrawnEvent}
use Rattle.mus_drawn.specs.declared.drawn.DrawnMeasure.{DrawnMeasure}
use Rattle.mus_drawn.specs.declared.drawn.DrawnVoice.{DrawnVoice}
use Rattle.mus_time.specs.Columns.{events_columns, has_old, measures_columns, note_key, staff_columns}

-- events one after another, from one tick on, and none after the end of its measure
abbrev pub TicksRise : ℕ → ℕ → List DrawnEvent → Type 0
TicksRise low high [] = ⊤
TicksRise low high (e ∷ es) = (low ≤ e.tick) × (e.tick ≤ high) × TicksRise (e.tick + 1) high es

-- those of measures from number m on
abbrev pub AreTimed : List ℕ → ℕ → List DrawnMeasure → Type 0
AreTimed lengths m [] = ⊤
AreTimed lengths m (d ∷ ds) = TicksRise 0 (slice_index lengths m) d.events × AreTimed lengths (m + 1) ds

-- each key is above the one before it, the first above k
abbrev RiseFrom : ColumnKey → List ColumnKey → Type 0
RiseFrom k [] = ⊤
RiseFrom k (l ∷ ls) = (is_below k l ≡ true) × RiseFrom l ls

rise_join : (k l : ColumnKey) (ks ls : List ColumnKey)
    → RiseFrom k (ks ++ l ∷ []) → RiseFrom l ls → RiseFrom k (ks ++ l ∷ ls)
rise_join k l [] ls p q = (p.0, q)
rise_join k l (j ∷ ks) ls p q = (p.0, rise_join j l ks ls p.1 q)

below_more : (k l : ColumnKey) (ls : List ColumnKey) → is_below k l ≡ true → BelowAll l ls → BelowAll k ls
below_more k l [] h below = tt
below_more k l (m ∷ ls) h below = (below_through k l m h below.0, below_more k l ls h below.1)

all_rise : (k : ColumnKey) (ls : List ColumnKey) → RiseFrom k ls → BelowAll k ls × Rises ls
all_rise k [] h = (tt, tt)
all_rise k (l ∷ ls) h =
    let more = all_rise l ls h.1 in ((h.0, below_more k l ls h.0 more.0), (more.0, more.1))

-- ---- keys in the order of their measures, ticks and classes
pub class_below : (m n t u i j : ℕ) (c d : Class)
    → m ≤ n → (m ≡ n → t ≤ u) → class_number c < class_number d → is_below (key_at m t c i) (key_at n u d j) ≡ true
unfolding is_below
class_below m n t u i j c d le later classes = grind (arith, nat_tests, le, later, classes)

-- nothing is before the head of a system
pub not_before : (a : ℕ) (k : ColumnKey) → a ≤ k.measure → is_below k (head_key a) ≡ false
unfolding is_below
not_before a k from = grind (arith, nat_tests, from)

-- of one tick
tick_below : (m t i j : ℕ) (c d : Class)
    → class_number c < class_number d → is_below (key_at m t c i) (key_at m t d j) ≡ true
tick_below m t i j c d classes = class_below m m t t i j c d (omega arith) (λ same. omega arith) classes

grace_below : (m t i : ℕ) → is_below (key_at m t Class.Grace i) (key_at m t Class.Grace (i + 1)) ≡ true
unfolding is_below
grace_below m t i = grind (arith, nat_tests)

note_below : (m t u : ℕ) → t + 1 ≤ u → is_below (key_at m t Class.Note 0) (key_at m u Class.Change 0) ≡ true
unfolding is_below
note_below m t u h = grind (arith, nat_tests)

graces_rise : (k : ColumnKey) (m t i : ℕ) (gs : List Event)
    → is_below k (key_at m t Class.Grace i) ≡ true → is_below k (key_at m t Class.Note 0) ≡ true
    → RiseFrom k (grace_keys m t i gs ++ key_at m t Class.Note 0 ∷ [])
graces_rise k m t i [] h g = (g, tt)
graces_rise k m t i (x ∷ gs) h g = (
  h,
  graces_rise (key_at m t Class.Grace i) m t (i + 1) gs (grace_below m t i)
      (tick_below m t i 0 Class.Grace Class.Note (omega arith)),
)

event_rises : (k : ColumnKey) (m t : ℕ) (c : Bool) (gs : List Event) → is_below k (key_at m t Class.Change 0) ≡ true
    → RiseFrom k
    (((if c then key_at m t Class.Change 0 ∷ [] else []) ++ grace_keys m t 0 gs) ++ key_at m t Class.Note 0 ∷ [])
event_rises k m t true gs h = (
  h,
  graces_rise (key_at m t Class.Change 0) m t 0 gs (tick_below m t 0 0 Class.Change Class.Grace (omega arith))
      (tick_below m t 0 0 Class.Change Class.Note (omega arith)),
)
event_rises k m t false gs h =
    let following = λ (c : Class) (more : 2 < class_number c).
    below_through k (key_at m t Class.Change 0) (key_at m t c 0) h (tick_below m t 0 0 Class.Change c more) in
    graces_rise k m t 0 gs (following Class.Grace (omega arith)) (following Class.Note (omega arith))

-- before all that a measure can have after the head of its system
abbrev IsEarly : ColumnKey → ℕ → Type 0
IsEarly k m = (t : ℕ) → (is_below k (key_at m t Class.Change 0) ≡ true) × (is_below k (key_at m t Class.Bar 0) ≡ true)

early : (a m : ℕ) (c : Class) → a ≡ m → class_number c < 2 → IsEarly (key_at a 0 c 0) m
early a m c same classes t =
    let below = λ (d : Class) (more : 2 ≤ class_number d).
    class_below a m 0 t 0 0 c d (omega (arith, same)) (λ e. omega arith) (omega (arith, classes, more)) in
    (below Class.Change (omega arith), below Class.Bar (omega arith))

module _ (lengths : List ℕ) where
  events_rise : (k : ColumnKey) (m low : ℕ) (in_head : Bool) (es : List DrawnEvent)
      → TicksRise low (slice_index lengths m) es
      → ((t : ℕ) → low ≤ t → is_below k (key_at m t Class.Change 0) ≡ true)
      → is_below k (bar_key lengths m) ≡ true → RiseFrom k (events_columns m in_head es ++ bar_key lengths m ∷ [])
  events_rise k m low in_head [] ticks before below = (below, tt)
  events_rise k m low in_head (e ∷ es) ticks before below =
      let c = not in_head && change_has_mark (has_old e) e.flat.event.changes in
      let prefix = (if c then key_at m e.tick Class.Change 0 ∷ [] else []) in
      let graces = grace_keys m e.tick 0 e.flat.graces in
      let more = events_columns m false es in
      let same : (prefix ++ graces) ++ note_key m e ∷ (more ++ bar_key lengths m ∷ []) ≡
      ((prefix ++ graces ++ note_key m e ∷ []) ++ more) ++ bar_key lengths m ∷ [] = simp append_assoc in
      subst (RiseFrom k) same
      (rise_join k (note_key m e) (prefix ++ graces) (more ++ bar_key lengths m ∷ [])
      (event_rises k m e.tick c e.flat.graces (before e.tick ticks.0))
      (events_rise (note_key m e) m (e.tick + 1) false es ticks.2 (note_below m e.tick)
      (class_below m m e.tick _ 0 0 Class.Note Class.Bar (omega arith) (λ is. ticks.1) (omega arith))))

  measures_rise : (k : ColumnKey) (m : ℕ) (in_head : Bool) (ds : List DrawnMeasure)
      → AreTimed lengths m ds → IsEarly k m → RiseFrom k (measures_columns lengths m in_head ds)
  measures_rise k m in_head [] timed low = tt
  measures_rise k m in_head (d ∷ ds) timed low =
      let bar = bar_key lengths m in
      let late = λ (t : ℕ) (c : Class). lower bar (key_at (m + 1) t c 0) (omega arith) in
      rise_join k bar (events_columns m in_head d.events) (measures_columns lengths (m + 1) false ds)
      (events_rise k m 0 in_head d.events timed.0 (λ t any. (low t).0) (low (slice_index lengths m)).1)
      (measures_rise bar (m + 1) false ds timed.1 (λ t. (late t Class.Change, late t Class.Bar)))

  columns_rise : (a : ℕ) (first : Bar) (ds : List DrawnMeasure)
      → AreTimed lengths a ds → RiseFrom (head_key a) (first_keys a first ++ measures_columns lengths a true ds)
  columns_rise a first ds timed = by ((a == 0) && has_features first) (λ e. grind (arith, nat_tests, e))
    where
      by : (c : Bool) → (c ≡ true → a ≡ 0)
          → RiseFrom (head_key a)
          ((if c then key_at 0 0 Class.First 0 ∷ [] else []) ++ measures_columns lengths a true ds)
      by true zero = let here = zero refl in (
        class_below a 0 0 0 0 0 Class.Head Class.First (omega (arith, here)) (λ e. omega arith) (omega arith),
        measures_rise (key_at 0 0 Class.First 0) a true ds timed (early 0 a Class.First (sym here) (omega arith)),
      )
      by false zero = measures_rise (head_key a) a true ds timed (early a a Class.Head refl (omega arith))

-- ---- those of a voice on its staff
below_kept : (k : ColumnKey) (ls : List ColumnKey) → BelowAll k ls → BelowAll k (filter is_for_each ls)
below_kept k [] h = tt
below_kept k (l ∷ ls) h = by (is_for_each l) (below_kept k ls h.1)
  where
    by : (b : Bool) → BelowAll k (filter is_for_each ls)
        → BelowAll k (cond b (l ∷ filter is_for_each ls) (filter is_for_each ls))
    by true more = (h.0, more)
    by false more = more

kept_rise : (ks : List ColumnKey) → Rises ks → Rises (filter is_for_each ks)
kept_rise [] h = tt
kept_rise (k ∷ ks) h = by (is_for_each k) (kept_rise ks h.1)
  where
    by : (b : Bool) → Rises (filter is_for_each ks)
        → Rises (cond b (k ∷ filter is_for_each ks) (filter is_for_each ks))
    by true more = (below_kept k ks h.0, more)
    by false more = more

by_rise : (is_led : Bool) (ks : List ColumnKey) → Rises ks → Rises (keys_by is_led ks)
by_rise true ks h = kept_rise ks h
by_rise false ks h = h

pub voice_rises : (lengths : List ℕ) (a b : ℕ) (v : DrawnVoice)
    → AreTimed lengths a (slice_range v.measures a b) → Rises (staff_columns true lengths a b v)
voice_rises lengths a b v timed =
    let more = all_rise (head_key a) (first_keys a v.first ++ measures_columns lengths a true _)
    (columns_rise lengths a v.first (slice_range v.measures a b) timed) in
    by_rise (is_lower v.seat) (head_key a ∷ first_keys a v.first ++ measures_columns lengths a true _)
    (more.0, more.1)
