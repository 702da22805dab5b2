-- The columns that a voice draws in are among those of its system.
use Rattle.std.proofs.Common.{◌≡◌, ◌∙◌, ℕ, zero, suc, ◌+◌, ◌-◌, ◌<◌, ◌≤◌, Bool, true, false, cond, List, [], ◌∷◌, ◌++◌}
use Rattle.std.proofs.Common.{length, length-drop, length-take, get_or, drop, Some, refl, sym, ap, subst, arith}
use Rattle.std.proofs.lemmas.List.{get_or-drop, get_or-take}
use Rattle.std.proofs.lemmas.List.Elements.{All-from_recursion, Contains-append_left, Contains-append_right}
use Rattle.std.proofs.lemmas.List.Elements.{recursion_from_All}
use Rattle.std.proofs.lemmas.Option.{get_or_from_slice_get, none-some, same_Some, slice_get_read, slice_get_within}
use Rattle.std.specs.List.{All, AllByRecursion, Contains, filter, flat_map, slice_get, slice_index_or, slice_range}
use Rattle.mus_score.specs.declared.score.Event.{Event}
use Rattle.mus_score.specs.declared.score.Score.{Score}
use Rattle.mus_score.specs.declared.score.Voice.{Voice}
use Rattle.mus_score.specs.GoodScore.{IsGoodScore, IsLed}
use Rattle.mus_score.specs.Seats.{is_lower}
use Rattle.mus_onsets.specs.Keys.{all_keys, AreKeys, bar_key, called_keys, change_keys, event_keys, first_keys}
use Rattle.mus_onsets.specs.Keys.{grace_keys, head_key, is_for_each, key_at, keys_by, voice_keys}
use Rattle.mus_onsets.specs.declared.keys.Class.{Class}
use Rattle.mus_onsets.specs.declared.keys.ColumnKey.{ColumnKey}
use Rattle.mus_drawn.specs.{declared.drawn.{DrawnEvent.DrawnEvent, DrawnMeasure.DrawnMeasure}, Drawn.drawn_voice}
use Rattle.mus_time.specs.Columns.{events_columns, has_old, measures_columns, voice_columns, note_key}
use Rattle.mus_time.proofs.Called.{voice_same}
use Rattle.mus_time.proofs.Counts.{voice_count}

abbrev pub AreAmong : List ColumnKey → List ColumnKey → Type 0
AreAmong some keys = (k : ColumnKey) → Contains some k → Contains keys k

pub among_left : (xs ys keys : List ColumnKey) → AreAmong (xs ++ ys) keys → AreAmong xs keys
among_left xs ys keys h k i = h k (Contains-append_left xs ys k i)

pub among_right : (xs ys keys : List ColumnKey) → AreAmong (xs ++ ys) keys → AreAmong ys keys
among_right xs ys keys h k i = h k (Contains-append_right xs ys k i)

pub here : {X : Type 0} (x : X) (xs : List X) → Contains (x ∷ xs) x
here x xs = (0, omega arith, refl)

pub there : {X : Type 0} (x y : X) (ys : List X) → Contains ys x → Contains (y ∷ ys) x
there x y ys (i, inside, is) = (suc i, omega (arith, inside), is)

pub none_there : {X : Type 0} (x : X) → Contains [] x → ⊥
none_there x (i, inside, is) = omega (arith, inside)

module _ {X : Type 0} (test : X → Bool) where
  pub filter_has : (x : X) (xs : List X) → test x ≡ true → Contains xs x → Contains (filter test xs) x
  filter_has x [] pass has = absurd (none_there x has)
  filter_has x (y ∷ xs) pass (zero, inside, is) =
      subst (λ z. Contains (filter test (z ∷ xs)) x) (sym is)
      (subst (λ c. Contains (cond c (x ∷ filter test xs) (filter test xs)) x) (sym pass) (here x (filter test xs)))
  filter_has x (y ∷ xs) pass (suc i, inside, is) = by (test y) (filter_has x xs pass (i, omega (arith, inside), is))
    where
      by : (c : Bool) → Contains (filter test xs) x → Contains (cond c (y ∷ filter test xs) (filter test xs)) x
      by true has = there x y (filter test xs) has
      by false has = has

-- the columns of notes and graces are among some keys
abbrev pub HaveOwn : List ColumnKey → List ColumnKey → Type 0
HaveOwn some keys = (k : ColumnKey) → is_for_each k ≡ true → Contains some k → Contains keys k

own_left : (xs ys keys : List ColumnKey) → HaveOwn (xs ++ ys) keys → HaveOwn xs keys
own_left xs ys keys h k own i = h k own (Contains-append_left xs ys k i)

own_right : (xs ys keys : List ColumnKey) → HaveOwn (xs ++ ys) keys → HaveOwn ys keys
own_right xs ys keys h k own i = h k own (Contains-append_right xs ys k i)

-- the columns of an event and of its graces
pub record HasEvent (keys : List ColumnKey) (m : ℕ) (e : DrawnEvent) : Type 0 where
  pub note : Contains keys (note_key m e)
  pub graces : (i : ℕ) → i < length e.flat.graces → Contains keys (key_at m e.tick Class.Grace i)

-- the columns of a measure, with its bar
pub record HasMeasure (keys : List ColumnKey) (lengths : List ℕ) (m : ℕ) (d : DrawnMeasure) : Type 0 where
  pub events : AllByRecursion (HasEvent keys m) d.events
  pub bar : Contains keys (bar_key lengths m)

-- the columns of measures from number m on
abbrev pub HasMeasures : List ColumnKey → List ℕ → ℕ → List DrawnMeasure → Type 0
HasMeasures keys lengths m [] = Unit {0}
HasMeasures keys lengths m (d ∷ ds) = HasMeasure keys lengths m d × HasMeasures keys lengths (m + 1) ds

grace_in : (m tick i j : ℕ) (gs : List Event)
    → j < length gs → Contains (grace_keys m tick i gs) (key_at m tick Class.Grace (i + j))
grace_in m tick i j [] h = absurd (omega (arith, h))
grace_in m tick i zero (g ∷ gs) h =
    let e : i ≡ i + 0 = omega arith in
    subst (λ n. Contains (grace_keys m tick i (g ∷ gs)) (key_at m tick Class.Grace n)) e
    (here (key_at m tick Class.Grace i) (grace_keys m tick (i + 1) gs))
grace_in m tick i (suc j) (g ∷ gs) h =
    let e : i + 1 + j ≡ i + suc j = omega arith in
    subst (λ n. Contains (grace_keys m tick i (g ∷ gs)) (key_at m tick Class.Grace n)) e
    (there (key_at m tick Class.Grace (i + 1 + j)) (key_at m tick Class.Grace i) (grace_keys m tick (i + 1) gs)
    (grace_in m tick (i + 1) j gs (omega (arith, h))))

event_has : (keys : List ColumnKey) (m : ℕ) (in_head : Bool) (e : DrawnEvent)
    → HaveOwn (event_keys m e.tick in_head (has_old e) e.flat) keys → HasEvent keys m e
event_has keys m in_head e h =
    let change = change_keys m e.tick in_head (has_old e) e.flat.event.changes in
    let graces = grace_keys m e.tick 0 e.flat.graces in
    let note = note_key m e in
    let of_graces = own_right change graces keys (own_left (change ++ graces) (note ∷ []) keys h) in
    record {
      note = own_right (change ++ graces) (note ∷ []) keys h note refl (here note []);
      graces = λ i less.
          let e' : 0 + i ≡ i = omega arith in
          subst (λ n. Contains keys (key_at m e.tick Class.Grace n)) e'
          (of_graces (key_at m e.tick Class.Grace (0 + i)) refl (grace_in m e.tick 0 i e.flat.graces less));
    }

events_have : (keys : List ColumnKey) (m : ℕ) (in_head : Bool) (es : List DrawnEvent)
    → HaveOwn (events_columns m in_head es) keys → AllByRecursion (HasEvent keys m) es
events_have keys m in_head [] h = tt
events_have keys m in_head (e ∷ es) h =
    let own = event_keys m e.tick in_head (has_old e) e.flat in (
      event_has keys m in_head e (own_left own (events_columns m false es) keys h),
      events_have keys m false es (own_right own (events_columns m false es) keys h),
    )

-- if their bars have columns
measures_have : (keys : List ColumnKey) (lengths : List ℕ) (m : ℕ) (in_head : Bool) (ds : List DrawnMeasure)
    → HaveOwn (measures_columns lengths m in_head ds) keys
    → ((i : ℕ) → i < length ds → Contains keys (bar_key lengths (m + i))) → HasMeasures keys lengths m ds
measures_have keys lengths m in_head [] h bars = tt
measures_have keys lengths m in_head (d ∷ ds) h bars =
    let own = events_columns m in_head d.events in
    let more = measures_columns lengths (m + 1) false ds in
    let bar = bar_key lengths m in
    let first : m + 0 ≡ m = omega arith in (
      record {
        events = events_have keys m in_head d.events (own_left own (bar ∷ more) keys h);
        bar = subst (λ n. Contains keys (bar_key lengths n)) first (bars 0 (omega arith));
      },
      measures_have keys lengths (m + 1) false ds
          (λ k is i. own_right own (bar ∷ more) keys h k is (there k bar more i))
          (λ i less.
          let e : m + suc i ≡ m + 1 + i = omega arith in
          subst (λ n. Contains keys (bar_key lengths n)) e (bars (suc i) (omega (arith, less)))),
    )

bar_in : (lengths : List ℕ) (m i : ℕ) (in_head : Bool) (ds : List DrawnMeasure)
    → i < length ds → Contains (measures_columns lengths m in_head ds) (bar_key lengths (m + i))
bar_in lengths m i in_head [] less = absurd (omega (arith, less))
bar_in lengths m zero in_head (d ∷ ds) less =
    let e : m ≡ m + 0 = omega arith in let more = measures_columns lengths (m + 1) false ds in
    subst (λ n. Contains (measures_columns lengths m in_head (d ∷ ds)) (bar_key lengths n)) e
    (Contains-append_right (events_columns m in_head d.events) (bar_key lengths m ∷ more) (bar_key lengths m)
    (here (bar_key lengths m) more))
bar_in lengths m (suc i) in_head (d ∷ ds) less =
    let e : m + 1 + i ≡ m + suc i = omega arith in
    let more = measures_columns lengths (m + 1) false ds in
    let bar = bar_key lengths (m + 1 + i) in
    subst (λ n. Contains (measures_columns lengths m in_head (d ∷ ds)) (bar_key lengths n)) e
    (Contains-append_right (events_columns m in_head d.events) (bar_key lengths m ∷ more) bar
    (there bar (bar_key lengths m) more (bar_in lengths (m + 1) i false ds (omega (arith, less)))))

-- ---- the voices of a score
each_among : (f : Voice → List ColumnKey) (keys : List ColumnKey) (vs : List Voice)
    → AreAmong (flat_map f vs) keys → AllByRecursion (λ v. AreAmong (f v) keys) vs
each_among f keys [] h = tt
each_among f keys (v ∷ vs) h =
    (among_left (f v) (flat_map f vs) keys h, each_among f keys vs (among_right (f v) (flat_map f vs) keys h))

-- all columns that a voice calls for are among the keys of the system
pub voices_called : (s : Score) (lengths : List ℕ) (a b : ℕ) (keys : List ColumnKey)
    → AreKeys keys (called_keys s lengths a b) → All (λ v. AreAmong (voice_keys lengths a b v) keys) s.voices
voices_called s lengths a b keys are =
    All-from_recursion (λ v. AreAmong (voice_keys lengths a b v) keys) s.voices
    (each_among (voice_keys lengths a b) keys s.voices are.all)

-- all columns of the first voice, which is not a lower one, are among them
leader_among : (lengths : List ℕ) (a b : ℕ) (v : Voice) (vs : List Voice) (keys : List ColumnKey)
    → is_lower v.seat ≡ false → AreAmong (flat_map (voice_keys lengths a b) (v ∷ vs)) keys
    → AreAmong (voice_columns lengths a b (drawn_voice v)) keys
leader_among lengths a b v vs keys led h =
    subst (λ t. AreAmong t keys) (ap (λ c. keys_by c (all_keys lengths a b v)) led ∙ voice_same lengths a b v)
    (among_left (voice_keys lengths a b v) (flat_map (voice_keys lengths a b) vs) keys h)

slice_count : (a b : ℕ) (v : Voice) → b ≤ length v.measures → length (slice_range (drawn_voice v).measures a b) ≡ b - a
slice_count a b v within =
    let ms = (drawn_voice v).measures in
    omega (arith, within, voice_count v, length-drop a ms, length-take (b - a) (drop a ms))

bars_led : (lengths : List ℕ) (a b n : ℕ) (vs : List Voice) (keys : List ColumnKey)
    → 1 ≤ length vs → IsLed vs → AllByRecursion (λ v. length v.measures ≡ n) vs → b ≤ n
    → AreAmong (flat_map (voice_keys lengths a b) vs) keys
    → (i : ℕ) → i < b - a → Contains keys (bar_key lengths (a + i))
bars_led lengths a b n [] keys some led each within h i less = absurd (omega (arith, some))
bars_led lengths a b n (v ∷ vs) keys some led each within h i less =
    let all = each.0 in
    let ds = slice_range (drawn_voice v).measures a b in
    let count = slice_count a b v (omega (arith, all, within)) in
    among_right (head_key a ∷ first_keys a (drawn_voice v).first) (measures_columns lengths a true ds) keys
    (leader_among lengths a b v vs keys led h)
    (bar_key lengths (a + i)) (bar_in lengths a i true ds (omega (arith, count, less)))

-- the bar of each measure of the system, and its head
pub bars_inside : (s : Score) (lengths : List ℕ) (a b : ℕ) (keys : List ColumnKey)
    → IsGoodScore s → 1 ≤ length s.voices → b ≤ s.measures → AreKeys keys (called_keys s lengths a b)
    → (i : ℕ) → i < b - a → Contains keys (bar_key lengths (a + i))
bars_inside s lengths a b keys good some within are =
    bars_led lengths a b s.measures s.voices keys some good.led
    (recursion_from_All (λ v. length v.measures ≡ s.measures) s.voices good.measures) within are.all

head_led : (lengths : List ℕ) (a b : ℕ) (vs : List Voice) (keys : List ColumnKey)
    → 1 ≤ length vs → IsLed vs → AreAmong (flat_map (voice_keys lengths a b) vs) keys → Contains keys (head_key a)
head_led lengths a b [] keys some led h = absurd (omega (arith, some))
head_led lengths a b (v ∷ vs) keys some led h =
    let d = drawn_voice v in
    leader_among lengths a b v vs keys led h (head_key a)
    (Contains-append_left (head_key a ∷ first_keys a d.first)
    (measures_columns lengths a true (slice_range d.measures a b)) (head_key a)
    (here (head_key a) (first_keys a d.first)))

pub head_inside : (s : Score) (lengths : List ℕ) (a b : ℕ) (keys : List ColumnKey)
    → IsGoodScore s → 1 ≤ length s.voices → AreKeys keys (called_keys s lengths a b) → Contains keys (head_key a)
head_inside s lengths a b keys good some are = head_led lengths a b s.voices keys some good.led are.all

own_called : (lengths : List ℕ) (a b : ℕ) (v : Voice) (keys : List ColumnKey)
    → AreAmong (voice_keys lengths a b v) keys → HaveOwn (voice_columns lengths a b (drawn_voice v)) keys
own_called lengths a b v keys h k own has =
    h k (by (is_lower v.seat) (subst (λ t. Contains t k) (sym (voice_same lengths a b v)) has))
  where
    by : (lower : Bool) → Contains (all_keys lengths a b v) k → Contains (keys_by lower (all_keys lengths a b v)) k
    by true inside = filter_has is_for_each k (all_keys lengths a b v) own inside
    by false inside = inside

-- the columns of the events and bars of each voice, also of a lower one
pub measures_inside : (s : Score) (lengths : List ℕ) (a b : ℕ) (keys : List ColumnKey)
    → IsGoodScore s → b ≤ s.measures → AreKeys keys (called_keys s lengths a b)
    → All (λ v. HasMeasures keys lengths a (slice_range (drawn_voice v).measures a b)) s.voices
measures_inside s lengths a b keys good within are k d inside =
    let v = slice_index_or s.voices k d in
    let ds = slice_range (drawn_voice v).measures a b in
    let all = good.measures k d inside in
    let count = slice_count a b v (omega (arith, all, within)) in
    measures_have keys lengths a true ds
    (own_right (head_key a ∷ first_keys a (drawn_voice v).first) (measures_columns lengths a true ds) keys
    (own_called lengths a b v keys (voices_called s lengths a b keys are k d inside)))
    (λ i less. bars_inside s lengths a b keys good (omega (arith, inside)) within are i (omega (arith, less, count)))

-- ---- one measure of some
of_range : {X : Type 0} (xs : List X) (a b m : ℕ) (x : X)
    → a ≤ m → m < b → slice_get xs m ≡ Some x → slice_get (slice_range xs a b) (m - a) ≡ Some x
of_range xs a b m x from to is =
    let n = m - a in
    let there : a + n ≡ m = omega (arith, from) in
    let short : n < b - a = omega (arith, from, to) in
    let inside = slice_get_within xs m x is in
    let following = length-drop a xs in
    let taken = length-take (b - a) (drop a xs) in
    slice_get_read (slice_range xs a b) (length (slice_range xs a b)) n x refl
    (omega (arith, from, to, inside, following, taken))
    (sym (get_or-take (b - a) (drop a xs) n x short
    ∙ get_or-drop a xs n x
    ∙ ap (λ k. get_or xs k x) there
    ∙ get_or_from_slice_get xs m x x is))

at_place : (keys : List ColumnKey) (lengths : List ℕ) (m i : ℕ) (ds : List DrawnMeasure) (d : DrawnMeasure)
    → HasMeasures keys lengths m ds → slice_get ds i ≡ Some d → HasMeasure keys lengths (m + i) d
at_place keys lengths m i [] d h is = absurd (none-some d is)
at_place keys lengths m zero (x ∷ ds) d h is =
    let e : m ≡ m + 0 = omega arith in
    subst (λ k. HasMeasure keys lengths k d) e (subst (HasMeasure keys lengths m) (same_Some x d is) h.0)
at_place keys lengths m (suc i) (x ∷ ds) d h is =
    let e : m + 1 + i ≡ m + suc i = omega arith in
    subst (λ k. HasMeasure keys lengths k d) e (at_place keys lengths (m + 1) i ds d h.1 is)

-- measure m of a voice whose measures a to b - 1 have their columns
pub measure_at : (keys : List ColumnKey) (lengths : List ℕ) (a b m : ℕ) (ds : List DrawnMeasure) (d : DrawnMeasure)
    → HasMeasures keys lengths a (slice_range ds a b) → a ≤ m → m < b → slice_get ds m ≡ Some d
    → HasMeasure keys lengths m d
measure_at keys lengths a b m ds d h from to is =
    let e : a + (m - a) ≡ m = omega (arith, from) in
    subst (λ k. HasMeasure keys lengths k d) e
    (at_place keys lengths a (m - a) (slice_range ds a b) d h (of_range ds a b m d from to is))
