-- Arcs go from the column of an event to that of a later one. The head comes before all notes of a system and the bar
-- of its last measure after them, so an end that is cut by the system is outside of them too.
use Rattle.std.proofs.Common.{◌≡◌, ◌∙◌, ℕ, zero, suc, ◌-◌, ◌<◌, ◌≤◌, Bool, true, false, nat_lt, nat_le}
use Rattle.std.proofs.Common.{◌==◌, ◌&&◌, if◌then◌else◌, List, [], ◌∷◌, ◌++◌, map, reverse, Option, Some, None}
use Rattle.std.proofs.Common.{refl, sym, ap, subst, arith}
use Rattle.std.proofs.lemmas.Bool.Decides.{nat_tests}
use Rattle.std.proofs.lemmas.List.Elements.{All-contains, All-from_recursion, recursion_from_All}
use Rattle.std.proofs.lemmas.List.Sorted.{All-permutation, IsPermutation-reverse}
use Rattle.std.proofs.lemmas.Option.{get_or_from_slice_get, none-some, same_Some, slice_get_within}
use Rattle.std.specs.List.{All, AllByRecursion, Contains, find, list_any, slice_get, slice_index, slice_range}
use Rattle.mus_units.specs.declared.note.Head.{Head}
use Rattle.mus_score.specs.declared.score.Flat.{Flat}
use Rattle.mus_score.specs.declared.score.Measure.{Measure}
use Rattle.mus_score.specs.declared.score.Voice.{Voice}
use Rattle.mus_score.specs.GoodScore.{AreCounted, IsGoodVoice, events_of}
use Rattle.mus_score.specs.Times.{flats_of}
use Rattle.mus_onsets.specs.declared.keys.Class.{Class}
use Rattle.mus_onsets.specs.declared.keys.ColumnKey.{ColumnKey}
use Rattle.mus_onsets.specs.Keys.{IsInSystem, bar_key, head_key}
use Rattle.mus_onsets.specs.Order.{is_below}
use Rattle.mus_stems.proofs.RunLaws.{all_append, all_drop}
use Rattle.mus_arcs.specs.declared.events.ArcEvent.{ArcEvent}
use Rattle.mus_arcs.specs.declared.pairing.Arc.{Arc}
use Rattle.mus_arcs.specs.declared.pairing.SlurEnd.{SlurEnd}
use Rattle.mus_arcs.specs.declared.cutting.Piece.{Piece}
use Rattle.mus_arcs.specs.Arcs.{arcs_of, slur_copies, has_pitch, open_ends, slur, slurs, slurs_at, spot, tie, ties_at}
use Rattle.mus_arcs.specs.Arcs.{ties_from}
use Rattle.mus_arcs.specs.Events.{at_measure, events_from, events_of_voice}
use Rattle.mus_arcs.specs.Pieces.{piece_of}
use Rattle.mus_laid.specs.declared.drawn.Bridge.{Bridge}
use Rattle.mus_words.specs.Arcs.{ArcEndEvent, arc_mark, slur_mark, tie_mark}
use Rattle.mus_drawn.specs.declared.drawn.DrawnEvent.{DrawnEvent}
use Rattle.mus_drawn.specs.declared.drawn.DrawnMeasure.{DrawnMeasure}
use Rattle.mus_drawn.specs.Drawn.{drawn_voice}
use Rattle.mus_time.specs.Columns.{note_key}
use Rattle.mus_bridges.specs.Arcs.{arc_between, arc_in, arcs_between, event_at, event_in, has_id, piece_between}
use Rattle.mus_bridges.specs.Arcs.{seen_of}
use Rattle.mus_slots.proofs.Rising.{class_below}
use Rattle.mus_marks.proofs.GoingOn.{AllGoOn, GoOn, IsEarlier}
use Rattle.mus_marks.proofs.Inside.{HasEvent, HasMeasures, measure_at, there}
use Rattle.law_marks_in_range.proofs.Between.{AreBetween, IsBetween, both}

-- ---- the arcs of a voice

-- an arc goes from an event to one with a greater id, in the same measure or a later one
abbrev pub GoesOn : Arc → Type 0
GoesOn a = (a.first < a.last) × (a.from ≤ a.to)

-- events with ids that count from n on, in measures from number m on
abbrev AreNumbered : ℕ → ℕ → List ArcEvent → Type 0
AreNumbered n m [] = Unit {0}
AreNumbered n m (e ∷ es) = (e.event ≡ n) × (m ≤ e.measure) × AreNumbered (suc n) e.measure es

sooner : (n k m : ℕ) (es : List ArcEvent) → k ≤ m → AreNumbered n m es → AreNumbered n k es
sooner n k m [] le h = tt
sooner n k m (e ∷ es) le h = let from = h.1 in (h.0, omega (arith, le, from), h.2)

body_numbered : (number n : ℕ) (fs more : List Flat) (events : List ArcEvent)
    → ((k : ℕ) → AreCounted k more → AreNumbered k number events) → AreCounted n (fs ++ more)
    → AreNumbered n number (map (at_measure number) (map (λ f. f.event) fs) ++ events)
body_numbered number n [] more events on h = on n h
body_numbered number n (f ∷ fs) more events on h =
    (h.0, omega arith, body_numbered number (suc n) fs more events on h.1)

measures_numbered : (number : ℕ) (measures : List Measure) (n : ℕ)
    → AreCounted n (events_of measures) → AreNumbered n number (events_from number measures)
measures_numbered number [] n h = tt
measures_numbered number (m ∷ ms) n h =
    body_numbered number n (flats_of m.body) (events_of ms) (events_from (suc number) ms)
    (λ k count.
    sooner k number (suc number) (events_from (suc number) ms) (omega arith)
    (measures_numbered (suc number) ms k count))
    h

-- an event after another, and an end at an event or after it
abbrev IsAfter : ArcEvent → ArcEvent → Type 0
IsAfter e x = (e.event < x.event) × (e.measure ≤ x.measure)

abbrev EndsFrom : ArcEvent → SlurEnd → Type 0
EndsFrom e end = (e.event ≤ end.event) × (e.measure ≤ end.measure)

following : (e : ArcEvent) (n m : ℕ) (es : List ArcEvent)
    → e.event < n → e.measure ≤ m → AreNumbered n m es → AllByRecursion (IsAfter e) es
following e n m [] less from h = tt
following e n m (x ∷ xs) less from h =
    let own = h.0 in
    let on = h.1 in (
      (omega (arith, own, less), omega (arith, on, from)),
      following e (suc n) x.measure xs (omega (arith, less)) (omega (arith, on, from)) h.2,
    )

copies_are : (P : SlurEnd → Type 0) (n : ℕ) (at : SlurEnd) → P at → AllByRecursion P (slur_copies n at)
copies_are P zero at h = tt
copies_are P (suc n) at h = (h, copies_are P n at h)

ends_from : (e : ArcEvent) (es : List ArcEvent)
    → AllByRecursion (IsAfter e) es → AllByRecursion (EndsFrom e) (open_ends es)
ends_from e [] h = tt
ends_from e (x ∷ xs) h =
    let less = h.0.0 in
    all_drop (EndsFrom e) x.begins (slur_copies x.ends (spot x) ++ open_ends xs)
    (all_append (EndsFrom e) (slur_copies x.ends (spot x)) (open_ends xs)
    (copies_are (EndsFrom e) x.ends (spot x) (omega (arith, less), h.0.1)) (ends_from e xs h.1))

later : (m n : ℕ) → m ≤ n → (m == n) ≡ false → m < n
later m n h e = grind (arith, nat_tests)

no_arc_if : (c : Bool) (a : Arc) → (c ≡ false → GoesOn a) → AllByRecursion GoesOn (if c then [] else a ∷ [])
no_arc_if true a h = tt
no_arc_if false a h = (h refl, tt)

slur_goes : (e : ArcEvent) (end : SlurEnd) → EndsFrom e end → AllByRecursion GoesOn (slur (spot e) end)
slur_goes e end h = no_arc_if (e.event == end.event) _ (λ apart. (later e.event end.event h.0 apart, h.1))

slurs_go : (e : ArcEvent) (n : ℕ) (ends : List SlurEnd)
    → AllByRecursion (EndsFrom e) ends → AllByRecursion GoesOn (slurs (slur_copies n (spot e)) ends)
slurs_go e zero ends h = tt
slurs_go e (suc n) [] h = tt
slurs_go e (suc n) (end ∷ ends) h =
    all_append GoesOn (slur (spot e) end) (slurs (slur_copies n (spot e)) ends) (slur_goes e end h.0)
    (slurs_go e n ends h.1)

turned : (arcs : List Arc) → AllByRecursion GoesOn arcs → AllByRecursion GoesOn (reverse arcs)
turned arcs h =
    recursion_from_All GoesOn (reverse arcs)
    (All-permutation GoesOn arcs (reverse arcs) (IsPermutation-reverse arcs) (All-from_recursion GoesOn arcs h))

slurs_at_go : (e : ArcEvent) (es : List ArcEvent)
    → AllByRecursion (IsAfter e) es → AllByRecursion GoesOn (slurs_at e es)
slurs_at_go e es h =
    turned (slurs (slur_copies e.begins (spot e)) (slur_copies e.ends (spot e) ++ open_ends es))
    (slurs_go e e.begins (slur_copies e.ends (spot e) ++ open_ends es)
    (all_append (EndsFrom e) (slur_copies e.ends (spot e)) (open_ends es)
    (copies_are (EndsFrom e) e.ends (spot e) (omega arith, omega arith)) (ends_from e es h)))

arc_if : (c : Bool) (a : Arc) → GoesOn a → AllByRecursion GoesOn (if c then a ∷ [] else [])
arc_if true a h = (h, tt)
arc_if false a h = tt

ties_go : (e : ArcEvent) (place : ℕ) (heads : List Head) (next : ArcEvent)
    → IsAfter e next → AllByRecursion GoesOn (ties_from e place heads next)
ties_go e place [] next h = tt
ties_go e place (head ∷ heads) next h =
    let arc : Arc =
    record { tie = true; first = e.event; last = next.event; head = place; from = e.measure; to = next.measure } in
    all_append GoesOn (tie e place head next) (ties_from e (suc place) heads next)
    (arc_if (head.tied && list_any (has_pitch head.pitch) next.heads) arc h) (ties_go e (suc place) heads next h)

ties_at_go : (e : ArcEvent) (es : List ArcEvent) → AllByRecursion (IsAfter e) es → AllByRecursion GoesOn (ties_at e es)
ties_at_go e [] h = tt
ties_at_go e (next ∷ es) h = ties_go e 0 e.heads next h.0

arcs_go : (n m : ℕ) (es : List ArcEvent) → AreNumbered n m es → AllByRecursion GoesOn (arcs_of es)
arcs_go n m [] h = tt
arcs_go n m (e ∷ es) h =
    let own = h.0 in
    let after = following e (suc n) e.measure es (omega (arith, own)) (omega arith) h.2 in
    all_append GoesOn (slurs_at e es ++ ties_at e es) (arcs_of es)
    (all_append GoesOn (slurs_at e es) (ties_at e es) (slurs_at_go e es after) (ties_at_go e es after))
    (arcs_go (suc n) e.measure es h.2)

pub voice_arcs_go : (v : Voice) → IsGoodVoice v → AllByRecursion GoesOn (drawn_voice v).arcs
unfolding drawn_voice
voice_arcs_go v good = arcs_go 0 0 (events_of_voice v) (measures_numbered 0 v.measures 0 good.ids)

-- ---- the events at an arc's ends
same_number : (m n : ℕ) → (m == n) ≡ true → m ≡ n
same_number m n h = grind (arith, nat_tests)

found : (id : ℕ) (es : List DrawnEvent) (e : DrawnEvent)
    → find (has_id id) es ≡ Some e → Contains es e × (e.flat.event.id ≡ id)
found id [] e h = absurd (none-some e h)
found id (x ∷ xs) e h = by (has_id id x) refl h (found id xs e)
  where
    by : (c : Bool) → has_id id x ≡ c → (if c then Some x else find (has_id id) xs) ≡ Some e
        → (find (has_id id) xs ≡ Some e → Contains xs e × (e.flat.event.id ≡ id))
        → Contains (x ∷ xs) e × (e.flat.event.id ≡ id)
    by true is g more =
        let own : x ≡ e = same_Some x e g in
        ((0, omega arith, own), ap (λ z. z.flat.event.id) (sym own) ∙ same_number x.flat.event.id id is)
    by false is g more = let further = more g in (there e x xs further.0, further.1)

-- an event of measure m of a voice
record IsAt (ds : List DrawnMeasure) (m id : ℕ) (e : DrawnEvent) : Type 0 where
  pub measure : DrawnMeasure
  pub there : slice_get ds m ≡ Some measure
  pub within : Contains measure.events e
  pub id_is : e.flat.event.id ≡ id

is_in : (ds : List DrawnMeasure) (m id : ℕ) (o : Option DrawnMeasure) (e : DrawnEvent)
    → slice_get ds m ≡ o → event_in id o ≡ Some e → IsAt ds m id e
is_in ds m id None e there h = absurd (none-some e h)
is_in ds m id (Some d) e there h =
    let at = found id d.events e h in record { measure = d; there = there; within = at.0; id_is = at.1 }

is_at : (ds : List DrawnMeasure) (m id : ℕ) (e : DrawnEvent) → event_at ds m id ≡ Some e → IsAt ds m id e
is_at ds m id e h = is_in ds m id (slice_get ds m) e refl h

measure_of : (P : DrawnMeasure → Type 0) (ds : List DrawnMeasure) (m : ℕ) (d : DrawnMeasure)
    → AllByRecursion P ds → slice_get ds m ≡ Some d → P d
measure_of P ds m d all h =
    subst P (get_or_from_slice_get ds m d d h) (All-from_recursion P ds all m d (slice_get_within ds m d h))

event_of : (P : DrawnEvent → Type 0) (es : List DrawnEvent) (e : DrawnEvent) → AllByRecursion P es → Contains es e → P e
event_of P es e all within = All-contains P es e (All-from_recursion P es all) within

-- of two events of a measure the one with the greater id is later
in_turn : (es : List DrawnEvent) (e f : DrawnEvent)
    → GoOn es → Contains es e → Contains es f → e.flat.event.id < f.flat.event.id → e.tick < f.tick
in_turn [] e f on (i, inside, is) there less = absurd (omega (arith, inside))
in_turn (x ∷ xs) e f on (zero, inside, is) (zero, inside', is') less =
    let same : e.flat.event.id ≡ f.flat.event.id = ap (λ z. z.flat.event.id) (sym is ∙ is') in
    absurd (omega (arith, less, same))
in_turn (x ∷ xs) e f on (zero, inside, is) (suc j, inside', is') less =
    let following = event_of (IsEarlier x) xs f on.0 (j, omega (arith, inside'), is') in
    subst (λ z. z.tick < f.tick) is following.0
in_turn (x ∷ xs) e f on (suc i, inside, is) (zero, inside', is') less =
    let following = event_of (IsEarlier x) xs e on.0 (i, omega (arith, inside), is) in
    let back = subst (λ z. z.flat.event.id < e.flat.event.id) is' following.1 in
    absurd (omega (arith, less, back))
in_turn (x ∷ xs) e f on (suc i, inside, is) (suc j, inside', is') less =
    in_turn xs e f on.1 (i, omega (arith, inside), is) (j, omega (arith, inside'), is') less

-- ---- the order of their columns
notes_below : (m n : ℕ) (e f : DrawnEvent)
    → m ≤ n → (m ≡ n → e.tick < f.tick) → is_below (note_key m e) (note_key n f) ≡ true
unfolding is_below
notes_below m n e f le later = grind (arith, nat_tests, le, later)

-- ---- pieces
not_less : (m n : ℕ) → nat_lt m n ≡ false → n ≤ m
not_less m n h = grind (arith, nat_tests)

not_most : (m n : ℕ) → nat_le m n ≡ false → n < m
not_most m n h = grind (arith, nat_tests)

has_piece : (arc : Arc) (a b : ℕ) → (nat_lt arc.from b && nat_le a arc.to) ≡ true → (arc.from < b) × (a ≤ arc.to)
has_piece arc a b h = grind (arith, nat_tests)

-- facts of the columns of a system of measures a to b - 1
pub record AreColumns (keys : List ColumnKey) (lengths : List ℕ) (a b : ℕ) (ds : List DrawnMeasure) : Type 0 where
  pub order : a < b
  pub head : Contains keys (head_key a)
  pub bar : Contains keys (bar_key lengths (b - 1))
  pub measures : HasMeasures keys lengths a (slice_range ds a b)
  pub places : All (IsInSystem lengths a b) keys
  pub on : AllGoOn ds

module _ (keys : List ColumnKey) (lengths : List ℕ) (a b : ℕ) (ds : List DrawnMeasure)
    (are : AreColumns keys lengths a b ds) where
  one_of : (c : Bool) (x y : Bridge)
      → IsBetween keys x.first x.last → IsBetween keys y.first y.last → AreBetween keys ((if c then x else y) ∷ [])
  one_of true x y p q = (p, tt)
  one_of false x y p q = (q, tt)

  arc_goes : (left right : ColumnKey) (piece : Piece) (arc : Arc) (from to : ArcEndEvent)
      → IsBetween keys left right → AreBetween keys (arc_mark left right piece arc from to ∷ [])
  unfolding arc_mark slur_mark tie_mark
  arc_goes left right piece arc from to ends =
      one_of arc.tie (tie_mark left right piece arc.head from to) (slur_mark left right piece from to) ends ends

  has_note : (m id : ℕ) (e : DrawnEvent) → a ≤ m → m < b → IsAt ds m id e → Contains keys (note_key m e)
  has_note m id e from to at =
      (event_of (HasEvent keys m) at.measure.events e
      (measure_at keys lengths a b m ds at.measure are.measures from to at.there).events at.within).note

  -- an event of the system comes before its last bar
  before_last : (m id : ℕ) (e : DrawnEvent)
      → a ≤ m → m < b → IsAt ds m id e → is_below (note_key m e) (bar_key lengths (b - 1)) ≡ true
  before_last m id e from to at =
      let within =
      (All-contains (IsInSystem lengths a b) keys (note_key m e) are.places (has_note m id e from to at)).within in
      class_below m (b - 1) e.tick (slice_index lengths (b - 1)) 0 0 Class.Note Class.Bar (omega (arith, to))
      (λ same. subst (λ n. e.tick ≤ slice_index lengths n) same within) (omega arith)

  -- of two events of one measure
  same_measure : (m n first last : ℕ) (e f : DrawnEvent)
      → m ≡ n → first < last → IsAt ds m first e → IsAt ds n last f → e.tick < f.tick
  same_measure m n first last e f same less at at' =
      let one : at.measure ≡ at'.measure =
      same_Some at.measure at'.measure (sym at.there ∙ ap (λ k. slice_get ds k) same ∙ at'.there) in
      let i = at.id_is in
      let j = at'.id_is in
      in_turn at'.measure.events e f (measure_of (λ d. GoOn d.events) ds n at'.measure are.on at'.there)
      (subst (λ d. Contains d.events e) one at.within) at'.within (omega (arith, less, i, j))

  ends : (arc : Arc) (e f : DrawnEvent)
      → GoesOn arc → arc.from < b → a ≤ arc.to → IsAt ds arc.from arc.first e → IsAt ds arc.to arc.last f → (c d : Bool)
      → nat_lt arc.from a ≡ c
      → nat_le b arc.to ≡ d
      → IsBetween keys (if c then head_key a else note_key arc.from e)
      (if d then bar_key lengths (b - 1) else note_key arc.to f)
  ends arc e f on begun over at at' true true p q =
      let order = are.order in
      record {
        first = are.head;
        last = are.bar;
        rise =
            class_below a (b - 1) 0 (slice_index lengths (b - 1)) 0 0 Class.Head Class.Bar (omega (arith, order))
            (λ same. omega arith) (omega arith);
      }
  ends arc e f on begun over at at' true false p q = record {
    first = are.head;
    last = has_note arc.to arc.last f over (not_most b arc.to q) at';
    rise = class_below a arc.to 0 f.tick 0 0 Class.Head Class.Note over (λ same. omega arith) (omega arith);
  }
  ends arc e f on begun over at at' false true p q =
      let from = not_less arc.from a p in
      record {
        first = has_note arc.from arc.first e from begun at;
        last = are.bar;
        rise = before_last arc.from arc.first e from begun at;
      }
  ends arc e f on begun over at at' false false p q = record {
    first = has_note arc.from arc.first e (not_less arc.from a p) begun at;
    last = has_note arc.to arc.last f over (not_most b arc.to q) at';
    rise =
        notes_below arc.from arc.to e f on.1
        (λ same. same_measure arc.from arc.to arc.first arc.last e f same on.0 at at');
  }

  between : (arc : Arc) → GoesOn arc → arc.from < b → a ≤ arc.to → (first last : Option DrawnEvent)
      → event_at ds arc.from arc.first ≡ first
      → event_at ds arc.to arc.last ≡ last
      → AreBetween keys
      (arc_between lengths a b (record { cut_left = nat_lt arc.from a; cut_right = nat_le b arc.to }) arc first last)
  between arc on begun over None last is is' = tt
  between arc on begun over (Some e) None is is' = tt
  between arc on begun over (Some e) (Some f) is is' =
      arc_goes _ _ (record { cut_left = nat_lt arc.from a; cut_right = nat_le b arc.to }) arc (seen_of e) (seen_of f)
      (ends arc e f on begun over (is_at ds arc.from arc.first e is) (is_at ds arc.to arc.last f is')
      (nat_lt arc.from a) (nat_le b arc.to) refl refl)

  piece_goes : (arc : Arc) → GoesOn arc → AreBetween keys (arc_in lengths a b ds arc)
  unfolding piece_of
  piece_goes arc on = by (nat_lt arc.from b && nat_le a arc.to) refl
    where
      by : (c : Bool) → (nat_lt arc.from b && nat_le a arc.to) ≡ c
          → AreBetween keys
          (piece_between lengths a b ds arc
          (if c then Some (record { cut_left = nat_lt arc.from a; cut_right = nat_le b arc.to }) else None))
      by true is =
          let has = has_piece arc a b is in
          between arc on has.0 has.1 (event_at ds arc.from arc.first) (event_at ds arc.to arc.last) refl refl
      by false is = tt

  pub arcs_go_on : (arcs : List Arc) → AllByRecursion GoesOn arcs → AreBetween keys (arcs_between lengths a b ds arcs)
  arcs_go_on [] on = tt
  arcs_go_on (arc ∷ arcs) on =
      both keys (arc_in lengths a b ds arc) (arcs_between lengths a b ds arcs) (piece_goes arc on.0)
      (arcs_go_on arcs on.1)
