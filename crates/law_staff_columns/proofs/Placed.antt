-- The drawn events of a voice in a row, each in its measure: each precedes the next, they are found by their ids, and
-- those of a system have columns there.
use Rattle.std.proofs.Common.{◌≡◌, refl, sym, ap, ◌∙◌, ℕ, suc, ◌+◌, ◌<◌, ◌≤◌, List, [], ◌∷◌, ◌++◌, true, cond, map}
use Rattle.std.proofs.Common.{add-one, arith}
use Rattle.std.proofs.lemmas.Bool.{eq-eqb, ne_eqb}
use Rattle.std.proofs.lemmas.List.{map-append}
use Rattle.std.specs.Prelude.{⊤, Some, slice_get}
use Rattle.std.specs.List.{AllByRecursion, Contains, find}
use Rattle.mus_units.specs.declared.note.Head.{Head}
use Rattle.mus_score.specs.declared.score.Measure.{Measure}
use Rattle.mus_score.specs.GoodScore.{IsInReach}
use Rattle.mus_score.specs.Times.{flats_of}
use Rattle.mus_onsets.specs.declared.keys.Class.{Class}
use Rattle.mus_onsets.specs.declared.keys.ColumnKey.{ColumnKey}
use Rattle.mus_onsets.specs.Keys.{head_key}
use Rattle.mus_onsets.specs.Order.{is_below}
use Rattle.mus_arcs.specs.declared.events.ArcEvent.{ArcEvent}
use Rattle.mus_arcs.specs.Events.{at_measure, events_from}
use Rattle.mus_drawn.specs.declared.drawn.DrawnEvent.{DrawnEvent}
use Rattle.mus_drawn.specs.declared.drawn.DrawnMeasure.{DrawnMeasure}
use Rattle.mus_drawn.specs.declared.standing.StaffState.{StaffState}
use Rattle.mus_drawn.specs.Drawn.{staff_state_after}
use Rattle.mus_onsets.proofs.Orders.{below_through, lower}
use Rattle.mus_slots.proofs.Rising.{class_below}
use Rattle.mus_marks.proofs.GoingOn.{later_below}
use Rattle.mus_time.specs.Columns.{note_key}
use Rattle.mus_bridges.specs.Arcs.{event_at, event_in, has_id}
use Rattle.law_staff_columns.proofs.Forms.{AreSeated, MeasuresDrawn, flats_in}

pub record Placed : Type 0 where
  pub measure : ℕ
  pub event : DrawnEvent

abbrev pub key : Placed → ColumnKey
key n = note_key n.measure n.event

abbrev pub scored : Placed → ArcEvent
scored n = at_measure n.measure n.event.flat.event

abbrev pub heads : Placed → List Head
heads n = n.event.flat.event.heads

abbrev pub placed : ℕ → List DrawnEvent → List Placed
placed m [] = []
placed m (e ∷ es) = record { measure = m; event = e } ∷ placed m es

abbrev pub all_placed : ℕ → List DrawnMeasure → List Placed
all_placed m [] = []
all_placed m (d ∷ ds) = placed m d.events ++ all_placed (m + 1) ds

module _ (keys : List ColumnKey) (a b : ℕ) where
  -- ---- in a row
  pub record IsPlaced (ds : List DrawnMeasure) (n : Placed) : Type 0 where
    pub found : event_at ds n.measure n.event.flat.event.id ≡ Some n.event
    pub column : a ≤ n.measure → n.measure < b → Contains keys (key n)
    pub near : AllByRecursion (IsInReach n.event.clef) (heads n)

  -- each is in a later column than the one before it, the first after some key
  abbrev pub GoFrom : List DrawnMeasure → ColumnKey → List Placed → Type 0
  GoFrom ds k [] = ⊤
  GoFrom ds k (n ∷ ns) = (IsPlaced ds n × (is_below k (key n) ≡ true)) × GoFrom ds (key n) ns

  go_through : (ds : List DrawnMeasure) (k l : ColumnKey) (ns : List Placed)
      → is_below k l ≡ true → GoFrom ds l ns → GoFrom ds k ns
  go_through ds k l [] below go = tt
  go_through ds k l (n ∷ ns) below go = ((go.0.0, below_through k l (key n) below go.0.1), go.1)

  events_go : (ds : List DrawnMeasure) (k : ColumnKey) (m id low : ℕ) (es : List DrawnEvent) (ns : List Placed)
      → k.measure ≤ m → ((e : DrawnEvent) → low ≤ e.tick → is_below k (note_key m e) ≡ true)
      → AreSeated keys a b m id low es → ((i : ℕ) → id ≤ i → find (has_id i) es ≡ event_at ds m i)
      → GoFrom ds (head_key (m + 1)) ns
      → GoFrom ds k (placed m es ++ ns)
  events_go ds k m id low [] ns le before seats finds go =
      go_through ds k (head_key (m + 1)) ns (lower k (head_key (m + 1)) (omega (arith, le))) go
  events_go ds k m id low (e ∷ es) ns le before seats finds go =
      let s = seats.0 in let own = e.flat.event.id in let least = s.id in
      let found = sym (finds own least) ∙ ap (λ c. cond c (Some e) (find (has_id own) es)) (eq-eqb own own refl) in (
        (record { found = found; column = s.column; near = s.heads }, before e s.tick),
        events_go ds (note_key m e) m (suc own) (suc e.tick) es ns (omega arith) (later_below m e) seats.1
            (λ i h.
            sym (ap (λ c. cond c (Some e) (find (has_id i) es)) (ne_eqb own i (λ same. omega (arith, h, same))))
            ∙ finds i (omega (arith, h, least)))
            go,
      )

  pub measures_go : (all : List DrawnMeasure) (m : ℕ) (now : StaffState) (xs : List Measure) (ds : List DrawnMeasure)
      → MeasuresDrawn keys a b m now xs ds
      → ((k n : ℕ) (d : DrawnMeasure) → n ≡ k + m → slice_get ds k ≡ Some d → slice_get all n ≡ Some d)
      → GoFrom all (head_key m) (all_placed m ds)
  measures_go all m now [] [] drawn at = tt
  measures_go all m now (x ∷ xs) (d ∷ ds) drawn at =
      events_go all (head_key m) m 0 0 d.events (all_placed (m + 1) ds) (omega arith)
      (λ e low. class_below m m 0 e.tick 0 0 Class.Head Class.Note (omega arith) (λ same. low) (omega arith))
      drawn.0.seats
      (λ i h. sym (ap (event_in i) (at 0 m d (omega arith) refl)))
      (measures_go all (m + 1) (staff_state_after now (flats_of x.body)) xs ds drawn.1
      (λ k n f same. at (suc k) n f (omega (arith, same))))
  measures_go all m now xs ds drawn at = absurd drawn

  -- ---- they are the events of the score
  events_scored : (m : ℕ) (es : List DrawnEvent)
      → map scored (placed m es) ≡ map (at_measure m) (map (λ f. f.event) (flats_in es))
  events_scored m [] = refl
  events_scored m (e ∷ es) = ap (λ t. at_measure m e.flat.event ∷ t) (events_scored m es)

  pub measures_scored : (m : ℕ) (now : StaffState) (xs : List Measure) (ds : List DrawnMeasure)
      → MeasuresDrawn keys a b m now xs ds → map scored (all_placed m ds) ≡ events_from m xs
  measures_scored m now [] [] drawn = refl
  measures_scored m now (x ∷ xs) (d ∷ ds) drawn =
      let more = measures_scored (m + 1) (staff_state_after now (flats_of x.body)) xs ds drawn.1
      ∙ ap (λ n. events_from n xs) (add-one m) in
      simp (map-append, events_scored, drawn.0.flats, more)
  measures_scored m now xs ds drawn = absurd drawn
