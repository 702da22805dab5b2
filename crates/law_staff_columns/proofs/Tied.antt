-- The ties that end in the column of each event of a voice are exactly those that come from the event before it.
use Rattle.std.proofs.Common.{◌≡◌, refl, sym, ap, ◌∙◌, ℕ, zero, suc, ◌+◌, ◌-◌, ◌<◌, ◌≤◌, ◌==◌, List, [], ◌∷◌, ◌++◌}
use Rattle.std.proofs.Common.{append-nil, Bool, true, false, ◌&&◌, inl, inr, map, take, drop, filter, subst, arith}
use Rattle.std.proofs.lemmas.Bool.{and_parts, eq-eqb, le-leb, leb-false, leb-true, lt-leb, lt-ltb, ne_eqb}
use Rattle.std.proofs.lemmas.Bool.Decides.{nat_tests}
use Rattle.std.proofs.lemmas.List.Elements.{All-contains}
use Rattle.std.proofs.lemmas.Grind.{flat_map-append}
use Rattle.std.specs.Prelude.{⊤, ℤ, ◌⊎◌, nat_le, nat_lt, if◌then◌else◌, Some, None, slice_get, slice_index, flat_map}
use Rattle.std.specs.Prelude.{Contains}
use Rattle.std.specs.List.{All}
use Rattle.mus_units.specs.declared.note.Head.{Head}
use Rattle.mus_score.specs.declared.score.Measure.{Measure}
use Rattle.mus_score.specs.declared.score.Score.{Score}
use Rattle.mus_score.specs.declared.score.Voice.{Voice}
use Rattle.mus_score.specs.Times.{flats_of}
use Rattle.mus_onsets.specs.declared.keys.Class.{Class}
use Rattle.mus_onsets.specs.declared.keys.ColumnKey.{ColumnKey}
use Rattle.mus_onsets.specs.Keys.{IsInSystem, bar_key, head_key}
use Rattle.mus_onsets.specs.Onsets.{timeline_of}
use Rattle.mus_onsets.specs.Order.{is_below, key_rank}
use Rattle.mus_onsets.proofs.Orders.{below_through}
use Rattle.mus_onsets.proofs.RankLaws.{rank_rises_more}
use Rattle.mus_arcs.specs.declared.pairing.Arc.{Arc}
use Rattle.mus_arcs.specs.Arcs.{arcs_of, ties_from, ties_of}
use Rattle.mus_arcs.specs.Events.{events_of_voice}
use Rattle.mus_arcs.specs.Pieces.{piece_of}
use Rattle.mus_arcs.proofs.RuleLaws.{arcs_of-ties_are}
use Rattle.mus_words.specs.Arcs.{arc_mark, bulges_up, tie_mark}
use Rattle.mus_drawn.specs.declared.drawn.DrawnEvent.{DrawnEvent}
use Rattle.mus_drawn.specs.declared.drawn.DrawnMeasure.{DrawnMeasure}
use Rattle.mus_drawn.specs.declared.drawn.DrawnVoice.{DrawnVoice}
use Rattle.mus_drawn.specs.declared.standing.StaffState.{StaffState}
use Rattle.mus_drawn.specs.Drawn.{staff_state_after, standing_of}
use Rattle.mus_bridges.specs.Arcs.{piece_between}
use Rattle.mus_slots.specs.Staff.{bridges_at}
use Rattle.mus_slots.specs.Voice.{slots_of_voices}
use Rattle.mus_slots.proofs.Rising.{class_below}
use Rattle.law_voice_sound.specs.Columns.{last_event, last_through, tie_heights}
use Rattle.law_staff_columns.specs.Ranked.{tie_ends_at}
use Rattle.law_staff_columns.proofs.Forms.{MeasuresDrawn, flats_in}
use Rattle.law_staff_columns.proofs.Bridged.{arc_ends, bridges_known, ends, is_tie_bulge, tie_to, ties_elsewhere}
use Rattle.law_staff_columns.proofs.Bridged.{ties_here}
use Rattle.law_staff_columns.proofs.Placed.{GoFrom, IsPlaced, Placed, all_placed}
use Rattle.law_staff_columns.proofs.Placed.{heads, key, measures_go, measures_scored, placed, scored}

-- ---- in a row of events
module _ (keys : List ColumnKey) (a b : ℕ) where
  -- where ties end at a rank: in the column of each event of the system those that come from the event before it
  abbrev pub AllTied : (ℕ → List ℤ) → List Head → List Placed → Type 0
  AllTied ties prev [] = ⊤
  AllTied ties prev (n ∷ ns) =
      (a ≤ n.measure → n.measure < b → ties (key_rank keys (key n)) ≡ tie_heights n.event.clef prev (heads n))
      × AllTied ties (heads n) ns

  pub tied_after : (ties : ℕ → List ℤ) (m : ℕ) (prev : List Head) (es : List DrawnEvent) (ns : List Placed)
      → AllTied ties prev (placed m es ++ ns) → AllTied ties (last_event prev (flats_in es)) ns
  tied_after ties m prev [] ns tied = tied
  tied_after ties m prev (e ∷ es) ns tied = tied_after ties m e.flat.event.heads es ns tied.1

  pub system_tied : (ties : ℕ → List ℤ) (k m n : ℕ) (prev : List Head) (now : StaffState) (xs : List Measure)
      (ds : List DrawnMeasure)
      → n ≡ k + m → MeasuresDrawn keys a b m now xs ds → AllTied ties prev (all_placed m ds)
      → AllTied ties (last_through prev (take k xs)) (all_placed n (drop k ds))
  system_tied ties zero m n prev now xs ds at drawn tied =
      let here : m ≡ n = omega (arith, at) in subst (λ i. AllTied ties prev (all_placed i ds)) here tied
  system_tied ties (suc k) m n prev now [] [] at drawn tied = tt
  system_tied ties (suc k) m n prev now (x ∷ xs) (d ∷ ds) at drawn tied =
      subst (λ fs. AllTied ties (last_through (last_event prev fs) (take k xs)) (all_placed n (drop k ds)))
      drawn.0.flats
      (system_tied ties k (m + 1) n _ (staff_state_after now (flats_of x.body)) xs ds (omega (arith, at)) drawn.1
      (tied_after ties m prev d.events (all_placed (m + 1) ds) tied))
  system_tied ties (suc k) m n prev now xs ds at drawn tied = absurd drawn

-- ---- the ties of a voice
module _ (keys : List ColumnKey) (lengths : List ℕ) (a b : ℕ) (ds : List DrawnMeasure)
    (places : All (IsInSystem lengths a b) keys) where
  abbrev IsEvent : Placed → Type 0
  IsEvent n = IsPlaced keys a b ds n

  abbrev IsIn : Placed → Type 0
  IsIn n = (a ≤ n.measure) × (n.measure < b)

  abbrev rank : Placed → ℕ
  rank n = key_rank keys (key n)

  abbrev known : ℕ → Arc → List ℤ
  known r = arc_ends keys r lengths a b ds

  abbrev Differ : Placed → Placed → Type 0
  Differ e n = (is_below (key e) (key n) ≡ true) ⊎ (is_below (key n) (key e) ≡ true)

  in_order : (k l : ColumnKey) → is_below k l ≡ true → k.measure ≤ l.measure
  unfolding is_below
  in_order k l below = grind (arith, nat_tests, below)

  no_same : (k l : ColumnKey) → Contains keys k → is_below k l ≡ true → key_rank keys k ≡ key_rank keys l → ⊥
  no_same k l has below same = let less = rank_rises_more keys k l below has in omega (arith, less, same)

  -- no other arc ends at an event of the system
  apart : (e n : Placed) → IsEvent e → IsEvent n → IsIn e → a ≤ n.measure → Differ e n → (cut : Bool)
      → nat_le b n.measure ≡ cut
      → (rank e == key_rank keys (if cut then bar_key lengths (b - 1) else key n)) ≡ false
  apart e n e_is n_is within from order true h =
      let has = e_is.column within.0 within.1 in let to = within.1 in
      ne_eqb _ _ (no_same (key e) (bar_key lengths (b - 1)) has
      (class_below e.measure (b - 1) e.event.tick _ 0 0 Class.Note Class.Bar (omega (arith, to))
      (λ same.
      subst (λ m. e.event.tick ≤ slice_index lengths m) same
      (All-contains (IsInSystem lengths a b) keys (key e) places has).within)
      (omega arith)))
  apart e n e_is n_is within from (inl below) false h =
      ne_eqb _ _ (no_same (key e) (key n) (e_is.column within.0 within.1) below)
  apart e n e_is n_is within from (inr below) false h =
      ne_eqb _ _ (λ same. no_same (key n) (key e) (n_is.column from (leb-false b n.measure h)) below (sym same))

  beside : (e p n : Placed)
      → IsEvent e → IsEvent p → IsEvent n → IsIn e → Differ e n
      → flat_map (known (rank e)) (ties_from (scored p) 0 (heads p) (scored n)) ≡ []
  unfolding piece_of arc_mark tie_mark
  beside e p n e_is p_is n_is within differ =
      ties_elsewhere (known (rank e)) (scored p) (scored n) 0 (heads p)
      (λ i. by i (nat_lt p.measure b && nat_le a n.measure) refl)
    where
      by : (i : ℕ) (some : Bool) → (nat_lt p.measure b && nat_le a n.measure) ≡ some
          → flat_map (ends keys (rank e))
          (piece_between lengths a b ds (tie_to (scored p) (scored n) i)
          (if some then Some (record { cut_left = nat_lt p.measure a; cut_right = nat_le b n.measure }) else None))
          ≡ []
      by i false h = refl
      by i true h =
          rw (
            p_is.found,
            n_is.found,
            apart e n e_is n_is within (leb-true a n.measure (and_parts (nat_lt p.measure b) (nat_le a n.measure) h).1)
                differ (nat_le b n.measure) refl,
          ) refl

  into : (p n : Placed) → IsEvent p → IsEvent n → IsIn n → p.measure ≤ n.measure
      → flat_map (known (rank n)) (ties_from (scored p) 0 (heads p) (scored n))
      ≡ tie_heights n.event.clef (heads p) (heads n)
  unfolding piece_of arc_mark tie_mark
  into p n p_is n_is within order =
      let up = bulges_up p.event.plan in let to = within.1 in
      ties_here (known (rank n)) (scored p) (scored n) up 0 n.event.clef (heads p) n_is.near (λ i k h same get.
      let at : slice_get (heads p) k ≡ Some h = subst (λ j. slice_get (heads p) j ≡ Some h) (omega (arith, same)) get in
      rw (
        lt-ltb p.measure b (omega (arith, order, to)),
        le-leb a n.measure within.0,
        lt-leb b n.measure to,
        p_is.found,
        n_is.found,
        at,
        eq-eqb (rank n) (rank n) refl,
        is_tie_bulge up,
      ) refl)

  -- the ties after an event end after it
  following : (e p : Placed) (ns : List Placed)
      → IsEvent e → IsEvent p → IsIn e
      → ((k : ColumnKey) → is_below (key p) k ≡ true → is_below (key e) k ≡ true)
      → GoFrom keys a b ds (key p) ns
      → flat_map (known (rank e)) (ties_of (map scored (p ∷ ns))) ≡ []
  following e p [] e_is p_is within later go = refl
  following e p (n ∷ ns) e_is p_is within later go =
      let below = later (key n) go.0.1 in
      flat_map-append (known (rank e)) (ties_from (scored p) 0 (heads p) (scored n)) (ties_of (map scored (n ∷ ns)))
      ∙ rw (
        beside e p n e_is p_is go.0.0 within (inl below),
        following e n ns e_is go.0.0 within (λ k. below_through (key e) (key n) k below) go.1,
      ) refl

  module _ (ties : ℕ → List ℤ) where
    tied_from : (p : Placed) (ns : List Placed) → IsEvent p → GoFrom keys a b ds (key p) ns
        → ((e : Placed) → IsEvent e → IsIn e → is_below (key p) (key e) ≡ true
        → ties (rank e) ≡ flat_map (known (rank e)) (ties_of (map scored (p ∷ ns))))
        → AllTied keys a b ties (heads p) ns
    tied_from p [] p_is go are = tt
    tied_from p (n ∷ ns) p_is go are =
        let first = ties_from (scored p) 0 (heads p) (scored n) in
        let more = ties_of (map scored (n ∷ ns)) in
        let below = go.0.1 in
        let n_is = go.0.0 in (
          λ from to.
              are n n_is (from, to) below ∙ flat_map-append (known (rank n)) first more
              ∙ rw (
                into p n p_is n_is (from, to) (in_order (key p) (key n) below),
                following n n ns n_is n_is (from, to) (λ k h. h) go.1,
              ) (append-nil _),
          tied_from n ns n_is go.1 (λ e e_is within later.
              are e e_is within (below_through (key p) (key n) (key e) below later)
              ∙ flat_map-append (known (rank e)) first more
              ∙ rw (beside e p n e_is p_is n_is within (inr later)) refl),
        )

    all_tied : (ns : List Placed)
        → GoFrom keys a b ds (head_key 0) ns
        → ((r : ℕ) → ties r ≡ flat_map (known r) (ties_of (map scored ns)))
        → AllTied keys a b ties [] ns
    all_tied [] go are = tt
    all_tied (n ∷ ns) go are = (
      λ from to. are (rank n) ∙ following n n ns go.0.0 go.0.0 (from, to) (λ k h. h) go.1,
      tied_from n ns go.0.0 go.1 (λ e e_is within lower. are (rank e)),
    )

-- those of a voice as it is drawn, from measure a on
pub ties_stand : (s : Score) (v : Voice) (keys : List ColumnKey) (a b : ℕ) (w : DrawnVoice)
    → w.arcs ≡ arcs_of (events_of_voice v) → All (IsInSystem (timeline_of s).lengths a b) keys
    → MeasuresDrawn keys a b 0 (standing_of v) v.measures w.measures
    → AllTied keys a b (tie_ends_at (bridges_at keys (slots_of_voices 0 (timeline_of s).lengths a b (w ∷ []))))
    (last_through [] (take a v.measures)) (all_placed a (drop a w.measures))
ties_stand s v keys a b w arcs places drawn =
    let lengths = (timeline_of s).lengths in
    let ds = w.measures in
    let ties = tie_ends_at (bridges_at keys (slots_of_voices 0 lengths a b (w ∷ []))) in
    let go = measures_go keys a b ds 0 (standing_of v) v.measures ds drawn
    (λ k n d same is. subst (λ i. slice_get ds i ≡ Some d) (omega (arith, same)) is) in
    let own = ap (filter (λ x. x.tie)) arcs
    ∙ arcs_of-ties_are (events_of_voice v)
    ∙ ap ties_of (sym (measures_scored keys a b 0 (standing_of v) v.measures ds drawn)) in
    system_tied keys a b ties a 0 a [] (standing_of v) v.measures ds (omega arith) drawn
    (all_tied keys lengths a b ds places ties (all_placed 0 ds) go
    (λ r. bridges_known keys r lengths a b w ∙ ap (flat_map (arc_ends keys r lengths a b ds)) own))
