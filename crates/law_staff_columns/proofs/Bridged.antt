-- What the bridges of a voice say at a rank: beams say nothing, and no slur bulges as a tie does; a tie gives the
-- height of its last head.
use Rattle.std.proofs.Common.{◌≡◌, refl, ap, ◌∙◌, ℕ, zero, suc, ◌+◌, List, [], ◌∷◌, ◌++◌, append-nil, Bool, true, false}
use Rattle.std.proofs.Common.{◌&&◌, ◌||◌, cond, arith}
use Rattle.std.proofs.lemmas.Int.{ints, clamps}
use Rattle.std.proofs.lemmas.List.Folds.{flat_map-map}
use Rattle.std.proofs.lemmas.Grind.{flat_map-append}
use Rattle.std.specs.Prelude.{ℤ, ◌-ℤ◌, if◌then◌else◌, Option, Some, slice_get, filter, flat_map}
use Rattle.std.specs.List.{AllByRecursion, find, list_any}
use Rattle.mus_units.specs.declared.note.Head.{Head}
use Rattle.mus_units.specs.declared.pitch.Clef.{Clef}
use Rattle.mus_units.specs.declared.pitch.Pitch.{Pitch}
use Rattle.mus_score.specs.declared.score.Event.{Event}
use Rattle.mus_score.specs.GoodScore.{IsInReach}
use Rattle.mus_onsets.specs.declared.keys.ColumnKey.{ColumnKey}
use Rattle.mus_arcs.specs.declared.cutting.Piece.{Piece}
use Rattle.mus_arcs.specs.declared.events.ArcEvent.{ArcEvent}
use Rattle.mus_arcs.specs.declared.pairing.Arc.{Arc}
use Rattle.mus_arcs.specs.Arcs.{has_pitch, tie, ties_from}
use Rattle.mus_arcs.specs.Pieces.{piece_of}
use Rattle.mus_laid.specs.declared.drawn.Bridge.{Bridge}
use Rattle.mus_laid.specs.Ranked.{bridge_at}
use Rattle.mus_ink.specs.Drawing.{cut_dy, steps_dy}
use Rattle.mus_ink.specs.Graces.{grace_beam, group_of}
use Rattle.mus_ink.specs.Notes.{dy_of}
use Rattle.mus_words.specs.Arcs.{arc_mark, beside_head, slur_mark, tie_bulge, tie_dy}
use Rattle.mus_drawn.specs.declared.drawn.{DrawnEvent.DrawnEvent, DrawnMeasure.DrawnMeasure, DrawnVoice.DrawnVoice}
use Rattle.mus_bridges.specs.Arcs.{arc_between, arc_in, arcs_between, piece_between}
use Rattle.mus_bridges.specs.Beams.{beam_marks, beams_at, beams_from, level_from, levels_from}
use Rattle.mus_bridges.specs.declared.stems.BeamStem.{BeamStem}
use Rattle.mus_bridges.specs.Bridges.{beam_over, beams_between, bridges_of, event_grace_beam, grace_beams_between}
use Rattle.mus_slots.specs.Staff.{bridges_at}
use Rattle.mus_slots.specs.Voice.{slots_of_voices}
use Rattle.ps_heard.specs.Columns.{bulges_as_tie}
use Rattle.law_voice_sound.specs.Columns.{height_if, tie_heights}
use Rattle.law_staff_columns.specs.Ranked.{tied_at, tie_ends_at}

module _ (keys : List ColumnKey) (r : ℕ) where
  abbrev pub ends : Bridge → List ℤ
  ends b = tied_at r (bridge_at keys b).mark

  -- ---- beams
  unless : (b : Bool) (x : Bridge) → ends x ≡ [] → flat_map ends (if b then [] else x ∷ []) ≡ []
  unless b x none = grind (arith, append-nil, none)

  levels : (k n : ℕ) (p : BeamStem) (qs : List BeamStem) → flat_map ends (levels_from k n p qs) ≡ []
  unfolding level_from
  levels k zero p qs = refl
  levels k (suc n) p qs = simp (flat_map-append, unless, levels (k + 1) n p qs)

  beams : (group flags : ℕ) (ps : List BeamStem) → flat_map ends (beams_from group flags ps) ≡ []
  unfolding beams_at
  beams group flags [] = refl
  beams group flags (p ∷ ps) = simp (flat_map-append, levels, beams p.group p.flags ps)

  all_beams : (m : ℕ) (ds : List DrawnMeasure) → flat_map ends (beams_between m ds) ≡ []
  unfolding beam_marks
  all_beams m [] = refl
  all_beams m (d ∷ ds) = simp (flat_map-append, beams, all_beams (m + 1) ds)

  grace_over : (m : ℕ) (e : DrawnEvent) (gs : List Event) → flat_map ends (beam_over m e gs) ≡ []
  unfolding grace_beam
  grace_over m e [] = refl
  grace_over m e (g ∷ gs) = unless (group_of e.clef e.flat.graces e.flat.slash).alone _ refl

  event_graces : (m : ℕ) (es : List DrawnEvent) → flat_map ends (flat_map (event_grace_beam m) es) ≡ []
  event_graces m [] = refl
  event_graces m (e ∷ es) = simp (flat_map-append, grace_over, event_graces m es)

  all_graces : (m : ℕ) (ds : List DrawnMeasure) → flat_map ends (grace_beams_between m ds) ≡ []
  all_graces m [] = refl
  all_graces m (d ∷ ds) = simp (flat_map-append, event_graces, all_graces (m + 1) ds)

  -- ---- slurs
  module _ (lengths : List ℕ) (a b : ℕ) (ds : List DrawnMeasure) where
    abbrev pub arc_ends : Arc → List ℤ
    arc_ends x = flat_map ends (arc_in lengths a b ds x)

    slur_between : (piece : Piece) (x : Arc)
        → x.tie ≡ false → (e f : Option DrawnEvent) → flat_map ends (arc_between lengths a b piece x e f) ≡ []
    unfolding arc_mark slur_mark
    slur_between piece x slur e f = grind (arith, slur)

    slur_piece : (piece : Option Piece) (x : Arc)
        → x.tie ≡ false → flat_map ends (piece_between lengths a b ds x piece) ≡ []
    slur_piece piece x slur = grind (arith, slur_between, slur)

    arcs_known : (xs : List Arc)
        → flat_map ends (arcs_between lengths a b ds xs) ≡ flat_map arc_ends (filter (λ x. x.tie) xs)
    arcs_known [] = refl
    arcs_known (x ∷ xs) =
        let slur = slur_piece (piece_of x a b) x in
        let more = arcs_known xs in
        flat_map-append ends (arc_in lengths a b ds x) (arcs_between lengths a b ds xs) ∙ grind (arith, slur, more)

  pub bridges_known : (lengths : List ℕ) (a b : ℕ) (v : DrawnVoice)
      → tie_ends_at (bridges_at keys (slots_of_voices 0 lengths a b (v ∷ []))) r
      ≡ flat_map (arc_ends lengths a b v.measures) (filter (λ x. x.tie) v.arcs)
  bridges_known lengths a b v =
      flat_map-map (λ l. tied_at r l.mark) (bridge_at keys) (bridges_of lengths a b v ++ [])
      ∙ simp (append-nil, flat_map-append, all_beams, all_graces, arcs_known lengths a b v.measures v.arcs)

-- ---- the height that a tie gives: it ends 400 from its head, which is in reach
tie_back : (up : Bool) (c : Clef) (h : Head) → IsInReach c h → beside_head up (dy_of c h) -ℤ tie_bulge up ≡ dy_of c h
unfolding beside_head cut_dy dy_of steps_dy
tie_back true c h near = omega (arith, ints, clamps, near.0, near.1)
tie_back false c h near = omega (arith, ints, clamps, near.0, near.1)

height_known : (up : Bool) (c : Clef) (p : Pitch) (hs : List Head) → AllByRecursion (IsInReach c) hs
    → (if list_any (has_pitch p) hs then (tie_dy up c (find (has_pitch p) hs) -ℤ tie_bulge up) ∷ [] else [])
    ≡ height_if c (find (has_pitch p) hs)
height_known up c p [] near = refl
height_known up c p (h ∷ hs) near = by (has_pitch p h) (height_known up c p hs near.1)
  where
    by : (b : Bool)
        → (if list_any (has_pitch p) hs then (tie_dy up c (find (has_pitch p) hs) -ℤ tie_bulge up) ∷ [] else [])
        ≡ height_if c (find (has_pitch p) hs)
        → (if b || list_any (has_pitch p) hs
        then (tie_dy up c (cond b (Some h) (find (has_pitch p) hs)) -ℤ tie_bulge up) ∷ []
        else [])
        ≡ height_if c (cond b (Some h) (find (has_pitch p) hs))
    by true more = ap (λ z. z ∷ []) (tie_back up c h near.0)
    by false more = more

pub is_tie_bulge : (up : Bool) → bulges_as_tie (tie_bulge up) ≡ true
is_tie_bulge up = grind arith

-- ---- the ties from one event to the next, one for each tied head that has its pitch there
abbrev pub tie_to : ArcEvent → ArcEvent → ℕ → Arc
tie_to e next k =
    record { tie = true; first = e.event; last = next.event; head = k; from = e.measure; to = next.measure }

module _ (f : Arc → List ℤ) (e next : ArcEvent) where
  of_head : (k : ℕ) (z : ℤ) (t b : Bool)
      → f (tie_to e next k) ≡ z ∷ []
      → flat_map f (if t && b then tie_to e next k ∷ [] else []) ≡ (if t then if b then z ∷ [] else [] else [])
  of_head k z t b known = grind (arith, append-nil, known)

  pub ties_here : (up : Bool) (k : ℕ) (c : Clef) (hs : List Head) → AllByRecursion (IsInReach c) next.heads
      → ((i n : ℕ) (h : Head) → n ≡ i + k → slice_get hs i ≡ Some h
      → f (tie_to e next n) ≡ (tie_dy up c (find (has_pitch h.pitch) next.heads) -ℤ tie_bulge up) ∷ [])
      → flat_map f (ties_from e k hs next) ≡ tie_heights c hs next.heads
  ties_here up k c [] near here = refl
  ties_here up k c (h ∷ hs) near here =
      let height = tie_dy up c (find (has_pitch h.pitch) next.heads) -ℤ tie_bulge up in
      flat_map-append f (tie e k h next) (ties_from e (suc k) hs next)
      ∙ rw (
        of_head k height h.tied (list_any (has_pitch h.pitch) next.heads) (here 0 k h (omega arith) refl),
        height_known up c h.pitch next.heads near,
        ties_here up (suc k) c hs near (λ i n g same. here (suc i) n g (omega (arith, same))),
      ) refl

  pub ties_elsewhere : (k : ℕ) (hs : List Head)
      → ((n : ℕ) → f (tie_to e next n) ≡ []) → flat_map f (ties_from e k hs next) ≡ []
  ties_elsewhere k [] none = refl
  ties_elsewhere k (h ∷ hs) none = grind (arith, flat_map-append, none k, ties_elsewhere (suc k) hs none)
