-- Other ends of stems change only heights: a drawn voice's marks have the shapes that they have with all ends at 0.
-- So tilted marks are those that are called for, except for their heights.
use Rattle.std.proofs.Common.{◌≡◌, ◌∙◌, ℕ, zero, suc, ℤ, pos, ◌+◌, ◌-◌, max, Bool, true, false, not, ◌&&◌, ◌||◌, ◌==◌}
use Rattle.std.proofs.Common.{nat_lt, if◌then◌else◌, cond, List, [], ◌∷◌, ◌++◌, length, map, take, drop, Option, Some}
use Rattle.std.proofs.Common.{None, refl, sym, ap, subst}
use Rattle.std.proofs.lemmas.List.{drop-map, map-append, take-map}
use Rattle.std.proofs.lemmas.Option.{slice_get-map}
use Rattle.std.proofs.lemmas.Simd.{map-map}
use Rattle.std.specs.List.{All, AllByRecursion, find, flat_map, slice_get}
use Rattle.std.specs.List.{slice_range}
use Rattle.std.specs.Option.{option_map}
use Rattle.mus_units.specs.declared.{glyph.Glyph.Glyph, note.Bar.Bar, note.Deco.Deco, note.Head.Head, pitch.Clef.Clef}
use Rattle.mus_score.specs.declared.score.Event.{Event}
use Rattle.mus_score.specs.declared.score.Score.{Score}
use Rattle.mus_score.specs.declared.score.Seat.{Seat}
use Rattle.mus_score.specs.GoodScore.{IsGoodScore}
use Rattle.mus_score.specs.Seats.{is_lower}
use Rattle.mus_onsets.specs.declared.keys.ColumnKey.{ColumnKey}
use Rattle.mus_onsets.specs.Order.{key_rank, same_key}
use Rattle.mus_onsets.specs.declared.times.Timeline.{Timeline}
use Rattle.mus_onsets.specs.Keys.{bar_key, called_keys}
use Rattle.mus_arcs.specs.declared.cutting.Piece.{Piece}
use Rattle.mus_arcs.specs.declared.pairing.Arc.{Arc}
use Rattle.mus_arcs.specs.Pieces.{piece_of}
use Rattle.mus_stems.specs.declared.plans.StemPlan.{StemPlan}
use Rattle.mus_stems.specs.Slope.{with_end}
use Rattle.mus_laid.specs.declared.drawn.Bridge.{Bridge}
use Rattle.mus_laid.specs.declared.drawn.LaneInk.{LaneInk}
use Rattle.mus_laid.specs.declared.laid.Laid.{Laid}
use Rattle.mus_laid.specs.declared.laid.SystemMarks.{SystemMarks}
use Rattle.mus_laid.specs.declared.laid.Lane.{Lane}
use Rattle.mus_laid.specs.Printed.{printed}
use Rattle.mus_laid.specs.Ranked.{bridge_at, drawn_at}
use Rattle.mus_laid.specs.Shapes.{HaveSameShapes, laid_shape, marks_shape, staff_shape}
use Rattle.mus_laid.specs.Boxes.{AreGoodMarks}
use Rattle.mus_ink.specs.Bars.{bar_marks}
use Rattle.mus_ink.specs.Graces.{group_of}
use Rattle.mus_ink.specs.Decos.{after_deco, body_marks, deco_mark, deco_marks, first_deco, next_deco, note_marks}
use Rattle.mus_ink.specs.Decos.{top_of}
use Rattle.mus_ink.specs.Distances.{half_character}
use Rattle.mus_ink.specs.Drawing.{back, beam, glyph, loose_glyph}
use Rattle.mus_ink.specs.Kinds.{deco_glyph, flag_glyph, stub_glyph}
use Rattle.mus_ink.specs.Notes.{heads_marks}
use Rattle.mus_ink.specs.Stems.{flag_dy, flag_marks, flags_or_stubs, lower_edge, stem_dx, stem_if, stem_marks}
use Rattle.mus_ink.specs.Stems.{stub_marks}
use Rattle.mus_words.specs.declared.texts.TextPlace.{TextPlace}
use Rattle.mus_words.specs.Arcs.{arc_mark, slur_mark, tie_mark}
use Rattle.mus_words.specs.Syllables.{syllable_dx, syllable_if, syllables_from, verse_dy}
use Rattle.mus_words.specs.Texts.{above_dy, above_from, below_dy, below_from}
use Rattle.mus_words.specs.Words.{words}
use Rattle.mus_drawn.specs.declared.drawn.DrawnEvent.{DrawnEvent}
use Rattle.mus_drawn.specs.declared.drawn.DrawnMeasure.{DrawnMeasure}
use Rattle.mus_drawn.specs.declared.drawn.DrawnVoice.{DrawnVoice}
use Rattle.mus_drawn.specs.Drawn.{raise_of}
use Rattle.mus_bridges.specs.declared.stems.BeamStem.{BeamStem}
use Rattle.mus_bridges.specs.Beams.{beam_marks, beams_at, beams_from, goes_on_at_level, last_at, level_from}
use Rattle.mus_bridges.specs.Beams.{levels_before, levels_from, stem_of, way_of}
use Rattle.mus_bridges.specs.Arcs.{arc_between, arc_in, arcs_between, event_at, event_in, has_id, left_key}
use Rattle.mus_bridges.specs.Arcs.{piece_between, right_key, seen_of}
use Rattle.mus_bridges.specs.Bridges.{beams_between, bridges_of, event_grace_beam, grace_beams_between, beam_stem_at}
use Rattle.mus_slots.proofs.Marks.{FitsVoice}
use Rattle.mus_slots.specs.declared.slots.Slot.{Slot}
use Rattle.mus_slots.specs.declared.slots.VoiceSlots.{VoiceSlots}
use Rattle.mus_slots.specs.declared.slots.Written.{Written}
use Rattle.mus_slots.specs.Staff.{all_slots, bare_laid, column_at, column_marks, column_slots, place_after}
use Rattle.mus_slots.specs.Staff.{place_outside, slots_at, staff_laid, written_marks}
use Rattle.mus_slots.specs.Voice.{change_slots, columns_slots, event_slots, events_slots, first_slots, grace_slots}
use Rattle.mus_slots.specs.Voice.{head_slots, levels_after, levels_in, measures_slots, note_slot, slot_if}
use Rattle.mus_slots.specs.Voice.{slots_of_voices, voice_slots}
use Rattle.mus_marks.specs.Staff.{staff_marks, staff_over, verses_on}
use Rattle.mus_marks.specs.System.{IsCall, drawn_staves}
use Rattle.mus_marks.specs.Tilt.{IsTilted, tilted_staff, voice_tilted}
use Rattle.mus_marks.proofs.Ending.{flat_event, flat_measure, ended_fits, flat_voice}
use Rattle.mus_marks.proofs.Fitting.{staves_fit}
use Rattle.mus_marks.proofs.OneList.{same_keys}
use Rattle.mus_marks.proofs.GoodMarks.{staves_good}
use Rattle.mus_laid.specs.declared.laid.Lane.TheVariants as lanes

joined : {X Y : Type 0} (f : X → Y) (xs ys us vs : List X)
    → map f xs ≡ map f us → map f ys ≡ map f vs → map f (xs ++ ys) ≡ map f (us ++ vs)
joined f xs ys us vs p q =
    map-append f xs ys ∙ ap (λ t. t ++ map f ys) p ∙ ap (λ t. map f us ++ t) q ∙ sym (map-append f us vs)

either : {X Y : Type 0} (f : X → Y) (b : Bool) (xs ys us vs : List X)
    → map f xs ≡ map f us → map f ys ≡ map f vs → map f (if b then xs else ys) ≡ map f (if b then us else vs)
either f true xs ys us vs p q = p
either f false xs ys us vs p q = q

-- ---- what is drawn in a column of rank r
module _ (r : ℕ) where
  abbrev shape : LaneInk → Laid
  shape d = laid_shape (drawn_at r d)

  ranked : (xs ys : List LaneInk)
      → map shape xs ≡ map shape ys → marks_shape (map (drawn_at r) xs) ≡ marks_shape (map (drawn_at r) ys)
  ranked xs ys e = map-map laid_shape (drawn_at r) xs ∙ e ∙ sym (map-map laid_shape (drawn_at r) ys)

  flags : (up : Bool) (y z : ℤ) (k n : ℕ) → map shape (flag_marks up y k n) ≡ map shape (flag_marks up z k n)
  flags up y z k zero = refl
  flags up y z k (suc n) =
      ap (λ t. shape (glyph (flag_glyph up) (stem_dx up) (flag_dy up y k)) ∷ t) (flags up y z (k + 1) n)

  stubs : (first up : Bool) (y z : ℤ) (k n : ℕ)
      → map shape (stub_marks first up y k n) ≡ map shape (stub_marks first up z k n)
  stubs first up y z k zero = refl
  stubs first up y z k (suc n) =
      ap (λ t. shape (loose_glyph (stub_glyph first) (stem_dx up) (lower_edge up y k)) ∷ t)
      (stubs first up y z (k + 1) n)

  stem : (has up : Bool) (from y z : ℤ) → map shape (stem_if has up from y) ≡ map shape (stem_if has up from z)
  stem true up from y z = refl
  stem false up from y z = refl

  stems : (p : StemPlan) (to : ℤ) (before after : ℕ)
      → map shape (stem_marks p before after) ≡ map shape (stem_marks (with_end p to) before after)
  unfolding stem_marks flags_or_stubs
  stems p to before after =
      joined shape (stem_if p.has p.up p.from p.to) _ (stem_if p.has p.up p.from to) _ (stem p.has p.up p.from p.to to)
      (either shape ((before == 0) && (after == 0)) (flag_marks p.up p.to 0 p.flags)
      (stub_marks (before == 0) p.up p.to (max before after) (p.flags - max before after)) _ _
      (flags p.up p.to to 0 p.flags) (stubs (before == 0) p.up p.to to (max before after) (p.flags - max before after)))

  decos : (y z : ℤ) (ds : List Deco) → map shape (deco_marks y ds) ≡ map shape (deco_marks z ds)
  decos y z [] = refl
  decos y z (d ∷ ds) = by (deco_glyph d) (λ y z. decos y z ds)
    where
      by : (g : Option Glyph) → ((y z : ℤ) → map shape (deco_marks y ds) ≡ map shape (deco_marks z ds))
          → map shape (deco_mark y g ++ deco_marks (after_deco y g) ds)
          ≡ map shape (deco_mark z g ++ deco_marks (after_deco z g) ds)
      by None more = more y z
      by (Some g) more = ap (λ t. shape (glyph g (pos 0) y) ∷ t) (more (next_deco y) (next_deco z))

  body : (c : Clef) (raise : ℤ) (hs : List Head) (e : Event) (p : StemPlan) (to : ℤ) (before after : ℕ)
      → map shape (body_marks c raise hs e p before after)
      ≡ map shape (body_marks c raise hs e (with_end p to) before after)
  unfolding heads_marks
  body c raise [] e p to before after = refl
  body c raise (h ∷ hs) e p to before after =
      joined shape (heads_marks c e.value.base (h ∷ hs) p) (stem_marks p before after)
      (heads_marks c e.value.base (h ∷ hs) p) (stem_marks (with_end p to) before after) refl (stems p to before after)

  note : (c : Clef) (raise : ℤ) (e : Event) (p : StemPlan) (to : ℤ) (before after : ℕ)
      → map shape (note_marks c raise e p before after) ≡ map shape (note_marks c raise e (with_end p to) before after)
  unfolding note_marks
  note c raise e p to before after =
      joined shape (body_marks c raise e.heads e p before after) (deco_marks (first_deco (top_of c e.heads p)) e.decos)
      (body_marks c raise e.heads e (with_end p to) before after) _
      (body c raise e.heads e p to before after) (decos _ _ e.decos)

  -- syllables and texts, in any room
  syllable_of : (y z : ℤ) (n : ℕ) (w : Option (List ℕ)) → map shape (syllable_if y n w) ≡ map shape (syllable_if z n w)
  syllable_of y z n None = refl
  syllable_of y z n (Some t) =
      either shape (length (printed t) == 0) []
      (words (Lane.Verse n) (syllable_dx (length (printed t))) (verse_dy y n) (printed t) ∷ []) [] _ refl refl

  syllables : (y z : ℤ) (n : ℕ) (ws : List (Option (List ℕ)))
      → map shape (syllables_from y n ws) ≡ map shape (syllables_from z n ws)
  syllables y z n [] = refl
  syllables y z n (w ∷ ws) =
      joined shape (syllable_if y n w) _ (syllable_if z n w) _ (syllable_of y z n w) (syllables y z (n + 1) ws)

  aboves : (y z : ℤ) (j k : ℕ) (ts : List (List ℕ)) → map shape (above_from y j ts) ≡ map shape (above_from z k ts)
  aboves y z j k [] = refl
  aboves y z j k (t ∷ ts) =
      ap (λ u. shape (words Lane.Above (back half_character) (above_dy y j) t) ∷ u) (aboves y z (j + 1) (k + 1) ts)

  belows : (y z : ℤ) (n o j k : ℕ) (ts : List (List ℕ))
      → map shape (below_from y n j ts) ≡ map shape (below_from z o k ts)
  belows y z n o j k [] = refl
  belows y z n o j k (t ∷ ts) =
      ap (λ u. shape (words lanes.Below (back half_character) (below_dy y n j) t) ∷ u)
      (belows y z n o (j + 1) (k + 1) ts)

  written : (p q : TextPlace) (w : Written) → map shape (written_marks p w) ≡ map shape (written_marks q w)
  written p q w =
      joined shape (syllables_from p.low w.first w.syllables)
      (above_from p.high p.above w.above ++ below_from p.low p.verses p.below w.below)
      (syllables_from q.low w.first w.syllables) _ (syllables p.low q.low w.first w.syllables)
      (joined shape (above_from p.high p.above w.above) (below_from p.low p.verses p.below w.below)
      (above_from q.high q.above w.above) _ (aboves p.high q.high p.above q.above w.above)
      (belows p.low q.low p.verses q.verses p.below q.below w.below))

-- ---- slots of one shape, in the same columns and with the same words
record IsAlike (s u : Slot) : Type 0 where
  key : s.key ≡ u.key
  words : s.written ≡ u.written
  drawn : (r : ℕ) → map (shape r) s.drawn ≡ map (shape r) u.drawn

abbrev AreAlike : List Slot → List Slot → Type 0
AreAlike [] [] = Unit {0}
AreAlike (s ∷ ss) (u ∷ us) = IsAlike s u × AreAlike ss us
AreAlike ss us = ⊥

alike_join : (xs us ys vs : List Slot) → AreAlike xs us → AreAlike ys vs → AreAlike (xs ++ ys) (us ++ vs)
alike_join [] [] ys vs p q = q
alike_join (x ∷ xs) (u ∷ us) ys vs p q = (p.0, alike_join xs us ys vs p.1 q)
alike_join [] (u ∷ us) ys vs p q = absurd p
alike_join (x ∷ xs) [] ys vs p q = absurd p

alike_self : (ss : List Slot) → AreAlike ss ss
alike_self [] = tt
alike_self (s ∷ ss) = (record { key = refl; words = refl; drawn = λ r. refl }, alike_self ss)

module _ (first : ℕ) where
  event : (m : ℕ) (in_head : Bool) (before after : ℕ) (e : DrawnEvent)
      → AreAlike (event_slots first m in_head before after e) (event_slots first m in_head before after (flat_event e))
  event m in_head before after e =
      let other = change_slots m (in_head || is_lower e.seat) e
      ++ grace_slots m e.tick e.clef (group_of e.clef e.flat.graces e.flat.slash) 0 e.flat.graces in
      alike_join other other (note_slot first m before after e ∷ [])
      (note_slot first m before after (flat_event e) ∷ []) (alike_self other) (
        record {
          key = refl;
          words = refl;
          drawn = λ r. note r e.clef (raise_of e.seat) e.flat.event e.plan (pos 0) before after;
        },
        tt,
      )

  following : (p : StemPlan) (es : List DrawnEvent)
      → levels_after p es ≡ levels_after (with_end p (pos 0)) (map flat_event es)
  following p [] = refl
  following p (e ∷ es) = refl

  events : (m : ℕ) (in_head : Bool) (group flags : ℕ) (es : List DrawnEvent)
      → AreAlike (events_slots first m in_head group flags es)
      (events_slots first m in_head group flags (map flat_event es))
  events m in_head group flags [] = tt
  events m in_head group flags (e ∷ es) =
      let before = levels_in e.plan group flags in
      alike_join (event_slots first m in_head before (levels_after e.plan es) e)
      (event_slots first m in_head before (levels_after (with_end e.plan (pos 0)) (map flat_event es)) (flat_event e))
      (events_slots first m false e.plan.group e.plan.flags es)
      (events_slots first m false e.plan.group e.plan.flags (map flat_event es))
      (subst (λ n.
      AreAlike (event_slots first m in_head before (levels_after e.plan es) e)
      (event_slots first m in_head before n (flat_event e)))
      (following e.plan es)
      (event m in_head before (levels_after e.plan es) e))
      (events m false e.plan.group e.plan.flags es)

  measures : (lengths : List ℕ) (m : ℕ) (in_head : Bool) (ds : List DrawnMeasure)
      → AreAlike (measures_slots first lengths m in_head ds)
      (measures_slots first lengths m in_head (map flat_measure ds))
  measures lengths m in_head [] = tt
  measures lengths m in_head (d ∷ ds) =
      let bar = slot_if (not (is_lower d.seat)) (bar_key lengths m) (bar_marks d.bar) in
      alike_join (events_slots first m in_head 0 0 d.events ++ bar)
      (events_slots first m in_head 0 0 (map flat_event d.events) ++ bar)
      (measures_slots first lengths (m + 1) false ds) (measures_slots first lengths (m + 1) false (map flat_measure ds))
      (alike_join (events_slots first m in_head 0 0 d.events)
      (events_slots first m in_head 0 0 (map flat_event d.events)) bar bar (events m in_head 0 0 d.events)
      (alike_self bar))
      (measures lengths (m + 1) false ds)

  head : (a : ℕ) (ds : List DrawnMeasure) → AreAlike (head_slots a ds) (head_slots a (map flat_measure ds))
  head a [] = tt
  head a (d ∷ ds) = alike_self (head_slots a (d ∷ []))

  columns : (lengths : List ℕ) (a : ℕ) (seat : Seat) (bar : Bar) (ds : List DrawnMeasure)
      → AreAlike (columns_slots first lengths a seat bar ds)
      (columns_slots first lengths a seat bar (map flat_measure ds))
  columns lengths a seat bar ds =
      let start = first_slots a seat bar in
      alike_join (head_slots a ds ++ start) (head_slots a (map flat_measure ds) ++ start)
      (measures_slots first lengths a true ds) (measures_slots first lengths a true (map flat_measure ds))
      (alike_join (head_slots a ds) (head_slots a (map flat_measure ds)) start start (head a ds) (alike_self start))
      (measures lengths a true ds)

-- ---- their columns
column_alike : (r : ℕ) (p q : TextPlace) (ss us : List Slot)
    → AreAlike ss us → map (shape r) (column_marks p ss) ≡ map (shape r) (column_marks q us)
column_alike r p q [] [] h = refl
column_alike r p q (s ∷ ss) (u ∷ us) h =
    joined (shape r) (s.drawn ++ written_marks p s.written) (column_marks (place_after p s.written) ss)
    (u.drawn ++ written_marks q u.written) (column_marks (place_after q u.written) us)
    (joined (shape r) s.drawn (written_marks p s.written) u.drawn (written_marks q u.written) (h.0.drawn r)
    (ap (λ w. map (shape r) (written_marks p w)) h.0.words ∙ written r p q u.written))
    (column_alike r (place_after p s.written) (place_after q u.written) ss us h.1)
column_alike r p q [] (u ∷ us) h = absurd h
column_alike r p q (s ∷ ss) [] h = absurd h

at_alike : (k : ColumnKey) (ss us : List Slot) → AreAlike ss us → AreAlike (slots_at k ss) (slots_at k us)
at_alike k [] [] h = tt
at_alike k (s ∷ ss) (u ∷ us) h =
    subst (λ l.
    AreAlike (cond (same_key s.key k) (s ∷ slots_at k ss) (slots_at k ss))
    (cond (same_key l k) (u ∷ slots_at k us) (slots_at k us)))
    h.0.key
    (by (same_key s.key k) (at_alike k ss us h.1))
  where
    by : (b : Bool) → AreAlike (slots_at k ss) (slots_at k us)
        → AreAlike (cond b (s ∷ slots_at k ss) (slots_at k ss)) (cond b (u ∷ slots_at k us) (slots_at k us))
    by true more = (h.0, more)
    by false more = more
at_alike k [] (u ∷ us) h = absurd h
at_alike k (s ∷ ss) [] h = absurd h

-- ---- beams and arcs
abbrev flat : BeamStem → BeamStem
flat s = record s { to = pos 0 }

last_flat : (k : ℕ) (p : BeamStem) (qs : List BeamStem) → last_at k (flat p) (map flat qs) ≡ flat (last_at k p qs)
unfolding goes_on_at_level
last_flat k p [] = refl
last_flat k p (q ∷ qs) = by ((q.group == p.group) && nat_lt k q.flags) (last_flat k q qs)
  where
    by : (b : Bool) → last_at k (flat q) (map flat qs) ≡ flat (last_at k q qs)
        → (if b then last_at k (flat q) (map flat qs) else flat p) ≡ flat (if b then last_at k q qs else p)
    by true h = h
    by false h = refl

find_flat : (id : ℕ) (es : List DrawnEvent)
    → find (has_id id) (map flat_event es) ≡ option_map flat_event (find (has_id id) es)
find_flat id [] = refl
find_flat id (e ∷ es) = by (has_id id e) (find_flat id es)
  where
    by : (b : Bool) → find (has_id id) (map flat_event es) ≡ option_map flat_event (find (has_id id) es)
        → (if b then Some (flat_event e) else find (has_id id) (map flat_event es))
        ≡ option_map flat_event (if b then Some e else find (has_id id) es)
    by true h = refl
    by false h = h

event_flat : (ds : List DrawnMeasure) (m id : ℕ)
    → event_at (map flat_measure ds) m id ≡ option_map flat_event (event_at ds m id)
event_flat ds m id = ap (event_in id) (slice_get-map flat_measure ds m) ∙ by (slice_get ds m)
  where
    by : (d : Option DrawnMeasure) → event_in id (option_map flat_measure d) ≡ option_map flat_event (event_in id d)
    by None = refl
    by (Some d) = find_flat id d.events

module _ (keys : List ColumnKey) where
  abbrev span : Bridge → Laid
  span b = laid_shape (bridge_at keys b)

  level : (k : ℕ) (p q : BeamStem) → map span (level_from k p q) ≡ map span (level_from k (flat p) (flat q))
  unfolding level_from
  level k p q =
      either span (same_key p.key q.key) []
      (beam (way_of p.up) p.key q.key (lower_edge p.up p.to k) (lower_edge q.up q.to k) ∷ []) [] _ refl refl

  levels : (k n : ℕ) (p : BeamStem) (qs : List BeamStem)
      → map span (levels_from k n p qs) ≡ map span (levels_from k n (flat p) (map flat qs))
  levels k zero p qs = refl
  levels k (suc n) p qs =
      joined span (level_from k p (last_at k p qs)) (levels_from (k + 1) n p qs)
      (level_from k (flat p) (last_at k (flat p) (map flat qs))) _
      (level k p (last_at k p qs) ∙ ap (λ q. map span (level_from k (flat p) q)) (sym (last_flat k p qs)))
      (levels (k + 1) n p qs)

  beams : (group flags : ℕ) (ps : List BeamStem)
      → map span (beams_from group flags ps) ≡ map span (beams_from group flags (map flat ps))
  unfolding beams_at levels_before
  beams group flags [] = refl
  beams group flags (p ∷ ps) =
      joined span (beams_at group flags p ps) (beams_from p.group p.flags ps)
      (beams_at group flags (flat p) (map flat ps)) _
      (levels (levels_before p group flags) (p.flags - levels_before p group flags) p ps) (beams p.group p.flags ps)

  all_beams : (m : ℕ) (ds : List DrawnMeasure)
      → map span (beams_between m ds) ≡ map span (beams_between m (map flat_measure ds))
  unfolding beam_marks stem_of
  all_beams m [] = refl
  all_beams m (d ∷ ds) =
      joined span (beam_marks (map (beam_stem_at m) d.events)) (beams_between (m + 1) ds)
      (beam_marks (map (beam_stem_at m) (map flat_event d.events))) _
      (beams 0 0 (map (beam_stem_at m) d.events)
      ∙ ap (λ t. map span (beams_from 0 0 t))
      (map-map flat (beam_stem_at m) d.events ∙ sym (map-map (beam_stem_at m) flat_event d.events)))
      (all_beams (m + 1) ds)

  grace_event : (m : ℕ) (es : List DrawnEvent)
      → flat_map (event_grace_beam m) es ≡ flat_map (event_grace_beam m) (map flat_event es)
  grace_event m [] = refl
  grace_event m (e ∷ es) = ap (λ t. event_grace_beam m e ++ t) (grace_event m es)

  grace_beams : (m : ℕ) (ds : List DrawnMeasure)
      → grace_beams_between m ds ≡ grace_beams_between m (map flat_measure ds)
  grace_beams m [] = refl
  grace_beams m (d ∷ ds) =
      ap (λ t. t ++ grace_beams_between (m + 1) ds) (grace_event m d.events)
      ∙ ap (λ t. flat_map (event_grace_beam m) (map flat_event d.events) ++ t) (grace_beams (m + 1) ds)

  module _ (lengths : List ℕ) (a b : ℕ) where
    arc : (piece : Piece) (x : Arc) (e f : DrawnEvent)
        → map span (arc_between lengths a b piece x (Some e) (Some f))
        ≡ map span (arc_between lengths a b piece x (Some (flat_event e)) (Some (flat_event f)))
    unfolding arc_mark tie_mark slur_mark
    arc piece x e f = by x.tie (left_key a piece x.from e) (right_key lengths b piece x.to f)
      where
        by : (tie : Bool) (p q : ColumnKey)
            → span (if tie then tie_mark p q piece x.head (seen_of e) (seen_of f)
            else slur_mark p q piece (seen_of e) (seen_of f))
            ∷ []
            ≡ span (if tie then tie_mark p q piece x.head (seen_of (flat_event e)) (seen_of (flat_event f))
            else slur_mark p q piece (seen_of (flat_event e)) (seen_of (flat_event f)))
            ∷ []
        by true p q = refl
        by false p q = refl

    arc_of : (piece : Piece) (x : Arc) (e f : Option DrawnEvent)
        → map span (arc_between lengths a b piece x e f)
        ≡ map span (arc_between lengths a b piece x (option_map flat_event e) (option_map flat_event f))
    arc_of piece x None f = refl
    arc_of piece x (Some e) None = refl
    arc_of piece x (Some e) (Some f) = arc piece x e f

    piece_in : (ds : List DrawnMeasure) (x : Arc) (piece : Option Piece)
        → map span (piece_between lengths a b ds x piece)
        ≡ map span (piece_between lengths a b (map flat_measure ds) x piece)
    piece_in ds x None = refl
    piece_in ds x (Some piece) =
        arc_of piece x (event_at ds x.from x.first) (event_at ds x.to x.last)
        ∙ ap (λ e. map span (arc_between lengths a b piece x e (option_map flat_event (event_at ds x.to x.last))))
        (sym (event_flat ds x.from x.first))
        ∙ ap (λ f. map span (arc_between lengths a b piece x (event_at (map flat_measure ds) x.from x.first) f))
        (sym (event_flat ds x.to x.last))

    arcs : (ds : List DrawnMeasure) (xs : List Arc)
        → map span (arcs_between lengths a b ds xs) ≡ map span (arcs_between lengths a b (map flat_measure ds) xs)
    arcs ds [] = refl
    arcs ds (x ∷ xs) =
        joined span (arc_in lengths a b ds x) (arcs_between lengths a b ds xs) _ _ (piece_in ds x (piece_of x a b))
        (arcs ds xs)

-- ---- a staff
abbrev flat_all : DrawnVoice → DrawnVoice
flat_all v = record v { measures = map flat_measure v.measures }

slice_flat : (a b : ℕ) (ds : List DrawnMeasure)
    → map flat_measure (slice_range ds a b) ≡ slice_range (map flat_measure ds) a b
slice_flat a b ds =
    sym (take-map flat_measure (b - a) (drop a ds)) ∙ ap (take (b - a)) (sym (drop-map flat_measure a ds))

module _ (keys : List ColumnKey) (lengths : List ℕ) (a b : ℕ) where
  bridges : (v : DrawnVoice)
      → map (span keys) (bridges_of lengths a b v) ≡ map (span keys) (bridges_of lengths a b (flat_all v))
  bridges v =
      let ds = slice_range v.measures a b in let es = slice_range (map flat_measure v.measures) a b in
      joined (span keys) (beams_between a ds ++ grace_beams_between a ds) (arcs_between lengths a b v.measures v.arcs)
      (beams_between a es ++ grace_beams_between a es) _
      (joined (span keys) (beams_between a ds) (grace_beams_between a ds) (beams_between a es)
      (grace_beams_between a es)
      (all_beams keys a ds ∙ ap (λ t. map (span keys) (beams_between a t)) (slice_flat a b v.measures))
      (ap (map (span keys)) (grace_beams keys a ds ∙ ap (grace_beams_between a) (slice_flat a b v.measures))))
      (arcs keys lengths a b v.measures v.arcs)

  own : (first : ℕ) (v : DrawnVoice)
      → AreAlike (voice_slots first lengths a b v) (voice_slots first lengths a b (flat_all v))
  own first v =
      subst (λ ds. AreAlike (voice_slots first lengths a b v) (columns_slots first lengths a v.seat v.first ds))
      (slice_flat a b v.measures)
      (columns first lengths a v.seat v.first (slice_range v.measures a b))

  abbrev slots_of : ℕ → List DrawnVoice → List VoiceSlots
  slots_of first vs = slots_of_voices first lengths a b vs

  all_alike : (k : ColumnKey) (first : ℕ) (vs : List DrawnVoice)
      → AreAlike (column_slots k (all_slots (slots_of first vs)))
      (column_slots k (all_slots (slots_of first (map flat_all vs))))
  all_alike k first [] = tt
  all_alike k first (v ∷ vs) =
      alike_join (slots_at k (voice_slots first lengths a b v))
      (slots_at k (voice_slots first lengths a b (flat_all v)))
      (column_slots k (all_slots (slots_of (first + v.verses) vs)))
      (column_slots k (all_slots (slots_of (first + v.verses) (map flat_all vs))))
      (at_alike k (voice_slots first lengths a b v) (voice_slots first lengths a b (flat_all v)) (own first v))
      (all_alike k (first + v.verses) vs)

  all_columns : (p q : TextPlace) (vs : List DrawnVoice) (ks : List ColumnKey)
      → marks_shape (flat_map (column_at keys p (all_slots (slots_of 0 vs))) ks)
      ≡ marks_shape (flat_map (column_at keys q (all_slots (slots_of 0 (map flat_all vs)))) ks)
  all_columns p q vs [] = refl
  all_columns p q vs (k ∷ ks) =
      let some = column_slots k (all_slots (slots_of 0 vs)) in
      let others = column_slots k (all_slots (slots_of 0 (map flat_all vs))) in
      joined laid_shape (column_at keys p (all_slots (slots_of 0 vs)) k)
      (flat_map (column_at keys p (all_slots (slots_of 0 vs))) ks)
      (column_at keys q (all_slots (slots_of 0 (map flat_all vs))) k) _
      (ranked (key_rank keys k) (column_marks p some) (column_marks q others)
      (column_alike (key_rank keys k) p q some others (all_alike k 0 vs)))
      (all_columns p q vs ks)

  all_bridges : (first : ℕ) (vs : List DrawnVoice)
      → map (span keys) (flat_map (λ v. v.bridges) (slots_of first vs))
      ≡ map (span keys) (flat_map (λ v. v.bridges) (slots_of first (map flat_all vs)))
  all_bridges first [] = refl
  all_bridges first (v ∷ vs) =
      joined (span keys) (bridges_of lengths a b v) (flat_map (λ w. w.bridges) (slots_of (first + v.verses) vs))
      (bridges_of lengths a b (flat_all v)) _ (bridges v) (all_bridges (first + v.verses) vs)

  -- a staff, and that of its voices with all ends at 0
  staff : (vs : List DrawnVoice)
      → staff_shape (staff_marks keys lengths a b vs) ≡ staff_shape (staff_marks keys lengths a b (map flat_all vs))
  unfolding staff_marks staff_over staff_laid
  staff vs =
      let place = λ (ws : List DrawnVoice). place_outside (verses_on ws) (bare_laid keys (slots_of 0 ws)) in
      let columns_on =
      λ (ws : List DrawnVoice). flat_map (column_at keys (place ws) (all_slots (slots_of 0 ws))) keys in
      let between = λ (ws : List DrawnVoice). flat_map (λ v. v.bridges) (slots_of 0 ws) in
      let flat_ones = map flat_all vs in
      joined laid_shape (columns_on vs) (map (bridge_at keys) (between vs)) (columns_on flat_ones)
      (map (bridge_at keys) (between flat_ones)) (all_columns (place vs) (place flat_ones) vs keys)
      (map-map laid_shape (bridge_at keys) (between vs)
      ∙ all_bridges 0 vs
      ∙ sym (map-map laid_shape (bridge_at keys) (between flat_ones)))

  tilted_flat : (at : List ℤ) (vs : List DrawnVoice)
      → map flat_all (map (voice_tilted keys at a b) vs) ≡ map flat_all vs
  tilted_flat at [] = refl
  tilted_flat at (v ∷ vs) =
      ap (λ t. record v { measures = t } ∷ map flat_all (map (voice_tilted keys at a b) vs)) (flat_voice a _ v)
      ∙ ap (λ t. flat_all v ∷ t) (tilted_flat at vs)

  each_alike : (at : List ℤ) (staves : List (List DrawnVoice))
      → map staff_shape (map (staff_marks keys lengths a b) staves)
      ≡ map staff_shape (map (tilted_staff keys lengths at a b) staves)
  each_alike at [] = refl
  each_alike at (vs ∷ staves) =
      let tilted = map (voice_tilted keys at a b) vs in
      ap (λ x. x ∷ map staff_shape (map (staff_marks keys lengths a b) staves))
      (staff vs
      ∙ ap (λ ws. staff_shape (staff_marks keys lengths a b ws)) (sym (tilted_flat at vs))
      ∙ sym (staff tilted))
      ∙ ap (λ xs. staff_shape (tilted_staff keys lengths at a b vs) ∷ xs) (each_alike at staves)

-- ---- tilted marks
tilted_fit : (keys : List ColumnKey) (at : List ℤ) (a b : ℕ) (vs : List DrawnVoice)
    → AllByRecursion FitsVoice vs → AllByRecursion FitsVoice (map (voice_tilted keys at a b) vs)
tilted_fit keys at a b [] fit = tt
tilted_fit keys at a b (v ∷ vs) fit = (ended_fits v.verses a _ v fit.0, tilted_fit keys at a b vs fit.1)

staves_tilted : (keys : List ColumnKey) (at : List ℤ) (a b : ℕ) (staves : List (List DrawnVoice))
    → AllByRecursion (AllByRecursion FitsVoice) staves
    → AllByRecursion (AllByRecursion FitsVoice) (map (map (voice_tilted keys at a b)) staves)
staves_tilted keys at a b [] fit = tt
staves_tilted keys at a b (vs ∷ staves) fit = (tilted_fit keys at a b vs fit.0, staves_tilted keys at a b staves fit.1)

module _ (s : Score) (t : Timeline) (a b : ℕ) (at : List ℤ) (m : SystemMarks) (is : IsTilted s t a b at m) where
  pub tilted_alike : (flat : SystemMarks) → IsCall s t a b flat → HaveSameShapes flat m
  tilted_alike flat call =
      let same = same_keys flat.keys m.keys (called_keys s t.lengths a b) call.keys is.keys in
      record {
        from = call.from ∙ sym is.from;
        to = call.to ∙ sym is.to;
        keys = same;
        staves =
            ap (map staff_shape) (call.staves ∙ ap (λ ks. map (staff_marks ks t.lengths a b) (drawn_staves s)) same)
            ∙ each_alike m.keys t.lengths a b at (drawn_staves s)
            ∙ ap (map staff_shape) (sym is.staves);
      }

  pub tilted_good : IsGoodScore s → All (λ staff. AreGoodMarks staff.marks) m.staves
  tilted_good good =
      subst (All (λ staff. AreGoodMarks staff.marks))
      (map-map (staff_marks m.keys t.lengths a b) (map (voice_tilted m.keys at a b)) (drawn_staves s) ∙ sym is.staves)
      (staves_good m.keys t.lengths a b (map (map (voice_tilted m.keys at a b)) (drawn_staves s))
      (staves_tilted m.keys at a b (drawn_staves s) (staves_fit s good)))
