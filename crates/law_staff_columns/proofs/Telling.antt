-- The marks of a voice in a system determine its columns.
use Rattle.std.proofs.Common.{◌≡◌, ◌∙◌, refl, sym, ap, subst, ℕ, ℤ, ◌+◌, ◌-◌, ◌<◌, ◌≤◌, ◌==◌, Bool, true, false}
use Rattle.std.proofs.Common.{not, ◌&&◌, ◌||◌, List, [], ◌∷◌, ◌++◌, append_assoc, length, map, take}
use Rattle.std.proofs.Common.{drop, Option, arith}
use Rattle.std.proofs.lemmas.List.{map-append, length-drop, length-take, take-append-drop}
use Rattle.std.proofs.lemmas.List.Elements.{All-contains, All-from_recursion, All-head, All-tail}
use Rattle.std.proofs.lemmas.List.Elements.{recursion_from_All}
use Rattle.std.proofs.lemmas.List.Folds.{list_any-append}
use Rattle.std.specs.List.{All, AllByRecursion, Contains, flat_map, list_any, slice_range}
use Rattle.mus_units.specs.declared.{key.Sign.Sign, note.{Bar.Bar, Head.Head}, pitch.{Clef.Clef}}
use Rattle.mus_score.specs.declared.score.Event.{Event}
use Rattle.mus_score.specs.declared.score.Measure.{Measure}
use Rattle.mus_score.specs.declared.score.Seat.{Seat}
use Rattle.mus_score.specs.GoodScore.{IsInReach, clef_at}
use Rattle.mus_score.specs.Seats.{is_lower}
use Rattle.mus_score.specs.Times.{flats_of}
use Rattle.mus_onsets.specs.declared.keys.Class.{Class}
use Rattle.mus_onsets.specs.declared.keys.ColumnKey.{ColumnKey}
use Rattle.mus_onsets.specs.Keys.{bar_key, change_has_mark, head_key, key_at}
use Rattle.mus_onsets.specs.Onsets.{timeline_of}
use Rattle.mus_onsets.specs.Order.{Rises, key_rank}
use Rattle.mus_onsets.proofs.Places.{places_of}
use Rattle.mus_laid.specs.declared.drawn.Bridge.{Bridge}
use Rattle.mus_laid.specs.declared.drawn.LaneInk.{LaneInk}
use Rattle.mus_laid.specs.Ranked.{bridge_at}
use Rattle.mus_time.specs.Columns.{has_old, note_key}
use Rattle.mus_ink.specs.declared.graces.Group.{Group}
use Rattle.mus_ink.specs.Bars.{bar_glyph, bar_marks}
use Rattle.mus_ink.specs.Changes.{change_marks, head_marks}
use Rattle.mus_ink.specs.Graces.{grace_marks, group_of}
use Rattle.mus_bridges.specs.Bridges.{bridges_of}
use Rattle.mus_words.specs.declared.texts.TextPlace.{TextPlace}
use Rattle.mus_drawn.specs.declared.drawn.DrawnEvent.{DrawnEvent}
use Rattle.mus_drawn.specs.declared.drawn.DrawnMeasure.{DrawnMeasure}
use Rattle.mus_drawn.specs.declared.drawn.DrawnVoice.{DrawnVoice}
use Rattle.mus_drawn.specs.declared.standing.StaffState.{StaffState}
use Rattle.mus_drawn.specs.Drawn.{drawn_voice, raise_of, standing_after, staff_state_after, standing_of}
use Rattle.mus_slots.specs.declared.slots.Slot.{Slot}
use Rattle.mus_slots.specs.Staff.{bare_laid, bridges_at, column_at, place_outside, staff_laid}
use Rattle.mus_slots.specs.Voice.{change_slots, columns_slots, event_slots, events_slots, first_slots, grace_slots}
use Rattle.mus_slots.specs.Voice.{keys_of, levels_after, levels_in, measures_slots, meter_shown, slot, slot_if}
use Rattle.mus_slots.specs.Voice.{slots_of_voices, voice_slots}
use Rattle.mus_slots.specs.Words.{IsOrdered}
use Rattle.mus_slots.proofs.Filled.{no_marks}
use Rattle.mus_marks.specs.Staff.{staff_marks, staff_over, verses_on}
use Rattle.mus_marks.specs.Tilt.{sloped_over, voice_tilted}
use Rattle.mus_marks.proofs.SystemSlots.{tilted_ordered}
use Rattle.ps_heard.specs.declared.column.HeardColumn.{HeardColumn}
use Rattle.ps_heard.specs.declared.column.HeardGlyph.{HeardGlyph}
use Rattle.ps_heard.specs.declared.column.Role.{Role}
use Rattle.law_voice_sound.proofs.Listening.{known_join}
use Rattle.law_voice_sound.specs.Columns.{bar_column, change_column, change_columns, chord_column, event_columns}
use Rattle.law_voice_sound.specs.Columns.{heard_events, first_columns, grace_columns, last_event, last_through}
use Rattle.law_voice_sound.specs.Columns.{heard_measures, state_shown, heard_system, tie_heights}
use Rattle.law_voice_sound.specs.Listened.{is_listed, columns_heard}
use Rattle.law_voice_sound.specs.Noted.{bar_notes, change_signs, clef_notes, entry_notes, head_column_notes, head_notes}
use Rattle.law_voice_sound.specs.Noted.{sign_notes}
use Rattle.law_staff_columns.specs.Ranked.{ranked_columns, tie_ends_at}
use Rattle.law_staff_columns.specs.Reported.{MarksTellColumns, first_at}
use Rattle.law_staff_columns.proofs.Columned.{column, columns_said, head_least, known_same, slot_column}
use Rattle.law_staff_columns.proofs.Drawings.{measures_after, measures_prefix, voice_drawn}
use Rattle.law_staff_columns.proofs.Placed.{Placed, all_placed, placed}
use Rattle.law_staff_columns.proofs.Forms.{EventsDrawn, IsDrawn, MeasuresDrawn, drawn_notes, flats_in}
use Rattle.law_staff_columns.proofs.Noting.{bar_known, change_known, grace_known, head_known, note_known}
use Rattle.law_staff_columns.proofs.Tied.{AllTied, ties_stand, tied_after}

-- if no note has a head, ties do not matter
abbrev is_headed : List HeardGlyph → Bool
is_headed ns = list_any (λ n. is_listed n.role) ns

quiet_known : (leads : Bool) (ns ms : List HeardGlyph) (ts us : List ℤ) (xs ys : List HeardColumn)
    → ns ≡ ms → is_headed ms ≡ false → columns_heard xs ≡ columns_heard ys
    → columns_heard (column leads ns ts ∷ xs) ≡ columns_heard (column leads ms us ∷ ys)
quiet_known leads ns ms ts us xs ys e quiet more = rw (e, quiet, more) refl

quiet_join : (ns ms : List HeardGlyph) → is_headed ns ≡ false → is_headed ms ≡ false → is_headed (ns ++ ms) ≡ false
quiet_join ns ms p q = simp (list_any-append, p, q)

signs_quiet : (c : Clef) (hs : List Head) → is_headed (sign_notes c hs) ≡ false
signs_quiet c [] = refl
signs_quiet c (h ∷ hs) = grind (arith, signs_quiet c hs)

graces_quiet : (c : Clef) (hs : List Head) → is_headed (head_notes Role.Grace c hs) ≡ false
graces_quiet c [] = refl
graces_quiet c (h ∷ hs) = graces_quiet c hs

entries_quiet : (c : Clef) (ss : List Sign) → is_headed (entry_notes c ss) ≡ false
entries_quiet c [] = refl
entries_quiet c (s ∷ ss) = entries_quiet c ss

clef_quiet : (c : Option Clef) → is_headed (clef_notes c) ≡ false
clef_quiet c = grind arith

bar_quiet : (b : Bar) → is_headed (bar_notes b) ≡ false
unfolding bar_glyph
bar_quiet b = grind arith

-- ---- the slots of a voice determine its columns
module _ (keys : List ColumnKey) (ties : ℕ → List ℤ) where
  abbrev slot_columns : List Slot → List HeardColumn
  slot_columns ss = map (slot_column keys ties) ss

  parts_known : (xs ys : List Slot) (us vs : List HeardColumn)
      → columns_heard (slot_columns xs) ≡ columns_heard us → columns_heard (slot_columns ys) ≡ columns_heard vs
      → columns_heard (slot_columns (xs ++ ys)) ≡ columns_heard (us ++ vs)
  parts_known xs ys us vs p q = simp (map-append, known_join, p, q)

  bar_column_known : (key : ColumnKey) (b : Bar)
      → columns_heard (slot_columns (slot key (bar_marks b) ∷ [])) ≡ columns_heard (bar_column b ∷ [])
  bar_column_known key b =
      quiet_known false (drawn_notes (bar_marks b)) (bar_notes b) (ties (key_rank keys key)) [] [] [] (bar_known b)
      (bar_quiet b) refl

  module _ (m : ℕ) where
    change_column_known : (in_head : Bool) (now : StaffState) (e : DrawnEvent)
        → IsDrawn now e
        → columns_heard (slot_columns (change_slots m (in_head || is_lower e.seat) e))
        ≡ columns_heard (change_columns in_head now e.flat)
    change_column_known true now e is = refl
    change_column_known false now e is =
        ap (λ lower. columns_heard (slot_columns (slot_if (not lower && marked) key marks))) is.first ∙ by marked refl
      where
        marked : Bool
        marked = change_has_mark (has_old e) e.flat.event.changes

        marks : List LaneInk
        marks = change_marks e.clef e.old e.flat.event.changes

        notes : List HeardGlyph
        notes = (change_column now e.flat).notes

        same : drawn_notes marks ≡ notes
        same = rw (is.clef, is.old) (change_known (clef_at now.clef e.flat.event) now.key e.flat.event.changes)

        quiet : is_headed notes ≡ false
        quiet =
            let changes = e.flat.event.changes in
            quiet_join (clef_notes changes.clef) _ (clef_quiet changes.clef)
            (entries_quiet (clef_at now.clef e.flat.event) (change_signs now.key.signs changes.key))

        key : ColumnKey
        key = key_at m e.tick Class.Change 0

        by : (c : Bool) → marked ≡ c
            → columns_heard (slot_columns (slot_if c key marks)) ≡ columns_heard (change_column now e.flat ∷ [])
        by true has = quiet_known false (drawn_notes marks) notes (ties (key_rank keys key)) [] [] [] same quiet refl
        by false none =
            ap (λ ns. columns_heard (column false ns [] ∷ []))
            (ap drawn_notes (sym (no_marks e.clef e.old e.flat.event.changes none)) ∙ same)

    graces_known : (tick : ℕ) (c : Clef) (group : Group) (i : ℕ) (gs : List Event)
        → All (λ g. All (IsInReach c) g.heads) gs
        → columns_heard (slot_columns (grace_slots m tick c group i gs)) ≡ columns_heard (grace_columns c gs)
    graces_known tick c group i [] reach = refl
    graces_known tick c group i (g ∷ gs) reach =
        quiet_known false (drawn_notes (grace_marks c group (i == 0) g))
        (sign_notes c g.heads ++ head_notes Role.Grace c g.heads) (ties (key_rank keys (key_at m tick Class.Grace i)))
        []
        (slot_columns (grace_slots m tick c group (i + 1) gs)) (grace_columns c gs)
        (grace_known c group (i == 0) g (All-head (λ g. All (IsInReach c) g.heads) g gs reach))
        (quiet_join (sign_notes c g.heads) _ (signs_quiet c g.heads) (graces_quiet c g.heads))
        (graces_known tick c group (i + 1) gs (All-tail (λ g. All (IsInReach c) g.heads) g gs reach))

    event_known : (in_head : Bool) (before after : ℕ) (now : StaffState) (prev : List Head) (e : DrawnEvent)
        → IsDrawn now e → ties (key_rank keys (note_key m e)) ≡ tie_heights e.clef prev e.flat.event.heads
        → columns_heard (slot_columns (event_slots 0 m in_head before after e))
        ≡ columns_heard (change_columns in_head now e.flat ++ event_columns now prev e.flat)
    event_known in_head before after now prev e is tied =
        let f = e.flat in
        let graces = graces_known e.tick e.clef (group_of e.clef f.graces f.slash) 0 f.graces is.graces in
        let notes = note_known e.clef (raise_of e.seat) f.event e.plan before after is.signs is.shifts in
        let chord = known_same false false _ _ _ _ [] [] refl notes tied refl in
        let columns = λ (c : Clef).
        change_columns in_head now f
        ++ (grace_columns c f.graces ++ chord_column Role.Head c f.event.heads (tie_heights c prev f.event.heads)
        ∷ []) in
        let here : columns_heard (slot_columns (event_slots 0 m in_head before after e)) ≡ columns_heard
        (columns e.clef) = simp
        (map-append, append_assoc, known_join, change_column_known in_head now e is, graces, chord) in
        here ∙ ap (λ c. columns_heard (columns c)) is.clef

  module _ (a b : ℕ) where
    events_known : (m : ℕ) (in_head : Bool) (group flags : ℕ) (now : StaffState) (prev : List Head)
        (es : List DrawnEvent) (more : List Placed)
        → a ≤ m → m < b → EventsDrawn now es
        → AllTied keys a b ties prev (placed m es ++ more)
        → columns_heard (slot_columns (events_slots 0 m in_head group flags es))
        ≡ columns_heard (heard_events in_head now prev (flats_in es))
    events_known m in_head group flags now prev [] more from to drawn tied = refl
    events_known m in_head group flags now prev (e ∷ es) more from to drawn tied =
        parts_known (event_slots 0 m in_head (levels_in e.plan group flags) (levels_after e.plan es) e) _
        (change_columns in_head now e.flat ++ event_columns now prev e.flat) _
        (event_known m in_head _ _ now prev e drawn.0 (tied.0 from to))
        (events_known m false e.plan.group e.plan.flags (standing_after now e.flat.event.changes) e.flat.event.heads es
        more from to drawn.1 tied.1)

    -- some measures, before others
    measures_known : (lengths : List ℕ) (m : ℕ) (in_head : Bool) (now : StaffState) (prev : List Head)
        (xs : List Measure) (ds more : List DrawnMeasure)
        → a ≤ m → m + length ds ≤ b → MeasuresDrawn keys a b m now xs ds
        → AllTied keys a b ties prev (all_placed m (ds ++ more))
        → columns_heard (slot_columns (measures_slots 0 lengths m in_head ds))
        ≡ columns_heard (heard_measures in_head now prev xs)
    measures_known lengths m in_head now prev [] [] more from to drawn tied = refl
    measures_known lengths m in_head now prev (x ∷ xs) (d ∷ ds) more from to drawn tied =
        let is = drawn.0 in
        let fs = flats_of x.body in
        let own = events_slots 0 m in_head 0 0 d.events in
        let bar = λ (lower : Bool). slot_if (not lower) (bar_key lengths m) (bar_marks d.bar) in
        let following = all_placed (m + 1) (ds ++ more) in
        parts_known (own ++ bar (is_lower d.seat)) (measures_slots 0 lengths (m + 1) false ds)
        (heard_events in_head now prev fs ++ bar_column x.bar ∷ []) _
        (parts_known own (bar (is_lower d.seat)) (heard_events in_head now prev fs) (bar_column x.bar ∷ [])
        (events_known m in_head 0 0 now prev d.events following from (omega (arith, to)) is.events tied
        ∙ ap (λ gs. columns_heard (heard_events in_head now prev gs)) is.flats)
        (ap (λ lower. columns_heard (slot_columns (bar lower))) is.first
        ∙ bar_column_known (bar_key lengths m) d.bar ∙ ap (λ b. columns_heard (bar_column b ∷ [])) is.bar))
        (measures_known lengths (m + 1) false (staff_state_after now fs) (last_event prev fs) xs ds more
        (omega (arith, from)) (omega (arith, to)) drawn.1
        (subst (λ gs. AllTied keys a b ties (last_event prev gs) following) is.flats
        (tied_after keys a b ties m prev d.events following tied)))
    measures_known lengths m in_head now prev xs ds more from to drawn tied = absurd drawn

    -- after the head of a system
    after_known : (lengths : List ℕ) (seat : Seat) (first : Bar) (now : StaffState) (prev : List Head)
        (xs : List Measure) (ds more : List DrawnMeasure)
        → is_lower seat ≡ false → a + length ds ≤ b → MeasuresDrawn keys a b a now xs ds
        → AllTied keys a b ties prev (all_placed a (ds ++ more))
        → columns_heard (slot_columns (first_slots a seat first ++ measures_slots 0 lengths a true ds))
        ≡ columns_heard (first_columns (first_at a first) ++ heard_measures true now prev xs)
    after_known lengths seat first now prev xs ds more led to drawn tied =
        parts_known (first_slots a seat first) (measures_slots 0 lengths a true ds)
        (first_columns (first_at a first)) (heard_measures true now prev xs)
        (grind (arith, led, bar_column_known (key_at 0 0 Class.First 0) first))
        (measures_known lengths a true now prev xs ds more (omega arith) to drawn tied)

-- ---- a system
system_known : (keys : List ColumnKey) (lengths : List ℕ) (place : TextPlace) (a b : ℕ) (seat : Seat) (first : Bar)
    (now : StaffState) (prev : List Head) (xs : List Measure) (ds more : List DrawnMeasure) (bs : List Bridge)
    → is_lower seat ≡ false → 1 ≤ length xs → a + length ds ≤ b → MeasuresDrawn keys a b a now xs ds
    → AllTied keys a b (tie_ends_at (map (bridge_at keys) bs)) prev (all_placed a (ds ++ more))
    → Rises keys → key_rank keys (head_key a) ≡ 0 → Rises (keys_of (columns_slots 0 lengths a seat first ds))
    → AllByRecursion (λ s. Contains keys s.key) (columns_slots 0 lengths a seat first ds)
    → columns_heard
    (ranked_columns (length keys)
    (flat_map (column_at keys place (columns_slots 0 lengths a seat first ds ∷ [])) keys ++ map (bridge_at keys) bs))
    ≡ columns_heard (heard_system (first_at a first) now prev xs)
system_known keys lengths place a b seat first now prev [] ds more bs led some to drawn tied rise least own inside =
    absurd (omega (arith, some))
system_known keys lengths place a b seat first now prev (x ∷ xs) [] more bs led some to drawn tied rise least own
    inside =
    absurd drawn
system_known keys lengths place a b seat first now prev (x ∷ xs) (d ∷ ds) more bs led some to drawn tied rise least own
    inside =
    let bridges = map (bridge_at keys) bs in
    let head = slot (head_key a) (head_marks d.opening.clef d.opening.key.signs (meter_shown a d.opening)) in
    let ss = first_slots a seat first ++ measures_slots 0 lengths a true (d ∷ ds) in
    let is = drawn.0 in
    let whole : columns_slots 0 lengths a seat first (d ∷ ds) ≡ head ∷ ss =
    ap (λ lower.
    (slot_if (not lower) (head_key a) head.drawn ++ first_slots a seat first)
    ++ measures_slots 0 lengths a true (d ∷ ds))
    is.first in
    let shown = state_shown now (flats_of x.body) in
    ap (λ t. columns_heard (ranked_columns (length keys) (flat_map (column_at keys place (t ∷ [])) keys ++ bridges)))
    whole
    ∙ columns_said keys place head ss bs rise (subst (λ t. Rises (keys_of t)) whole own)
    (subst (AllByRecursion (λ s. Contains keys s.key)) whole inside) least
    ∙ quiet_known true (drawn_notes head.drawn) (head_column_notes shown.clef shown.key.signs) (tie_ends_at bridges 0)
    []
    (map (slot_column keys (tie_ends_at bridges)) ss)
    (first_columns (first_at a first) ++ heard_measures true now prev (x ∷ xs))
    (head_known d.opening.clef d.opening.key.signs (meter_shown a d.opening)
    ∙ ap (λ c. head_column_notes c d.opening.key.signs) is.clef
    ∙ ap (λ k. head_column_notes shown.clef k.signs) is.key)
    (entries_quiet shown.clef shown.key.signs)
    (after_known keys (tie_ends_at bridges) a b lengths seat first now prev (x ∷ xs) (d ∷ ds) more led to drawn tied)

-- the marks of one voice, by its slots
alone_marks : (keys : List ColumnKey) (lengths : List ℕ) (a b : ℕ) (w : DrawnVoice)
    → (place : TextPlace)
    × ((staff_marks keys lengths a b (w ∷ [])).marks
    ≡ flat_map (column_at keys place (voice_slots 0 lengths a b w ∷ [])) keys
    ++ bridges_at keys (slots_of_voices 0 lengths a b (w ∷ [])))
unfolding staff_marks staff_laid staff_over
alone_marks keys lengths a b w = (
  place_outside (verses_on (w ∷ [])) (bare_laid keys (slots_of_voices 0 lengths a b (w ∷ []))),
  refl,
)

each_mapped : {A B : Type 0} (P : B → Type 0) (f : A → B) (xs : List A)
    → AllByRecursion P (map f xs) → AllByRecursion (λ x. P (f x)) xs
each_mapped P f [] all = tt
each_mapped P f (x ∷ xs) all = (all.0, each_mapped P f xs all.1)

pub staff_known : MarksTellColumns
unfolding drawn_voice
staff_known s v keys at a b good has alone rise within are =
    let lengths = (timeline_of s).lengths in
    let d = drawn_voice v in
    let w = voice_tilted keys at a b d in
    let now = standing_of v in
    let n = b - a in
    let xs = drop a v.measures in
    let ds = drop a w.measures in
    let bridges = bridges_of lengths a b w ++ [] in
    let ties = tie_ends_at (map (bridge_at keys) bridges) in
    let prev = last_through [] (take a v.measures) in
    let long = All-contains (λ v. length v.measures ≡ s.measures) s.voices v good.measures has in
    let places = places_of s a b keys good rise within are in
    let drawn = voice_drawn s v keys at a b good has alone within are in
    let tied = subst (λ es. AllTied keys a b ties prev (all_placed a es)) (sym (take-append-drop n ds))
    (ties_stand s v keys a b w refl places drawn) in
    let IsTiltable : DrawnVoice → Type 0 = λ d. IsOrdered keys lengths a b (voice_tilted keys at a b d) in
    let ordered = All-contains (λ v. IsTiltable (drawn_voice v)) s.voices v
    (All-from_recursion (λ v. IsTiltable (drawn_voice v)) s.voices
    (each_mapped IsTiltable drawn_voice s.voices
    (recursion_from_All IsTiltable (map drawn_voice s.voices)
    (tilted_ordered s (timeline_of s) a b keys refl good rise within are at)))) has 0 in
    let marks = alone_marks keys lengths a b w in
    ap (λ t. columns_heard (ranked_columns (length keys) t)) marks.1
    ∙ system_known keys lengths marks.0 a b v.seat v.first _ prev (take n xs) (take n ds) (drop n ds) bridges
    (ap is_lower alone) (omega (arith, long, rise, within, length-drop a v.measures, length-take n xs))
    (omega (arith, rise, length-take n ds))
    (measures_prefix keys a b n a _ xs ds (measures_after keys a b a 0 a now v.measures w.measures (omega arith) drawn))
    tied are.rise (head_least lengths a b keys places) ordered.0 ordered.1
