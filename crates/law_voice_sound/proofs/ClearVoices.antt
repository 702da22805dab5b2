-- A clear voice is heard at its columns as it sounds.
use Rattle.std.proofs.Common.{inl, inr, ◌≡◌, refl, sym, ap, ◌∙◌, subst, Bool, true, false, List, [], ◌∷◌, ◌++◌, map}
use Rattle.std.proofs.Common.{flat_map, append_assoc, append-nil, Option, Some, None}
use Rattle.std.proofs.lemmas.List.Elements.{All-head, All-tail}
use Rattle.std.specs.{Prelude.{◌⊎◌, if◌then◌else◌}, List.All}
use Rattle.mus_units.specs.declared.{key.Spread.Spread, note.Bar.Bar, note.Head.Head, pitch.Clef.Clef}
use Rattle.mus_score.specs.declared.score.Flat.{Flat}
use Rattle.mus_score.specs.declared.score.Measure.{Measure}
use Rattle.mus_score.specs.GoodScore.{AreInReach, events_of}
use Rattle.mus_score.specs.Times.{flats_of}
use Rattle.mus_drawn.specs.declared.sounds.Sound.{Sound}
use Rattle.mus_drawn.specs.declared.standing.StaffState.{StaffState}
use Rattle.mus_drawn.specs.Drawn.{standing_after, staff_state_after, standing_of}
use Rattle.mus_drawn.specs.Sounds.{event_sounds, seen_in}
use Rattle.mus_drawn.proofs.Reaches.{reach_cut}
use Rattle.mus_drawn.proofs.SoundLaws.{voices_are}
use Rattle.mus_drawn.specs.Hearing.{events_sounds, heard_after, heard_from, measures_sounds, said_at, said_after}
use Rattle.mus_drawn.specs.Hearing.{sounds_from}
use Rattle.mus_drawn.specs.declared.sounds.AlteredHead as score
use Rattle.ps_heard.specs.declared.column.Heard as page
use Rattle.ps_heard.specs.declared.column.Listener.{Listener}
use Rattle.ps_heard.specs.Ear.{fresh, hear_column, hear_columns}
use Rattle.ps_heard.proofs.EarLaws.{columns_append, heard_law}
use Rattle.law_voice_sound.specs.Clear.{AreSeenBars, HaveNoHeads, IsClearFlat}
use Rattle.law_voice_sound.specs.Sounds.{ClearVoicesAreHeard, heard_sound}
use Rattle.law_voice_sound.specs.Columns.{bar_column, heard_events, first_columns, head_column, last_event}
use Rattle.law_voice_sound.specs.Columns.{last_through, heard_measures, shown_first, standing_through, systems_columns}
use Rattle.law_voice_sound.specs.Columns.{heard_voice}
use Rattle.law_voice_sound.proofs.Openings.{head_law}
use Rattle.law_voice_sound.proofs.Voices.{IsReady, bar_tells, after_bar, events_law, first_law, said_through}
use Rattle.law_voice_sound.proofs.Voices.{seen_or_left, sounds_join}

-- the sounds of a measure after what was said, and of those after it; if no note follows, nothing depends on what was
-- said
abbrev sounds_after : Spread
    → StaffState → List Head → List score.AlteredHead → List Flat → (List score.AlteredHead → List Sound) → List Sound
sounds_after spread now said before fs more =
    events_sounds 0 spread now said before fs ++ more (heard_after spread now said before fs)

silent_same : (spread : Spread) (now : StaffState) (said other : List Head) (before : List score.AlteredHead)
    (fs : List Flat) (more : List score.AlteredHead → List Sound)
    → HaveNoHeads fs
    → sounds_after spread now said before fs more ≡ sounds_after spread now other before fs more
silent_same spread now said other before [] more s = refl
silent_same spread now said other before (f ∷ fs) more s =
    let next = standing_after now f.event.changes in
    let none = λ (xs : List Head). ap (heard_from spread next.key.signs before (said_at xs f) []) s.0 in
    let sounds = λ (xs : List Head) (here : List score.AlteredHead).
    (sounds_from 0 f.event.id 0 here ++ events_sounds 0 spread next xs here fs)
    ++ more (heard_after spread next xs here fs) in
    ap (sounds (said_after said f)) (none said)
    ∙ silent_same spread next (said_after said f) (said_after other f) [] fs more s.1
    ∙ ap (sounds (said_after other f)) (sym (none other))

ready_sounds : {S : Type 0} (spread : Spread) (now : StaffState) (said : List Head) (before : List score.AlteredHead)
    (fs : List Flat) (more : List score.AlteredHead → List Sound)
    → (said ≡ []) ⊎ (HaveNoHeads fs × S)
    → sounds_after spread now said before fs more ≡ sounds_after spread now [] before fs more
ready_sounds spread now said before fs more (inl e) = ap (λ xs. sounds_after spread now xs before fs more) e
ready_sounds spread now said before fs more (inr s) = silent_same spread now said [] before fs more s.0

record AreClear (c : Clef) (ms : List Measure) : Type 0 where
  reach : AreInReach c (events_of ms)
  chords : All (λ m. All IsClearFlat (flats_of m.body)) ms
  bars : AreSeenBars ms

abbrev joined : List (List Measure) → List Measure
joined systems = flat_map (λ (ms : List Measure). ms) systems

-- what is heard of systems, whatever was in force before the first
abbrev AreHeard : Spread → List (List Measure) → Type 0
AreHeard spread systems =
    (first : Option Bar) (ear : Listener) (at now : StaffState) (before : List score.AlteredHead) (prev : List Head)
    (all : List page.Heard)
    → IsReady ear at before prev all (joined systems) → AreClear now.clef (joined systems)
    → (hear_columns spread ear (systems_columns first now prev systems)).heard
    ≡ all ++ map heard_sound (measures_sounds 0 spread now before (joined systems))

-- the measures of a system, and the systems after it
measures_law : (spread : Spread) (systems : List (List Measure)) → AreHeard spread systems
    → (in_head : Bool) (ear : Listener) (now : StaffState) (before : List score.AlteredHead) (prev : List Head)
    (all : List page.Heard) (ms : List Measure)
    → IsReady ear (if in_head then shown_first now ms else now) before prev all (ms ++ joined systems)
    → AreClear now.clef (ms ++ joined systems)
    → (hear_columns spread ear
    (heard_measures in_head now prev ms
    ++ systems_columns None (standing_through now ms) (last_through prev ms) systems)).heard
    ≡ all ++ map heard_sound (measures_sounds 0 spread now before (ms ++ joined systems))
measures_law spread systems more true ear now before prev all [] r clear = more None ear now now before prev all r clear
measures_law spread systems more false ear now before prev all [] r clear =
    more None ear now now before prev all r clear
measures_law spread systems more in_head ear now before prev all (m ∷ ms) r clear =
    let fs = flats_of m.body in
    let rest = ms ++ joined systems in
    let now' = staff_state_after now fs in
    let before' = heard_after spread now r.said before fs in
    let prev' = last_event prev fs in
    let ev = heard_events in_head now prev fs in
    let cols = heard_measures false now' prev' ms in
    let following = systems_columns None (standing_through now' ms) (last_through prev' ms) systems in
    let ear' = hear_columns spread ear ev in
    let sounds = events_sounds 0 spread now r.said before fs in
    let reach = reach_cut now fs (events_of rest) clear.reach in
    let bar = bar_column m.bar ∷ [] in
    ap (λ x. x.heard) (
    ap (hear_columns spread ear) (append_assoc (ev ++ bar) cols following)
    ∙ columns_append spread ear (ev ++ bar) (cols ++ following)
    ∙ ap (λ x. hear_columns spread x (cols ++ following)) (columns_append spread ear ev bar)
    )
    ∙ measures_law spread systems more false (hear_column spread ear' (bar_column m.bar)) now' before' prev'
    (all ++ map heard_sound sounds) ms
    (after_bar spread ear' now' (said_through r.said fs) before' prev' (all ++ map heard_sound sounds) m.bar rest
    (events_law spread in_head ear now r.said before prev all fs r.knows reach.0
    (All-head (λ (x : Measure). All IsClearFlat (flats_of x.body)) m rest clear.chords))
    (seen_or_left (said_through r.said fs) m.bar clear.bars.0) (bar_tells m.bar))
    (record {
      reach = reach.1;
      chords = All-tail (λ (x : Measure). All IsClearFlat (flats_of x.body)) m rest clear.chords;
      bars = clear.bars.1;
    })
    ∙ sounds_join all sounds (measures_sounds 0 spread now' before' rest)
    ∙ ap (λ t. all ++ map heard_sound t)
    (ready_sounds spread now r.said before fs (λ here. measures_sounds 0 spread now' here rest) r.left)

systems_law : (spread : Spread) (systems : List (List Measure)) → AreHeard spread systems
systems_law spread [] = λ first ear at now before prev all r clear. r.knows.hears.all_is ∙ sym (append-nil all)
systems_law spread (ms ∷ systems) = λ first ear at now before prev all r clear.
    let shown = shown_first now ms in
    let top = hear_column spread ear (head_column shown) in
    let cols = heard_measures true now prev ms in
    let following = systems_columns None (standing_through now ms) (last_through prev ms) systems in
    let hears =
    head_law spread ear at.clef shown.clef at.key.signs shown.key.signs r.said before all [] r.knows.hears in
    ap (λ x. x.heard)
    (ap (hear_columns spread top) (append_assoc (first_columns first) cols following)
    ∙ columns_append spread top (first_columns first) (cols ++ following))
    ∙ measures_law spread systems (systems_law spread systems) true (hear_columns spread top (first_columns first)) now
    before prev all ms
    (first_law spread top shown before prev all (ms ++ joined systems) first
    (record {
      said = r.said;
      knows = record { hears = hears; same = r.knows.same; apart = r.knows.apart };
      left = r.left;
    })) clear

pub clear_voice : ClearVoicesAreHeard
clear_voice spread v systems parted good clear =
    let now = standing_of v in
    sym (heard_law spread (heard_voice v systems))
    ∙ systems_law spread systems (Some v.first) fresh
    (record { clef = Clef.Treble; key = record { signs = [] }; meter = v.meter }) now [] [] []
    (record {
      said = [];
      knows = record {
        hears = record { clef_is = refl; key = λ p. refl; said_is = refl; before_is = tt; here = refl; all_is = refl };
        same = refl;
        apart = tt;
      };
      left = inl refl;
    })
    (subst (AreClear v.clef) (sym parted) (record { reach = good.reach; chords = clear.chords; bars = clear.bars }))
    ∙ ap (λ ms. map heard_sound (measures_sounds 0 spread now [] ms)) parted
    ∙ ap (map heard_sound)
    (sym (append-nil (measures_sounds 0 spread now [] v.measures))
    ∙ voices_are 0 spread (v ∷ [])
    ∙ append-nil (event_sounds 0 spread [] (seen_in now v.measures)))
