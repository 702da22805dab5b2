-- What is heard at the columns of a clear voice is what the voice sounds.
use Rattle.std.proofs.Common.{inl, inr, ◌≡◌, refl, sym, ap, ◌∙◌, ℕ, ◌+◌, pos, Bool, true, false, ◌&&◌, ◌||◌, List, []}
use Rattle.std.proofs.Common.{◌∷◌, ◌++◌, map, flat_map, append_assoc, append-nil, Option, Some, None}
use Rattle.std.proofs.lemmas.List.{map-append}
use Rattle.std.proofs.lemmas.List.Elements.{All-head, All-tail}
use Rattle.std.specs.Prelude.{◌⊎◌, if◌then◌else◌}
use Rattle.std.specs.List.{All}
use Rattle.mus_units.specs.declared.glyph.Glyph.{Glyph}
use Rattle.mus_units.specs.declared.key.Sign.{Sign}
use Rattle.mus_units.specs.declared.key.Spread.{Spread}
use Rattle.mus_units.specs.declared.note.Bar.{Bar}
use Rattle.mus_units.specs.declared.note.Head.{Head}
use Rattle.mus_units.specs.declared.pitch.Clef.{Clef}
use Rattle.mus_score.specs.declared.score.Event.{Event}
use Rattle.mus_score.specs.declared.score.Flat.{Flat}
use Rattle.mus_score.specs.declared.score.Measure.{Measure}
use Rattle.mus_score.specs.GoodScore.{AreInReach, IsInReach, clef_at}
use Rattle.mus_onsets.specs.Keys.{has_features}
use Rattle.mus_ink.specs.Bars.{bar_glyph}
use Rattle.mus_drawn.specs.declared.sounds.Sound.{Sound}
use Rattle.mus_drawn.specs.declared.standing.StaffState.{StaffState}
use Rattle.mus_drawn.specs.Drawn.{standing_after, staff_state_after}
use Rattle.mus_drawn.specs.Hearing.{events_sounds, heard_at, heard_after, said_at, said_after, sounds_from}
use Rattle.mus_drawn.specs.declared.sounds.AlteredHead as score
use Rattle.ps_heard.specs.declared.column.Heard as page
use Rattle.ps_heard.specs.declared.column.Listener.{Listener}
use Rattle.ps_heard.specs.declared.column.Role.{Role}
use Rattle.ps_heard.specs.Columns.{noted}
use Rattle.ps_heard.specs.Ear.{hear_column, hear_columns}
use Rattle.ps_heard.specs.Roles.{role_of}
use Rattle.ps_heard.proofs.EarLaws.{columns_append}
use Rattle.law_voice_sound.specs.Clear.{DistinctPitches, AreSilentMeasures, IsClearFlat}
use Rattle.law_voice_sound.specs.Noted.{note}
use Rattle.law_voice_sound.specs.Sounds.{heard_sound}
use Rattle.law_voice_sound.specs.Columns.{bar_column, change_columns, chord_column, event_columns, heard_events}
use Rattle.law_voice_sound.specs.Columns.{first_columns, grace_columns, last_event, state_shown, tie_heights}
use Rattle.law_voice_sound.proofs.Columns.{Hears, grace_law, heads_heard, heads_in, note_law}
use Rattle.law_voice_sound.proofs.Listening.{nothing_known}
use Rattle.law_voice_sound.proofs.Openings.{bar_law, change_law}
use Rattle.law_voice_sound.proofs.Reaching.{AllReach, as_heard}
use Rattle.law_voice_sound.proofs.Ties.{ties_end}

-- what a listener knows at the point that the voice has reached
pub record Knows (ear : Listener) (at : StaffState) (said : List Head) (before : List score.AlteredHead)
    (prev : List Head) (all : List page.Heard) : Type 0 where
  pub hears : Hears ear at.clef at.key.signs said before all
  pub same : heads_in before ≡ prev
  pub apart : DistinctPitches prev

reach_of : (c : Clef) (hs : List Head) → All (IsInReach c) hs → AllReach c hs
reach_of c [] a = tt
reach_of c (h ∷ hs) a = (All-head (IsInReach c) h hs a, reach_of c hs (All-tail (IsInReach c) h hs a))

graces_law : (spread : Spread) (ear : Listener) (c : Clef) (signs : List Sign) (said : List Head)
    (before : List score.AlteredHead) (all : List page.Heard) (gs : List Event)
    → Hears ear c signs said before all → All (λ g. All (IsInReach c) g.heads) gs
    → All (λ g. DistinctPitches g.heads) gs
    → Hears (hear_columns spread ear (grace_columns c gs)) c signs (said ++ flat_map (λ g. g.heads) gs) before all
graces_law spread ear c signs said before all [] h r a = rw (append-nil said) h
graces_law spread ear c signs said before all (g ∷ gs) h r a =
    rw (← append_assoc said g.heads (flat_map (λ (x : Event). x.heads) gs))
    (graces_law spread (hear_column spread ear (chord_column Role.Grace c g.heads [])) c signs (said ++ g.heads) before
    all gs
    (grace_law spread ear c signs said before all g.heads [] h
    (reach_of c g.heads (All-head (λ (x : Event). All (IsInReach c) x.heads) g gs r))
    (All-head (λ (x : Event). DistinctPitches x.heads) g gs a))
    (All-tail (λ (x : Event). All (IsInReach c) x.heads) g gs r)
    (All-tail (λ (x : Event). DistinctPitches x.heads) g gs a))

-- the sounds of an event, and of what follows it
sounds_are : (id k : ℕ) (xs : List score.AlteredHead) → map as_heard xs ≡ map heard_sound (sounds_from 0 id k xs)
sounds_are id k [] = refl
sounds_are id k (x ∷ xs) = ap (λ r. as_heard x ∷ r) (sounds_are id (k + 1) xs)

pub sounds_join : (all : List page.Heard) (xs ys : List Sound)
    → (all ++ map heard_sound xs) ++ map heard_sound ys ≡ all ++ map heard_sound (xs ++ ys)
sounds_join all xs ys =
    append_assoc all (map heard_sound xs) (map heard_sound ys) ∙ ap (λ t. all ++ t) (sym (map-append heard_sound xs ys))

event_law : (spread : Spread) (ear : Listener) (now : StaffState) (said : List Head) (before : List score.AlteredHead)
    (prev : List Head) (all : List page.Heard) (f : Flat)
    → Knows ear (standing_after now f.event.changes) said before prev all
    → All (IsInReach (clef_at now.clef f.event)) f.event.heads
    → All (λ g. All (IsInReach (clef_at now.clef f.event)) g.heads) f.graces
    → IsClearFlat f
    → Knows (hear_columns spread ear (event_columns now prev f)) (standing_after now f.event.changes)
    (said_after said f)
    (heard_at spread now said before f) f.event.heads
    (all ++ map heard_sound (sounds_from 0 f.event.id 0 (heard_at spread now said before f)))
event_law spread ear now said before prev all f k reach graces clear =
    let c = clef_at now.clef f.event in
    let hs = f.event.heads in
    let signs = (standing_after now f.event.changes).key.signs in
    let near = reach_of c hs reach in
    let ties = tie_heights c prev hs in record {
      hears =
          rw (
            columns_append spread ear (grace_columns c f.graces) (chord_column Role.Head c hs ties ∷ []),
            ← sounds_are f.event.id 0 (heard_at spread now said before f),
          )
          (note_law spread (hear_columns spread ear (grace_columns c f.graces)) c signs (said_at said f) before all hs
          ties
          (graces_law spread ear c signs said before all f.graces k.hears graces clear.graces) (rw k.same k.apart) near
          clear.chord (rw k.same (ties_end c prev hs near)));
      same = heads_heard spread signs before (said_at said f) [] hs;
      apart = clear.chord;
    }

-- the change before it, unless the head of its system has shown it
change_step : (spread : Spread) (in_head : Bool) (ear : Listener) (now : StaffState) (said : List Head)
    (before : List score.AlteredHead) (prev : List Head) (all : List page.Heard) (f : Flat)
    → Knows ear (if in_head then standing_after now f.event.changes else now) said before prev all
    → Knows (hear_columns spread ear (change_columns in_head now f)) (standing_after now f.event.changes) said before
    prev all
change_step spread true ear now said before prev all f k = k
change_step spread false ear now said before prev all f k =
    record {
      hears = change_law spread ear now.clef now.key now.key.signs f.event.changes.clef f.event.changes.key said before
          all [] k.hears refl;
      same = k.same;
      apart = k.apart;
    }

abbrev pub said_through : List Head → List Flat → List Head
said_through said [] = said
said_through said (f ∷ fs) = said_through (said_after said f) fs

pub events_law : (spread : Spread) (in_head : Bool) (ear : Listener) (now : StaffState) (said : List Head)
    (before : List score.AlteredHead) (prev : List Head) (all : List page.Heard) (fs : List Flat)
    → Knows ear (if in_head then state_shown now fs else now) said before prev all
    → AreInReach now.clef fs
    → All IsClearFlat fs
    → Knows (hear_columns spread ear (heard_events in_head now prev fs)) (staff_state_after now fs)
    (said_through said fs)
    (heard_after spread now said before fs) (last_event prev fs)
    (all ++ map heard_sound (events_sounds 0 spread now said before fs))
events_law spread true ear now said before prev all [] k r a = rw (append-nil all) k
events_law spread false ear now said before prev all [] k r a = rw (append-nil all) k
events_law spread in_head ear now said before prev all (f ∷ fs) k r a =
    let here = heard_at spread now said before f in
    let ch = change_columns in_head now f in
    let ev = event_columns now prev f in
    let next = standing_after now f.event.changes in
    let sounds = sounds_from 0 f.event.id 0 here in
    rw (
      columns_append spread ear (ch ++ ev) (heard_events false next f.event.heads fs),
      columns_append spread ear ch ev,
      ← sounds_join all sounds (events_sounds 0 spread next (said_after said f) here fs),
    )
    (events_law spread false (hear_columns spread (hear_columns spread ear ch) ev) next (said_after said f) here
    f.event.heads (all ++ map heard_sound sounds) fs
    (event_law spread (hear_columns spread ear ch) now said before prev all f
    (change_step spread in_head ear now said before prev all f k) r.0 r.1 (All-head IsClearFlat f fs a))
    r.2 (All-tail IsClearFlat f fs a))

-- ---- bars: nothing is said after one, or no note follows
pub record IsReady (ear : Listener) (at : StaffState) (before : List score.AlteredHead) (prev : List Head)
    (all : List page.Heard) (ms : List Measure) : Type 0 where
  pub said : List Head
  pub knows : Knows ear at said before prev all
  pub left : (said ≡ []) ⊎ AreSilentMeasures ms

-- what a bar reports: that it ends a measure, if it is seen
pub Telling : Glyph → Type 0
Telling g =
    (noted (role_of g (pos 0)) (pos 0) ≡ note Role.Bar (pos 0) ∷ [])
    ⊎ ((g ≡ Glyph.Nn) × (noted (role_of g (pos 0)) (pos 0) ≡ []))

bar_choice : (a b d e f : Bool)
    → Telling
    (if a && b then Glyph.Bb
    else if a then Glyph.Bf
    else if b then Glyph.Bi else if d then Glyph.Bw else if e then Glyph.Bo else if f then Glyph.Nn else Glyph.Bt)
unfolding Telling
bar_choice true true d e f = inl refl
bar_choice true false d e f = inl refl
bar_choice false true d e f = inl refl
bar_choice false false true e f = inl refl
bar_choice false false false true f = inl refl
bar_choice false false false false true = inr (refl, refl)
bar_choice false false false false false = inl refl

pub bar_tells : (b : Bar) → Telling (bar_glyph b)
unfolding bar_glyph
bar_tells b = bar_choice (b.end || b.last) (b.start || b.initial) b.double b.dotted b.unseen

pub after_bar : (spread : Spread) (ear : Listener) (now : StaffState) (said : List Head)
    (before : List score.AlteredHead) (prev : List Head) (all : List page.Heard) (b : Bar) (ms : List Measure)
    → Knows ear now said before prev all
    → (bar_glyph b ≡ Glyph.Nn → (said ≡ []) ⊎ AreSilentMeasures ms)
    → Telling (bar_glyph b)
    → IsReady (hear_column spread ear (bar_column b)) now before prev all ms
unfolding Telling
after_bar spread ear now said before prev all b ms k left (inl e) =
    record {
      said = [];
      knows = record {
        hears = rw e (bar_law spread ear now.clef now.key.signs said before all [] k.hears);
        same = k.same;
        apart = k.apart;
      };
      left = inl refl;
    }
after_bar spread ear now said before prev all b ms k left (inr e) =
    record { said = said; knows = rw (e.1, nothing_known spread ear [] k.hears.here) k; left = left e.0 }

pub seen_or_left : {S : Type 0} (said : List Head) (b : Bar)
    → (bar_glyph b ≡ Glyph.Nn → ⊥) ⊎ S → bar_glyph b ≡ Glyph.Nn → (said ≡ []) ⊎ S
seen_or_left said b (inl seen) e = absurd (seen e)
seen_or_left said b (inr s) e = inr s

-- the bar before the first measure
pub first_law : (spread : Spread) (ear : Listener) (now : StaffState) (before : List score.AlteredHead)
    (prev : List Head) (all : List page.Heard) (ms : List Measure) (first : Option Bar)
    → IsReady ear now before prev all ms
    → IsReady (hear_columns spread ear (first_columns first)) now before prev all ms
first_law spread ear now before prev all ms None r = r
first_law spread ear now before prev all ms (Some bar) r =
    elim (has_features bar) as
    (λ b. IsReady (hear_columns spread ear (if b then bar_column bar ∷ [] else [])) now before prev all ms)
    [ true ↦ after_bar spread ear now r.said before prev all bar ms r.knows (λ _. r.left) (bar_tells bar) | false ↦ r ]
