-- What a listener knows after each column of a voice, by what the score has there.
use Rattle.std.proofs.Common.{◌≡◌, refl, sym, ap, ◌∙◌, List, [], ◌∷◌, ◌++◌, map, reverse, append-nil, append_assoc}
use Rattle.std.proofs.Common.{Bool, true, false, ◌&&◌, ◌||◌, cond}
use Rattle.std.proofs.lemmas.Bool.{or_parts}
use Rattle.std.proofs.lemmas.Grind.{reverse_onto}
use Rattle.std.proofs.lemmas.List.{map-append}
use Rattle.std.specs.Prelude.{⊤, ℤ, Option, Some, None, unwrap_or, if◌then◌else◌}
use Rattle.std.specs.List.{find, list_any}
use Rattle.std.specs.Option.{option_map, option_and_then}
use Rattle.std.specs.Ordering.{int_eq}
use Rattle.mus_units.specs.declared.key.Sign.{Sign}
use Rattle.mus_units.specs.declared.key.Spread.{Spread}
use Rattle.mus_units.specs.declared.note.Head.{Head}
use Rattle.mus_units.specs.declared.pitch.Alter.{Alter}
use Rattle.mus_units.specs.declared.pitch.Clef.{Clef}
use Rattle.mus_units.specs.declared.pitch.Pitch.{Pitch}
use Rattle.mus_pitch.specs.Alteration.{is_said, key_sign, said_sign}
use Rattle.mus_arcs.specs.Arcs.{has_pitch}
use Rattle.mus_ink.specs.Notes.{dy_of}
use Rattle.mus_drawn.specs.Hearing.{heard, heard_alter, heard_from, is_heard_at, is_tied_to, partner_of}
use Rattle.mus_drawn.specs.declared.sounds.AlteredHead as score
use Rattle.ps_heard.specs.declared.column.Heard as page
use Rattle.ps_heard.proofs.EarLaws.{ear_with, walked}
use Rattle.ps_heard.specs.declared.column.HeardColumn.{HeardColumn}
use Rattle.ps_heard.specs.declared.column.Listener.{Listener}
use Rattle.ps_heard.specs.declared.column.HeardGlyph.{HeardGlyph}
use Rattle.ps_heard.specs.declared.column.Role.{Role}
use Rattle.ps_heard.specs.Ear.{column_closed, hear_column}
use Rattle.ps_heard.specs.Roles.{pitch_at}
use Rattle.ps_heard.specs.Hearing.{clef_after, entries, first_there, gives_key, head_of_glyph, heads_from}
use Rattle.ps_heard.specs.Hearing.{heard_of_glyph, is_head, last_or, said_with_column, said_with, sign_of_glyph}
use Rattle.ps_heard.specs.Hearing.{tied_from}
use Rattle.law_voice_sound.specs.Clear.{DistinctPitches}
use Rattle.law_voice_sound.specs.Columns.{chord_column}
use Rattle.law_voice_sound.specs.Noted.{head_notes, note}
use Rattle.law_voice_sound.proofs.Chords.{NoneHeard, SignsRead, chord_key, heads_passed, none_heard, none_more}
use Rattle.law_voice_sound.proofs.Chords.{signs_passed, signs_read}
use Rattle.law_voice_sound.proofs.{Pitches.{pitch_found, pitch_read}, Reaching.{AllReach, TiesEnd, as_heard, ties_to}}

-- a head as a page shows it
abbrev pub shown_head : Head → Head
shown_head h = record { pitch = h.pitch; sign = h.sign; tied = false }

abbrev pub heads_in : List score.AlteredHead → List Head
heads_in xs = map (λ x. x.head) xs

-- keys that say the same of each letter
abbrev pub SameKey : List Sign → List Sign → Type 0
SameKey k signs = (p : Pitch) → unwrap_or (key_sign p k) Alter.Natural ≡ unwrap_or (key_sign p signs) Alter.Natural

-- the last heads of the voice are the last that were heard; after a rest there are none, and no tie comes from it
abbrev pub SameBefore : List score.AlteredHead → List page.Heard → Type 0
SameBefore [] eb = ⊤
SameBefore (x ∷ xs) eb = eb ≡ map as_heard (x ∷ xs)

-- What a listener knows after a column: the clef and key in force, the heads said in the measure, those of the last
-- event, and all heads so far.
pub record Hears (ear : Listener) (clef : Clef) (signs : List Sign) (said : List Head) (before : List score.AlteredHead)
    (all : List page.Heard) : Type 0 where
  pub clef_is : ear.clef ≡ clef
  pub key : SameKey ear.key.signs signs
  pub said_is : ear.said ≡ map shown_head said
  pub before_is : SameBefore before ear.before
  pub here : ear.here ≡ []
  pub all_is : ear.heard ≡ all

-- ---- a column, by what its notes report
pub column_law : {ear : Listener} {c : Clef} {signs : List Sign} {said : List Head} {before : List score.AlteredHead}
    {all : List page.Heard} (spread : Spread) (col : HeardColumn) (c' : Clef) (signs' key : List Sign)
    (said' : List Head) (before' : List score.AlteredHead) (all' heads : List page.Heard)
    → Hears ear c signs said before all → clef_after c col.notes ≡ c'
    → (if gives_key col.leads col.notes then entries c' col.notes else ear.key.signs) ≡ key → SameKey key signs'
    → said_with_column c' col (map shown_head said) col.notes ≡ map shown_head said'
    → heads_from spread col c' key ear.before (map shown_head said) col.notes ≡ heads
    → SameBefore before' (last_or ear.before heads) → all ++ heads ≡ all'
    → Hears (hear_column spread ear col) c' signs' said' before' all'
unfolding hear_column
column_law {ear} {c} {signs} {said} {before} {all} spread col c' signs' key said' before' all' heads h clef_is key_is
    same said_is heads_are before_is all_is =
    let ns = col.notes in
    let clef = ap (λ d. clef_after d ns) h.clef_is ∙ clef_is in
    let keys = ap (λ d. if gives_key col.leads ns then entries d ns else ear.key.signs) clef ∙ key_is in
    let e : hear_column spread ear col ≡ ear_with c' key (map shown_head said') (last_or ear.before heads) [] all'
    = ap column_closed
    (walked spread col (clef_after ear.clef ns)
    (if gives_key col.leads ns then entries (clef_after ear.clef ns) ns else ear.key.signs) ear.before ear.heard ns
    ear.said ear.here)
    ∙ (λ i.
    column_closed
    (ear_with (clef i) (keys i) (said_with_column (clef i) col (h.said_is i) ns) ear.before
    (h.here i ++ heads_from spread col (clef i) (keys i) ear.before (h.said_is i) ns) (h.all_is i)))
    ∙ (λ i. ear_with c' key (said_is i) (last_or ear.before (heads_are i)) [] (all ++ heads_are i))
    ∙ ap (ear_with c' key (map shown_head said') (last_or ear.before heads) []) all_is in
    rw e (record { clef_is = refl; key = same; said_is = refl; before_is = before_is; here = refl; all_is = refl })

-- ---- signs that were said
found_shown : (spread : Spread) (p : Pitch) (hs : List Head)
    → option_and_then (λ k. k.sign) (find (is_said spread p) (map shown_head hs))
    ≡ option_and_then (λ k. k.sign) (find (is_said spread p) hs)
found_shown spread p [] = refl
found_shown spread p (h ∷ hs) = one (is_said spread p h) (found_shown spread p hs)
  where
    one : (b : Bool)
        → option_and_then (λ k. k.sign) (find (is_said spread p) (map shown_head hs))
        ≡ option_and_then (λ k. k.sign) (find (is_said spread p) hs)
        → option_and_then (λ k. k.sign) (cond b (Some (shown_head h)) (find (is_said spread p) (map shown_head hs)))
        ≡ option_and_then (λ k. k.sign) (cond b (Some h) (find (is_said spread p) hs))
    one true e = refl
    one false e = e

back_shown : (hs : List Head) → reverse (map shown_head hs) ≡ map shown_head (reverse hs)
back_shown [] = refl
back_shown (h ∷ hs) =
    reverse_onto (map shown_head hs) (shown_head h) [] ∙ ap (λ r. r ++ shown_head h ∷ []) (back_shown hs)
    ∙ sym (map-append shown_head (reverse hs) (h ∷ [])) ∙ ap (map shown_head) (sym (reverse_onto hs h []))

said_shown : (spread : Spread) (p : Pitch) (hs : List Head)
    → said_sign spread p (map shown_head hs) ≡ said_sign spread p hs
said_shown spread p hs = rw (back_shown hs) (found_shown spread p (reverse hs))

-- ---- ties
none_tied : (p : Pitch) (xs : List score.AlteredHead)
    → list_any (has_pitch p) (heads_in xs) ≡ false → (find (is_tied_to p) xs ≡ None) × (ties_to p (heads_in xs) ≡ false)
none_tied p [] e = (refl, refl)
none_tied p (x ∷ xs) e =
    let parts = or_parts (has_pitch p x.head) (list_any (has_pitch p) (heads_in xs)) e in
    rw parts.0 (one x.head.tied (none_tied p xs parts.1))
  where
    one : (t : Bool)
        → (find (is_tied_to p) xs ≡ None) × (ties_to p (heads_in xs) ≡ false)
        → (cond (t && false) (Some x) (find (is_tied_to p) xs) ≡ None)
        × (((t && false) || ties_to p (heads_in xs)) ≡ false)
    one true e = e
    one false e = e

-- a tie that ends at a head comes from the head that the listener finds
tie_found : (p : Pitch) (xs : List score.AlteredHead)
    → DistinctPitches (heads_in xs)
    → tied_from (ties_to p (heads_in xs)) (map as_heard xs) p ≡ option_map as_heard (find (is_tied_to p) xs)
tie_found p [] apart = refl
tie_found p (x ∷ xs) apart = one x.head.tied (has_pitch p x.head) refl (tie_found p xs apart.1)
  where
    past : (b : Bool)
        → has_pitch p x.head ≡ false → tied_from b (as_heard x ∷ map as_heard xs) p ≡ tied_from b (map as_heard xs) p
    past true e = rw e refl
    past false e = refl

    one : (t b : Bool) → has_pitch p x.head ≡ b
        → tied_from (ties_to p (heads_in xs)) (map as_heard xs) p ≡ option_map as_heard (find (is_tied_to p) xs)
        → tied_from ((t && b) || ties_to p (heads_in xs)) (as_heard x ∷ map as_heard xs) p
        ≡ option_map as_heard (cond (t && b) (Some x) (find (is_tied_to p) xs))
    one true true e more = rw e refl
    one false true e more =
        let none = none_tied p xs (ap (λ q. list_any (has_pitch q) (heads_in xs)) (pitch_found p x.head e) ∙ apart.0) in
        rw (none.1, none.0) refl
    one true false e more = past (ties_to p (heads_in xs)) e ∙ more
    one false false e more = past (ties_to p (heads_in xs)) e ∙ more

tie_same : (p : Pitch) (before : List score.AlteredHead) (eb : List page.Heard)
    → DistinctPitches (heads_in before) → SameBefore before eb
    → tied_from (ties_to p (heads_in before)) eb p ≡ option_map as_heard (find (is_tied_to p) before)
tie_same p [] eb apart same = refl
tie_same p (x ∷ xs) eb apart same = rw same (tie_found p (x ∷ xs) apart)

-- ---- the heads of a chord, one after another
said_more : (role : Role) (c : Clef) (notes : List HeardGlyph) (said : List Head) (h : Head)
    → ((g : Head) (gs : List Head) → said_with role g gs ≡ gs ++ g ∷ [])
    → pitch_at c (dy_of c h) ≡ h.pitch → sign_of_glyph (dy_of c h) notes ≡ h.sign
    → said_with role (head_of_glyph c (dy_of c h) notes) (map shown_head said) ≡ map shown_head (said ++ h ∷ [])
said_more role c notes said h one pitch sign =
    one (head_of_glyph c (dy_of c h) notes) (map shown_head said)
    ∙ (λ i. map shown_head said ++ record { pitch = pitch i; sign = sign i; tied = false } ∷ [])
    ∙ sym (map-append shown_head said (h ∷ []))

chord_said : (role : Role) (c : Clef) (col : HeardColumn) (said hs : List Head)
    → ((g : Head) (gs : List Head) → said_with role g gs ≡ gs ++ g ∷ []) → AllReach c hs → SignsRead c col.notes hs
    → said_with_column c col (map shown_head said) (head_notes role c hs) ≡ map shown_head (said ++ hs)
chord_said role c col said [] one reach read = ap (map shown_head) (sym (append-nil said))
chord_said role c col said (h ∷ hs) one reach read =
    ap (λ s. said_with_column c col s (head_notes role c hs))
    (said_more role c col.notes said h one (pitch_read c h reach.0) read.0)
    ∙ chord_said role c col (said ++ h ∷ []) hs one reach.1 read.1 ∙ ap (map shown_head) (append_assoc said (h ∷ []) hs)

graces_silent : (spread : Spread) (c : Clef) (col : HeardColumn) (key : List Sign) (eb : List page.Heard)
    (said hs : List Head)
    → heads_from spread col c key eb said (head_notes Role.Grace c hs) ≡ []
graces_silent spread c col key eb said [] = refl
graces_silent spread c col key eb said (h ∷ hs) =
    graces_silent spread c col key eb (said ++ head_of_glyph c (dy_of c h) col.notes ∷ []) hs

alter_same : (spread : Spread) (p : Pitch) (own : Option Alter) (partner : Option score.AlteredHead) (said : List Head)
    (key signs : List Sign)
    → SameKey key signs
    → first_there own (option_map (λ x. x.alter) (option_map as_heard partner))
    (said_sign spread p (map shown_head said)) (key_sign p key)
    ≡ heard_alter own partner p said spread signs
alter_same spread p (Some a) partner said key signs same = refl
alter_same spread p None (Some x) said key signs same = refl
alter_same spread p None None said key signs same = rw (said_shown spread p said, same p) refl

head_heard : (spread : Spread) (c : Clef) (col : HeardColumn) (key signs : List Sign) (eb : List page.Heard)
    (before so_far : List score.AlteredHead) (said : List Head) (h : Head)
    → SameKey key signs
    → pitch_at c (dy_of c h) ≡ h.pitch → sign_of_glyph (dy_of c h) col.notes ≡ h.sign
    → tied_from (list_any (int_eq (dy_of c h)) col.ties) eb h.pitch
    ≡ option_map as_heard (find (is_tied_to h.pitch) before)
    → list_any (is_heard_at h.pitch) so_far ≡ false
    → heard_of_glyph spread col c key eb (map shown_head said) (dy_of c h)
    ≡ as_heard (heard spread signs before said so_far h)
head_heard spread c col key signs eb before so_far said h same pitch sign tie new =
    let partner : partner_of before so_far h.pitch ≡ find (is_tied_to h.pitch) before = rw new refl in
    rw (pitch, sign, tie, partner)
    (ap (λ a. record { pitch = h.pitch; alter = a })
    (alter_same spread h.pitch h.sign (find (is_tied_to h.pitch) before) said key signs same))

chord_heard : (spread : Spread) (c : Clef) (col : HeardColumn) (key signs : List Sign) (eb : List page.Heard)
    (before so_far : List score.AlteredHead) (said hs : List Head)
    → SameKey key signs
    → ((p : Pitch) → tied_from (ties_to p (heads_in before)) eb p ≡ option_map as_heard (find (is_tied_to p) before))
    → AllReach c hs
    → DistinctPitches hs
    → SignsRead c col.notes hs → TiesEnd c col.ties (heads_in before) hs → NoneHeard so_far hs
    → map as_heard so_far ++ heads_from spread col c key eb (map shown_head said) (head_notes Role.Head c hs)
    ≡ map as_heard (heard_from spread signs before said so_far hs)
chord_heard spread c col key signs eb before so_far said [] same tied reach apart read ends new =
    append-nil (map as_heard so_far)
chord_heard spread c col key signs eb before so_far said (h ∷ hs) same tied reach apart read ends new =
    let x = heard spread signs before said so_far h in let pitch = pitch_read c h reach.0 in
    let tie : tied_from (list_any (int_eq (dy_of c h)) col.ties) eb h.pitch ≡ option_map as_heard
    (find (is_tied_to h.pitch) before) = rw ends.0 (tied h.pitch) in
    let one = head_heard spread c col key signs eb before so_far said h same pitch read.0 tie new.0 in
    let more = said_more Role.Head c col.notes said h (λ g gs. refl) pitch read.0 in
    let rest = heads_from spread col c key eb (map shown_head (said ++ h ∷ [])) (head_notes Role.Head c hs) in
    (λ i. map as_heard so_far ++ (one i ∷ heads_from spread col c key eb (more i) (head_notes Role.Head c hs)))
    ∙ sym (append_assoc (map as_heard so_far) (as_heard x ∷ []) rest)
    ∙ ap (λ t. t ++ rest) (sym (map-append as_heard so_far (x ∷ [])))
    ∙ chord_heard spread c col key signs eb before (so_far ++ x ∷ []) (said ++ h ∷ []) hs same tied reach.1 apart.1
    read.1 ends.1 (none_more so_far x hs apart.0 new.1)

-- ---- the column of an event, and that of a grace
chord_law : {ear : Listener} {c : Clef} {signs : List Sign} {said : List Head} {before : List score.AlteredHead}
    {all : List page.Heard} (spread : Spread) (role : Role) (before' : List score.AlteredHead)
    (all' heads : List page.Heard) (hs : List Head) (ties : List ℤ)
    → Hears ear c signs said before all → is_head role ≡ true
    → ((d : Clef) (dy : ℤ) (ns : List HeardGlyph) → clef_after d (note role dy ∷ ns) ≡ clef_after d ns)
    → ((g : Head) (gs : List Head) → said_with role g gs ≡ gs ++ g ∷ [])
    → AllReach c hs
    → SignsRead c (chord_column role c hs ties).notes hs
    → heads_from spread (chord_column role c hs ties) c ear.key.signs ear.before (map shown_head said)
    (head_notes role c hs)
    ≡ heads
    → SameBefore before' (last_or ear.before heads)
    → all ++ heads ≡ all'
    → Hears (hear_column spread ear (chord_column role c hs ties)) c signs (said ++ hs) before' all'
chord_law {ear} {c} {signs} {said} spread role before' all' heads hs ties h head clef one reach read heard_is before_is
    all_is =
    let col = chord_column role c hs ties in let ns = head_notes role c hs in
    column_law spread col c signs ear.key.signs (said ++ hs) before' all' heads h
    (signs_passed (clef_after c) (λ a dy ms. refl) c hs ns ∙ heads_passed (clef_after c) role (clef c) c hs)
    (ap (λ b. if b then entries c col.notes else ear.key.signs) (chord_key role c hs head)) h.key
    (signs_passed (said_with_column c col (map shown_head said)) (λ a dy ms. refl) c hs ns
    ∙ chord_said role c col said hs one reach read)
    (signs_passed (heads_from spread col c ear.key.signs ear.before (map shown_head said)) (λ a dy ms. refl) c hs ns
    ∙ heard_is)
    before_is all_is

last_same : (xs : List score.AlteredHead) (eb : List page.Heard) → SameBefore xs (last_or eb (map as_heard xs))
last_same [] eb = tt {0}
last_same (x ∷ xs) eb = refl

pub note_law : (spread : Spread) (ear : Listener) (c : Clef) (signs : List Sign) (said : List Head)
    (before : List score.AlteredHead) (all : List page.Heard) (hs : List Head) (ties : List ℤ)
    → Hears ear c signs said before all → DistinctPitches (heads_in before) → AllReach c hs → DistinctPitches hs
    → TiesEnd c ties (heads_in before) hs
    → Hears (hear_column spread ear (chord_column Role.Head c hs ties)) c signs (said ++ hs)
    (heard_from spread signs before said [] hs) (all ++ map as_heard (heard_from spread signs before said [] hs))
note_law spread ear c signs said before all hs ties h a reach apart ends =
    let now = heard_from spread signs before said [] hs in
    let read = signs_read c hs (head_notes Role.Head c hs)
    (λ dy. heads_passed (sign_of_glyph dy) Role.Head (λ x ns. refl) c hs) reach apart in
    chord_law spread Role.Head now (all ++ map as_heard now) (map as_heard now) hs ties h refl (λ d dy ns. refl)
    (λ g gs. refl) reach read
    (chord_heard spread c (chord_column Role.Head c hs ties) ear.key.signs signs ear.before before [] said hs h.key
    (λ p. tie_same p before ear.before a h.before_is) reach apart read ends (none_heard hs))
    (last_same now ear.before) refl

pub grace_law : (spread : Spread) (ear : Listener) (c : Clef) (signs : List Sign) (said : List Head)
    (before : List score.AlteredHead) (all : List page.Heard) (hs : List Head) (ties : List ℤ)
    → Hears ear c signs said before all → AllReach c hs → DistinctPitches hs
    → Hears (hear_column spread ear (chord_column Role.Grace c hs ties)) c signs (said ++ hs) before all
grace_law spread ear c signs said before all hs ties h reach apart =
    chord_law spread Role.Grace before all [] hs ties h refl (λ d dy ns. refl) (λ g gs. refl) reach
    (signs_read c hs (head_notes Role.Grace c hs) (λ dy. heads_passed (sign_of_glyph dy) Role.Grace (λ x ns. refl) c hs)
    reach apart)
    (graces_silent spread c (chord_column Role.Grace c hs ties) ear.key.signs ear.before (map shown_head said) hs)
    h.before_is (append-nil all)

-- the heads of an event are those that sound
pub heads_heard : (spread : Spread) (signs : List Sign) (before : List score.AlteredHead) (said : List Head)
    (so_far : List score.AlteredHead) (hs : List Head)
    → heads_in (heard_from spread signs before said so_far hs) ≡ heads_in so_far ++ hs
heads_heard spread signs before said so_far [] = sym (append-nil (heads_in so_far))
heads_heard spread signs before said so_far (h ∷ hs) =
    let x = heard spread signs before said so_far h in
    heads_heard spread signs before (said ++ h ∷ []) (so_far ++ x ∷ []) hs
    ∙ ap (λ r. r ++ hs) (map-append (λ y. y.head) so_far (x ∷ []))
    ∙ append_assoc (heads_in so_far) (h ∷ []) hs
