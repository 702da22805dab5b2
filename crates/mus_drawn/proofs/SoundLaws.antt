-- Heads that are heard one after another sound as they do when each looks back.
use Rattle.std.proofs.Common.{◌≡◌, ℕ, ◌+◌, Bool, true, false, cond, ◌&&◌, ◌||◌, List, [], ◌∷◌, ◌++◌, refl, sym, ◌∙◌, ap}
use Rattle.std.proofs.Common.{append_assoc, append-nil, Option, Some, None, option_map, flat_map}
use Rattle.std.specs.List.{find, list_any}
use Rattle.mus_units.specs.declared.key.Sign.{Sign}
use Rattle.mus_units.specs.declared.key.Spread.{Spread}
use Rattle.mus_units.specs.declared.note.Head.{Head}
use Rattle.mus_units.specs.declared.pitch.Alter.{Alter}
use Rattle.mus_units.specs.declared.pitch.Pitch.{Pitch}
use Rattle.mus_score.specs.declared.score.Flat.{Flat}
use Rattle.mus_score.specs.declared.score.Measure.{Measure}
use Rattle.mus_score.specs.declared.score.Voice.{Voice}
use Rattle.mus_score.specs.Times.{flats_of}
use Rattle.mus_pitch.specs.Alteration.{alteration_of}
use Rattle.mus_arcs.specs.Arcs.{has_pitch}
use Rattle.mus_drawn.specs.Hearing.{is_heard_at, is_tied_to, partner_of, heard_alter, heard, heard_from, said_after}
use Rattle.mus_drawn.specs.Hearing.{heard_at, heard_after, sounds_from, events_sounds, measures_sounds, voices_sounds}
use Rattle.mus_drawn.specs.declared.sounds.AlteredHead.{AlteredHead}
use Rattle.mus_drawn.specs.declared.sounds.Sound.{Sound}
use Rattle.mus_drawn.specs.declared.standing.StaffState.{StaffState}
use Rattle.mus_drawn.specs.Drawn.{standing_after, staff_state_after, standing_of}
use Rattle.mus_drawn.specs.Sounds.{Seen, Sounding, tied_sound, alter_by, sounds_as, all_heads, seen}
use Rattle.mus_drawn.specs.Sounds.{seen_from, seen_in, head_sounds, event_sounds, voice_sounds}

-- heads with how they sound
abbrev heard_along : Sounding → List Head → List Head → List AlteredHead
heard_along sound earlier [] = []
heard_along sound earlier (h ∷ hs) =
    record { head = h; alter = sound earlier h } ∷ heard_along sound (earlier ++ h ∷ []) hs

abbrev heard_before : Spread → List Seen → List AlteredHead
heard_before spread [] = []
heard_before spread (d ∷ before) = heard_along (sounds_as spread before d) [] d.heads

alter_of : AlteredHead → Alter
alter_of x = x.alter

along_append : (sound : Sounding) (earlier hs : List Head) (h : Head) →
    heard_along sound earlier (hs ++ h ∷ [])
    ≡ heard_along sound earlier hs ++ record { head = h; alter = sound (earlier ++ hs) h } ∷ []
along_append sound earlier [] h = ap (λ t. record { head = h; alter = sound t h } ∷ []) (sym (append-nil earlier))
along_append sound earlier (g ∷ gs) h =
    ap (λ t. record { head = g; alter = sound earlier g } ∷ t)
    (along_append sound (earlier ++ g ∷ []) gs h
    ∙ ap (λ t. heard_along sound (earlier ++ g ∷ []) gs ++ record { head = h; alter = sound t h } ∷ [])
    (append_assoc earlier (g ∷ []) gs))

-- the head that is tied into another
tied_is : (sound : Sounding) (p : Pitch) (earlier gs : List Head)
    → option_map alter_of (find (is_tied_to p) (heard_along sound earlier gs)) ≡ tied_sound sound p earlier gs
unfolding alter_of
tied_is sound p earlier [] = refl
tied_is sound p earlier (g ∷ gs) = step (g.tied && has_pitch p g) (tied_is sound p (earlier ++ g ∷ []) gs)
  where
    step : (b : Bool)
        → option_map alter_of (find (is_tied_to p) (heard_along sound (earlier ++ g ∷ []) gs))
        ≡ tied_sound sound p (earlier ++ g ∷ []) gs
        → option_map alter_of
        (cond b (Some (record { head = g; alter = sound earlier g }))
        (find (is_tied_to p) (heard_along sound (earlier ++ g ∷ []) gs)))
        ≡ cond b (Some (sound earlier g)) (tied_sound sound p (earlier ++ g ∷ []) gs)
    step true e = refl
    step false e = e

any_is : (sound : Sounding) (p : Pitch) (earlier gs : List Head)
    → list_any (is_heard_at p) (heard_along sound earlier gs) ≡ list_any (has_pitch p) gs
any_is sound p earlier [] = refl
any_is sound p earlier (g ∷ gs) = ap (λ t. has_pitch p g || t) (any_is sound p (earlier ++ g ∷ []) gs)

alter_cond : (b : Bool) (x : Option AlteredHead)
    → option_map alter_of (cond b None x) ≡ cond b None (option_map alter_of x)
alter_cond true x = refl
alter_cond false x = refl

none_cond : (b : Bool) → option_map alter_of (cond b None None) ≡ None
none_cond true = refl
none_cond false = refl

by_partner : (own : Option Alter) (partner : Option AlteredHead) (p : Pitch) (said : List Head) (spread : Spread)
    (signs : List Sign)
    → heard_alter own partner p said spread signs
    ≡ alter_by own (option_map alter_of partner) (alteration_of p None said spread signs)
unfolding alter_of
by_partner (Some own) partner p said spread signs = refl
by_partner None (Some x) p said spread signs = refl
by_partner None None p said spread signs = refl

-- a head, after those of its event
head_is : (spread : Spread) (before : List Seen) (e : Seen) (earlier : List Head) (h : Head) →
    heard spread e.signs (heard_before spread before) (e.said ++ earlier)
    (heard_along (sounds_as spread before e) [] earlier) h
    ≡ record { head = h; alter = sounds_as spread before e earlier h }
head_is spread [] e earlier h =
    let sound = sounds_as spread [] e in
    let otherwise = alteration_of h.pitch None (e.said ++ earlier) spread e.signs in
    let so_far = heard_along sound [] earlier in
    ap (λ a. record { head = h; alter = a })
    (by_partner h.sign (partner_of [] so_far h.pitch) h.pitch (e.said ++ earlier) spread e.signs
    ∙ ap (λ t. alter_by h.sign t otherwise) (none_cond (list_any (is_heard_at h.pitch) so_far)))
head_is spread (d ∷ before) e earlier h =
    let sound = sounds_as spread (d ∷ before) e in
    let otherwise = alteration_of h.pitch None (e.said ++ earlier) spread e.signs in
    let so_far = heard_along sound [] earlier in
    let tied = tied_sound (sounds_as spread before d) h.pitch [] d.heads in
    ap (λ a. record { head = h; alter = a })
    (by_partner h.sign (partner_of (heard_before spread (d ∷ before)) so_far h.pitch) h.pitch (e.said ++ earlier) spread
    e.signs
    ∙ ap (λ t. alter_by h.sign t otherwise)
    (alter_cond (list_any (is_heard_at h.pitch) so_far) (find (is_tied_to h.pitch) (heard_before spread (d ∷ before)))
    ∙ ap (λ t. cond (list_any (is_heard_at h.pitch) so_far) None t)
    (tied_is (sounds_as spread before d) h.pitch [] d.heads)
    ∙ ap (λ b. cond b None tied) (any_is sound h.pitch [] earlier)))

heads_are : (spread : Spread) (before : List Seen) (e : Seen) (earlier hs : List Head) →
    heard_from spread e.signs (heard_before spread before) (e.said ++ earlier)
    (heard_along (sounds_as spread before e) [] earlier) hs
    ≡ heard_along (sounds_as spread before e) [] (earlier ++ hs)
heads_are spread before e earlier [] = ap (λ t. heard_along (sounds_as spread before e) [] t) (sym (append-nil earlier))
heads_are spread before e earlier (h ∷ hs) =
    let sound = sounds_as spread before e in let so_far = heard_along sound [] earlier in
    let next : so_far ++ heard spread e.signs (heard_before spread before) (e.said ++ earlier) so_far h ∷ []
    ≡ heard_along sound [] (earlier ++ h ∷ [])
    = ap (λ x. so_far ++ x ∷ []) (head_is spread before e earlier h) ∙ sym (along_append sound [] earlier h) in
    (λ i. heard_from spread e.signs (heard_before spread before) (append_assoc e.said earlier (h ∷ []) i) (next i) hs)
    ∙ heads_are spread before e (earlier ++ h ∷ []) hs
    ∙ ap (λ t. heard_along sound [] t) (append_assoc earlier (h ∷ []) hs)

-- an event after those of its measure
standing_next : (now : StaffState) (prefix : List Flat) (f : Flat)
    → staff_state_after now (prefix ++ f ∷ []) ≡ standing_after (staff_state_after now prefix) f.event.changes
standing_next now [] f = refl
standing_next now (g ∷ gs) f = standing_next (standing_after now g.event.changes) gs f

said_next : (prefix : List Flat) (f : Flat)
    → flat_map all_heads (prefix ++ f ∷ []) ≡ said_after (flat_map all_heads prefix) f
said_next [] f = append-nil (all_heads f)
said_next (g ∷ gs) f =
    let graces = flat_map (λ x. x.heads) f.graces in
    ap (λ t. all_heads g ++ t) (said_next gs f)
    ∙ sym (append_assoc (all_heads g) (flat_map all_heads gs ++ graces) f.event.heads)
    ∙ ap (λ t. t ++ f.event.heads) (sym (append_assoc (all_heads g) (flat_map all_heads gs) graces))

event_is : (spread : Spread) (now : StaffState) (prefix : List Flat) (before : List Seen) (f : Flat) →
    heard_at spread (staff_state_after now prefix) (flat_map all_heads prefix) (heard_before spread before) f
    ≡ heard_before spread (seen now prefix f ∷ before)
event_is spread now prefix before f =
    let e = seen now prefix f in
    (λ i.
    heard_from spread (sym (standing_next now prefix f) i).key.signs (heard_before spread before)
    (sym (append-nil e.said) i) [] f.event.heads)
    ∙ heads_are spread before e [] f.event.heads

sounds_are : (sound : Sounding) (voice event k : ℕ) (earlier hs : List Head)
    → sounds_from voice event k (heard_along sound earlier hs) ≡ head_sounds sound voice event k earlier hs
sounds_are sound voice event k earlier [] = refl
sounds_are sound voice event k earlier (h ∷ hs) =
    ap (λ t. record { voice = voice; event = event; head = k; pitch = h.pitch; alter = sound earlier h } ∷ t)
    (sounds_are sound voice event (k + 1) (earlier ++ h ∷ []) hs)

events_are : (voice : ℕ) (spread : Spread) (now : StaffState) (prefix : List Flat) (before : List Seen) (fs : List Flat)
    → events_sounds voice spread (staff_state_after now prefix) (flat_map all_heads prefix) (heard_before spread before)
    fs
    ≡ event_sounds voice spread before (seen_from now prefix fs)
events_are voice spread now prefix before [] = refl
events_are voice spread now prefix before (f ∷ fs) =
    let e = seen now prefix f in let h = event_is spread now prefix before f in
    (λ i.
    sounds_from voice f.event.id 0 (h i)
    ++ events_sounds voice spread (sym (standing_next now prefix f) i) (sym (said_next prefix f) i) (h i) fs)
    ∙ (λ i.
    sounds_are (sounds_as spread before e) voice f.event.id 0 [] f.event.heads i
    ++ events_are voice spread now (prefix ++ f ∷ []) (e ∷ before) fs i)

-- events that were heard, the nearest first
abbrev following : List Seen → List Seen → List Seen
following before [] = before
following before (e ∷ es) = following (e ∷ before) es

after_are : (spread : Spread) (now : StaffState) (prefix : List Flat) (before : List Seen) (fs : List Flat) →
    heard_after spread (staff_state_after now prefix) (flat_map all_heads prefix) (heard_before spread before) fs
    ≡ heard_before spread (following before (seen_from now prefix fs))
after_are spread now prefix before [] = refl
after_are spread now prefix before (f ∷ fs) =
    let h = event_is spread now prefix before f in
    (λ i. heard_after spread (sym (standing_next now prefix f) i) (sym (said_next prefix f) i) (h i) fs)
    ∙ after_are spread now (prefix ++ f ∷ []) (seen now prefix f ∷ before) fs

sounds_append : (voice : ℕ) (spread : Spread) (before es more : List Seen) →
    event_sounds voice spread before (es ++ more)
    ≡ event_sounds voice spread before es ++ event_sounds voice spread (following before es) more
sounds_append voice spread before [] more = refl
sounds_append voice spread before (e ∷ es) more =
    let prefix = head_sounds (sounds_as spread before e) voice e.id 0 [] e.heads in
    ap (λ t. prefix ++ t) (sounds_append voice spread (e ∷ before) es more)
    ∙ sym (append_assoc prefix (event_sounds voice spread (e ∷ before) es)
    (event_sounds voice spread (following (e ∷ before) es) more))

-- a voice, and all of them
measures_are : (voice : ℕ) (spread : Spread) (now : StaffState) (before : List Seen) (ms : List Measure) →
    measures_sounds voice spread now (heard_before spread before) ms ≡ event_sounds voice spread before (seen_in now ms)
measures_are voice spread now before [] = refl
measures_are voice spread now before (m ∷ ms) =
    let fs = flats_of m.body in let now_after = staff_state_after now fs in
    (λ i.
    events_are voice spread now [] before fs i
    ++ measures_sounds voice spread now_after (after_are spread now [] before fs i) ms)
    ∙ ap (λ t. event_sounds voice spread before (seen_from now [] fs) ++ t)
    (measures_are voice spread now_after (following before (seen_from now [] fs)) ms)
    ∙ sym (sounds_append voice spread before (seen_from now [] fs) (seen_in now_after ms))

pub voices_are : (i : ℕ) (spread : Spread) (vs : List Voice) → voices_sounds i spread vs ≡ voice_sounds i spread vs
voices_are i spread [] = refl
voices_are i spread (v ∷ vs) =
    λ j. measures_are i spread (standing_of v) [] v.measures j ++ voices_are (i + 1) spread vs j

pub looked_back : (spread : Spread) (vs : List Voice) (sounds : List Sound)
    → sounds ≡ [] ++ voices_sounds 0 spread vs → sounds ≡ voice_sounds 0 spread vs
looked_back spread vs sounds e = e ∙ voices_are 0 spread vs
