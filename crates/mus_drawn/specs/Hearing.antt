-- How the heads of a score sound as they are heard one after another, carrying along what is in force, the heads of
-- the measure so far and those of the previous event. `Sounds` defines what is meant.
use Rattle.std.specs.Prelude.{ℕ, ◌+◌, Bool, ◌&&◌, if◌then◌else◌, List, [], ◌∷◌, ◌++◌, flat_map, Option, Some, None}
use Rattle.std.specs.List.{find, list_any}
use Rattle.mus_units.specs.declared.key.Sign.{Sign}
use Rattle.mus_units.specs.declared.key.Spread.{Spread}
use Rattle.mus_units.specs.declared.note.Head.{Head}
use Rattle.mus_units.specs.declared.pitch.Alter.{Alter}
use Rattle.mus_units.specs.declared.pitch.Pitch.{Pitch}
use Rattle.mus_score.specs.declared.score.Flat.{Flat}
use Rattle.mus_score.specs.declared.score.Measure.{Measure}
use Rattle.mus_score.specs.declared.score.Voice.{Voice}
use Rattle.mus_score.specs.Times.{flats_of}
use Rattle.mus_pitch.specs.Alteration.{alteration_of}
use Rattle.mus_arcs.specs.Arcs.{has_pitch}
use Rattle.mus_drawn.specs.declared.standing.StaffState.{StaffState}
use Rattle.mus_drawn.specs.Drawn.{standing_after, staff_state_after, standing_of}
use Rattle.mus_drawn.specs.declared.sounds.AlteredHead.{AlteredHead}
use Rattle.mus_drawn.specs.declared.sounds.Sound.{Sound}

abbrev pub is_heard_at : Pitch → AlteredHead → Bool
is_heard_at p x = has_pitch p x.head

-- a tie goes to the first head of its letter and octave in the next event, and comes from the first such head
abbrev pub is_tied_to : Pitch → AlteredHead → Bool
is_tied_to p x = x.head.tied && has_pitch p x.head

abbrev pub partner_of : List AlteredHead → List AlteredHead → Pitch → Option AlteredHead
partner_of before so_far p = if list_any (is_heard_at p) so_far then None else find (is_tied_to p) before

abbrev pub heard_alter : Option Alter → Option AlteredHead → Pitch → List Head → Spread → List Sign → Alter
heard_alter (Some own) partner p said spread signs = own
heard_alter None (Some x) p said spread signs = x.alter
heard_alter None None p said spread signs = alteration_of p None said spread signs

-- a head, after the heads of its event so far; `said` are the heads before it in its measure
abbrev pub heard : Spread → List Sign → List AlteredHead → List Head → List AlteredHead → Head → AlteredHead
heard spread signs before said so_far h =
    record { head = h; alter = heard_alter h.sign (partner_of before so_far h.pitch) h.pitch said spread signs }

abbrev pub heard_from : Spread
    → List Sign → List AlteredHead → List Head → List AlteredHead → List Head → List AlteredHead
heard_from spread signs before said so_far [] = so_far
heard_from spread signs before said so_far (h ∷ hs) =
    heard_from spread signs before (said ++ h ∷ []) (so_far ++ heard spread signs before said so_far h ∷ []) hs

-- the heads of a measure before those of an event, and those including them
abbrev pub said_at : List Head → Flat → List Head
said_at said f = said ++ flat_map (λ g. g.heads) f.graces

abbrev pub said_after : List Head → Flat → List Head
said_after said f = said_at said f ++ f.event.heads

-- the heads of an event; `before` are those of the event before it in its voice
abbrev pub heard_at : Spread → StaffState → List Head → List AlteredHead → Flat → List AlteredHead
heard_at spread now said before f =
    heard_from spread (standing_after now f.event.changes).key.signs before (said_at said f) [] f.event.heads

abbrev pub heard_after : Spread → StaffState → List Head → List AlteredHead → List Flat → List AlteredHead
heard_after spread now said before [] = before
heard_after spread now said before (f ∷ fs) =
    heard_after spread (standing_after now f.event.changes) (said_after said f) (heard_at spread now said before f) fs

-- heads from number k on
abbrev pub sounds_from : ℕ → ℕ → ℕ → List AlteredHead → List Sound
sounds_from voice event k [] = []
sounds_from voice event k (x ∷ xs) =
    record { voice = voice; event = event; head = k; pitch = x.head.pitch; alter = x.alter }
    ∷ sounds_from voice event (k + 1) xs

abbrev pub events_sounds : ℕ → Spread → StaffState → List Head → List AlteredHead → List Flat → List Sound
events_sounds voice spread now said before [] = []
events_sounds voice spread now said before (f ∷ fs) =
    sounds_from voice f.event.id 0 (heard_at spread now said before f)
    ++ events_sounds voice spread (standing_after now f.event.changes) (said_after said f)
    (heard_at spread now said before f) fs

-- no heads are carried along at the beginning of a measure
abbrev pub measures_sounds : ℕ → Spread → StaffState → List AlteredHead → List Measure → List Sound
measures_sounds voice spread now before [] = []
measures_sounds voice spread now before (m ∷ ms) =
    events_sounds voice spread now [] before (flats_of m.body)
    ++ measures_sounds voice spread (staff_state_after now (flats_of m.body))
    (heard_after spread now [] before (flats_of m.body)) ms

-- voices from number i on
abbrev pub voices_sounds : ℕ → Spread → List Voice → List Sound
voices_sounds i spread [] = []
voices_sounds i spread (v ∷ vs) =
    measures_sounds i spread (standing_of v) [] v.measures ++ voices_sounds (i + 1) spread vs
