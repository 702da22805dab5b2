-- How the heads of a score sound, found by looking back from each. A head has the alteration of its own accidental;
-- else it sounds as the head that is tied to it; else it has the alteration of the last accidental before it in its
-- measure and voice that reaches it, those of graces too; else its key's. Graces are not listed.
use Rattle.std.specs.Prelude.{ℕ, ◌+◌, ◌&&◌, if◌then◌else◌, List, [], ◌∷◌, ◌++◌, flat_map, Option, Some, None}
use Rattle.std.specs.List.{list_any}
use Rattle.mus_units.specs.declared.key.Sign.{Sign}
use Rattle.mus_units.specs.declared.key.Spread.{Spread}
use Rattle.mus_units.specs.declared.note.Head.{Head}
use Rattle.mus_units.specs.declared.pitch.Alter.{Alter}
use Rattle.mus_units.specs.declared.pitch.Pitch.{Pitch}
use Rattle.mus_score.specs.declared.score.Flat.{Flat}
use Rattle.mus_score.specs.declared.score.Measure.{Measure}
use Rattle.mus_score.specs.declared.score.Score.{Score}
use Rattle.mus_score.specs.declared.score.Voice.{Voice}
use Rattle.mus_score.specs.Times.{flats_of}
use Rattle.mus_pitch.specs.Alteration.{alteration_of}
use Rattle.mus_arcs.specs.Arcs.{has_pitch}
use Rattle.mus_drawn.specs.declared.sounds.Sound.{Sound}
use Rattle.mus_drawn.specs.declared.standing.StaffState.{StaffState}
use Rattle.mus_drawn.specs.Drawn.{staff_state_after, standing_of}

-- an event with what it can see: the heads before it in its measure, those of its own graces too, and its key's signs
pub record Seen : Type 0 where
  pub id : ℕ
  pub heads : List Head
  pub said : List Head
  pub signs : List Sign

-- how a head sounds, given the heads before it in its event
abbrev pub Sounding : Type 0
Sounding = List Head → Head → Alter

-- a tie comes from the first tied head of its letter and octave: how that head sounds, if there is one among these
-- heads
abbrev pub tied_sound : Sounding → Pitch → List Head → List Head → Option Alter
tied_sound sound p earlier [] = None
tied_sound sound p earlier (g ∷ gs) =
    if g.tied && has_pitch p g then Some (sound earlier g) else tied_sound sound p (earlier ++ g ∷ []) gs

-- it goes to the first head of its letter and octave in the very next event
abbrev pub comes_tied : Option Alter → Pitch → List Head → Option Alter
comes_tied tied p earlier = if list_any (has_pitch p) earlier then None else tied

abbrev pub alter_by : Option Alter → Option Alter → Alter → Alter
alter_by (Some own) tied otherwise = own
alter_by None (Some a) otherwise = a
alter_by None None otherwise = otherwise

-- a head of an event, after those before it in the event; `before` are the previous events, the nearest first
abbrev pub sounds_as : Spread → List Seen → Seen → Sounding
sounds_as spread [] e earlier h = alter_by h.sign None (alteration_of h.pitch None (e.said ++ earlier) spread e.signs)
sounds_as spread (d ∷ before) e earlier h =
    alter_by h.sign (comes_tied (tied_sound (sounds_as spread before d) h.pitch [] d.heads) h.pitch earlier)
    (alteration_of h.pitch None (e.said ++ earlier) spread e.signs)

-- the heads of an event, those of its graces first
abbrev pub grace_heads : Flat → List Head
grace_heads f = flat_map (λ g. g.heads) f.graces

abbrev pub all_heads : Flat → List Head
all_heads f = grace_heads f ++ f.event.heads

-- an event after those before it in its measure; `now` is in force at the beginning of the measure
abbrev pub seen : StaffState → List Flat → Flat → Seen
seen now prefix f = record {
  id = f.event.id;
  heads = f.event.heads;
  said = flat_map all_heads prefix ++ grace_heads f;
  signs = (staff_state_after now (prefix ++ f ∷ [])).key.signs;
}

abbrev pub seen_from : StaffState → List Flat → List Flat → List Seen
seen_from now prefix [] = []
seen_from now prefix (f ∷ fs) = seen now prefix f ∷ seen_from now (prefix ++ f ∷ []) fs

abbrev pub seen_in : StaffState → List Measure → List Seen
seen_in now [] = []
seen_in now (m ∷ ms) = seen_from now [] (flats_of m.body) ++ seen_in (staff_state_after now (flats_of m.body)) ms

-- heads from number k on
abbrev pub head_sounds : Sounding → ℕ → ℕ → ℕ → List Head → List Head → List Sound
head_sounds sound voice event k earlier [] = []
head_sounds sound voice event k earlier (h ∷ hs) =
    record { voice = voice; event = event; head = k; pitch = h.pitch; alter = sound earlier h }
    ∷ head_sounds sound voice event (k + 1) (earlier ++ h ∷ []) hs

-- events in a row, after those before them, the nearest first
abbrev pub event_sounds : ℕ → Spread → List Seen → List Seen → List Sound
event_sounds voice spread before [] = []
event_sounds voice spread before (e ∷ es) =
    head_sounds (sounds_as spread before e) voice e.id 0 [] e.heads ++ event_sounds voice spread (e ∷ before) es

-- voices from number i on
abbrev pub voice_sounds : ℕ → Spread → List Voice → List Sound
voice_sounds i spread [] = []
voice_sounds i spread (v ∷ vs) =
    event_sounds i spread [] (seen_in (standing_of v) v.measures) ++ voice_sounds (i + 1) spread vs

abbrev pub sounds_of : Score → List Sound
sounds_of s = voice_sounds 0 s.spread s.voices
