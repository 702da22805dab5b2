-- A drawn voice: its events one after another, each with what is in force there, its tick and its stem plan; and how
-- it makes room for other voices on its staff.
use Rattle.std.specs.Prelude.{ℕ, ◌+◌, ℤ, pos, Bool, false, is_some, List, [], ◌∷◌, Option, Some, None}
use Rattle.std.specs.Prelude.{unwrap_or, ◌-ℤ◌}
use Rattle.mus_units.specs.{declared.key.Key.Key, declared.key.Sign.Sign, declared.note.Wish.Wish}
use Rattle.mus_score.specs.declared.score.Changes.{Changes}
use Rattle.mus_score.specs.declared.score.Flat.{Flat}
use Rattle.mus_score.specs.declared.score.Measure.{Measure}
use Rattle.mus_score.specs.declared.score.Voice.{Voice}
use Rattle.mus_score.specs.declared.score.Seat.{Seat}
use Rattle.mus_score.specs.GoodScore.{clef_at}
use Rattle.mus_score.specs.Times.{flats_of}
use Rattle.mus_arcs.specs.Arcs.{arcs_of}
use Rattle.mus_arcs.specs.Events.{events_of_voice}
use Rattle.mus_stems.specs.declared.plans.StemPlan.{StemPlan}
use Rattle.mus_stems.specs.Plans.{stems_of}
use Rattle.mus_stems.specs.Stills.{clefs_from}
use Rattle.mus_drawn.specs.declared.standing.StaffState.{StaffState}
use Rattle.mus_drawn.specs.declared.drawn.DrawnEvent.{DrawnEvent}
use Rattle.mus_drawn.specs.declared.drawn.DrawnMeasure.{DrawnMeasure}
use Rattle.mus_drawn.specs.declared.drawn.DrawnVoice.{DrawnVoice}
use Rattle.mus_drawn.specs.declared.drawn.SystemOpening.{SystemOpening}
use Rattle.mus_drawn.specs.declared.drawn.Style.{Style}

-- Clef, key and meter in force are those of the last event that changes them, else those with which the voice begins.
abbrev pub standing_of : Voice → StaffState
standing_of v = record { clef = v.clef; key = v.key; meter = v.meter }

abbrev pub standing_after : StaffState → Changes → StaffState
standing_after now ch =
    record { clef = unwrap_or ch.clef now.clef; key = unwrap_or ch.key now.key; meter = unwrap_or ch.meter now.meter }

abbrev pub staff_state_after : StaffState → List Flat → StaffState
staff_state_after now [] = now
staff_state_after now (f ∷ fs) = staff_state_after (standing_after now f.event.changes) fs

-- the signs of the key before an event that changes it
abbrev pub old_signs : Key → Option Key → List Sign
old_signs key None = []
old_signs key (Some new) = key.signs

-- If voices share a staff, the stems of the first go up and those of the others down, unless a voice asks for a
-- direction.
abbrev pub wish_in_seat : Seat → Wish → Wish
wish_in_seat Seat.Upper Wish.Auto = Wish.Up
wish_in_seat Seat.Lower Wish.Auto = Wish.Down
wish_in_seat seat wish = wish

abbrev pub style_of : Voice → Style
style_of v = record { seat = v.seat; wish = wish_in_seat v.seat v.stem }

-- so far above or below their usual height are the rests of voices that share a staff, in u
abbrev pub shared_rest_raise : ℤ
shared_rest_raise = pos 1000

-- their rests are apart, too: those of the first higher, in u, and those of the others lower
abbrev pub raise_of : Seat → ℤ
raise_of Seat.Alone = pos 0
raise_of Seat.Upper = shared_rest_raise
raise_of Seat.Lower = pos 0 -ℤ shared_rest_raise

-- Events; the onset of each is the total length of those before it. `now` is what is in force before the first.
abbrev pub drawn_event : Style → ℕ → StaffState → Flat → StemPlan → DrawnEvent
drawn_event style tick now f p = record {
  seat = style.seat;
  flat = f;
  tick = tick;
  clef = clef_at now.clef f.event;
  old = old_signs now.key f.event.changes.key;
  plan = p;
}

abbrev pub drawn_events : Style → ℕ → StaffState → List Flat → List StemPlan → List DrawnEvent
drawn_events style tick now [] ps = []
drawn_events style tick now (f ∷ fs) [] = []
drawn_events style tick now (f ∷ fs) (p ∷ ps) =
    drawn_event style tick now f p ∷ drawn_events style (tick + f.duration) (standing_after now f.event.changes) fs ps

-- What a head shows: what is in force at the first event of the measure, or before the measure if it has none.
abbrev pub opening_at : StaffState → Bool → SystemOpening
opening_at now anew = record { clef = now.clef; key = now.key; meter = now.meter; anew = anew }

abbrev pub opening_of : StaffState → List Flat → SystemOpening
opening_of now [] = opening_at now false
opening_of now (f ∷ fs) = opening_at (standing_after now f.event.changes) (is_some f.event.changes.meter)

unfoldable pub drawn_measure : Style → StaffState → Measure → DrawnMeasure
drawn_measure style now m =
    let flats = flats_of m.body in
    record {
      seat = style.seat;
      opening = opening_of now flats;
      events = drawn_events style 0 now flats (stems_of style.wish flats (clefs_from now.clef flats));
      bar = m.bar;
    }

abbrev pub drawn_measures : Style → StaffState → List Measure → List DrawnMeasure
drawn_measures style now [] = []
drawn_measures style now (m ∷ ms) =
    drawn_measure style now m ∷ drawn_measures style (staff_state_after now (flats_of m.body)) ms

unfoldable pub drawn_voice : Voice → DrawnVoice
drawn_voice v = record {
  seat = v.seat;
  first = v.first;
  measures = drawn_measures (style_of v) (standing_of v) v.measures;
  arcs = arcs_of (events_of_voice v);
  verses = v.verses;
}
