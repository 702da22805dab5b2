-- Events whose stems end elsewhere than their plans say: as far as there are ends for them.
use Rattle.std.specs.Prelude.{ℕ, ℤ, ◌-◌, nat_lt, if◌then◌else◌, List, [], ◌∷◌, ◌++◌, take, drop, slice_index_or}
use Rattle.mus_stems.specs.Slope.{with_end}
use Rattle.mus_drawn.specs.declared.drawn.DrawnEvent.{DrawnEvent}
use Rattle.mus_drawn.specs.declared.drawn.DrawnMeasure.{DrawnMeasure}
use Rattle.mus_drawn.specs.declared.drawn.DrawnVoice.{DrawnVoice}
use Rattle.mus_bridges.specs.declared.ends.EndedEvent.{EndedEvent}
use Rattle.mus_bridges.specs.declared.ends.EndedEvents.{EndedEvents}

-- f of each element and the list's entry for it; elements without an entry stay unchanged
abbrev pub over : {A B : Type 0} → (B → A → A) → List B → List A → List A
over f [] xs = xs
over f (t ∷ ts) [] = []
over f (t ∷ ts) (x ∷ xs) = f t x ∷ over f ts xs

-- an event, and the events of a measure, with other ends
abbrev pub event_ended : ℤ → DrawnEvent → DrawnEvent
event_ended to e = record e { plan = with_end e.plan to }

abbrev pub measure_ended : List ℤ → DrawnMeasure → DrawnMeasure
measure_ended ends d = record d { events = over event_ended ends d.events }

-- a voice whose measures have other ends from number a on
abbrev pub voice_ended : ℕ → List (List ℤ) → DrawnVoice → DrawnVoice
voice_ended a ends v = record v { measures = take a v.measures ++ over measure_ended ends (drop a v.measures) }

-- the ends of measure m, if those of measure a are the first
abbrev pub ends_from : List (List ℤ) → ℕ → ℕ → List ℤ
ends_from ends a m = if nat_lt m a then [] else slice_index_or ends (m - a) []

-- what is borrowed for that
abbrev pub ended_event : EndedEvent → DrawnEvent
ended_event x = event_ended x.to x.event.now

abbrev pub ended_events : EndedEvents → List DrawnEvent
ended_events x = over event_ended x.ends.now x.events.now
