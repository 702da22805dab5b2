-- The events of a voice, each with its measure.
use Rattle.std.specs.{Prelude.{ℕ, suc, Bool, false, not, ◌==◌, ◌&&◌, List, [], ◌∷◌, ◌++◌, map}, List.list_all}
use Rattle.mus_score.specs.declared.score.Event.{Event}
use Rattle.mus_score.specs.declared.score.Measure.{Measure}
use Rattle.mus_score.specs.declared.score.Voice.{Voice}
use Rattle.mus_score.specs.declared.score.Music.{Music}
use Rattle.mus_score.specs.declared.score.Music.TheOpen.{Music-F}
use Rattle.mus_score.specs.declared.score.Music.TheFolds.{fold-Music}
use Rattle.mus_score.specs.Times.{flats_of}
use Rattle.mus_arcs.specs.declared.events.ArcEvent.{ArcEvent}

abbrev pub at_measure : ℕ → Event → ArcEvent
at_measure measure e = record { event = e.id; measure = measure; begins = e.begins; ends = e.ends; heads = e.heads }

-- the events of a body, graces aside
abbrev pub body_events : List Music → List Event
body_events body = map (λ f. f.event) (flats_of body)

-- the events of measures; the first measure has this number
abbrev pub events_from : ℕ → List Measure → List ArcEvent
events_from number [] = []
events_from number (measure ∷ measures) =
    map (at_measure number) (body_events measure.body) ++ events_from (suc number) measures

abbrev pub events_of_voice : Voice → List ArcEvent
events_of_voice v = events_from 0 v.measures

-- ---- the events of a body by a walk over its nodes; it links the definition to the code
abbrev pub join : List (List Event) → List Event
join [] = []
join (es ∷ more) = es ++ join more

abbrev pub events_step : Music-F (List Event) → List Event
events_step (Music-F.Note e) = e ∷ []
events_step (Music-F.Rest e) = e ∷ []
events_step (Music-F.Grace body slash) = []
events_step (Music-F.Tuplet p q body) = join body

abbrev pub events_within : Music → List Event
events_within = fold-Music (List Event) events_step

abbrev pub events_in : List Music → List Event
events_in body = join (map events_within body)

abbrev pub walked_from : ℕ → List Measure → List ArcEvent
walked_from number [] = []
walked_from number (measure ∷ measures) =
    map (at_measure number) (events_in measure.body) ++ walked_from (suc number) measures

-- an event at which neither a slur nor a tie begins
abbrev pub is_bare_event : Event → Bool
is_bare_event e = e.begins == 0 && list_all (λ h. not h.tied) e.heads

abbrev pub bare_step : Music-F Bool → Bool
bare_step (Music-F.Note e) = is_bare_event e
bare_step (Music-F.Rest e) = is_bare_event e
bare_step _ = false

abbrev pub is_bare_music : Music → Bool
is_bare_music = fold-Music Bool bare_step
