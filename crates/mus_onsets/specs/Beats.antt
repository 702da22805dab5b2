-- Beats: what onsets need of the events of a body, graces aside, from left to right: the id and the length of each
-- event.
use Rattle.std.specs.Prelude.{ℕ, ◌+◌, ◌*◌, List, [], ◌∷◌, ◌++◌, map}
use Rattle.mus_score.specs.declared.score.Event.{Event}
use Rattle.mus_score.specs.declared.score.Flat.{Flat}
use Rattle.mus_score.specs.declared.score.Music.{Music}
use Rattle.mus_score.specs.declared.score.Music.TheOpen.{Music-F}
use Rattle.mus_score.specs.declared.score.Music.TheFolds.{fold-Music}
use Rattle.mus_score.specs.Times.{InTuplets, flats_of, scaled_ticks}
use Rattle.mus_onsets.specs.declared.beats.Beat.{Beat}
use Rattle.mus_onsets.specs.declared.times.Onset.{Onset}

abbrev pub beat_of : Flat → Beat
beat_of f = record { event = f.event.id; ticks = f.duration }

abbrev pub beats_of : List Music → List Beat
beats_of body = map beat_of (flats_of body)

-- ---- read from the tree
abbrev pub beat_at : Event → InTuplets Beat
beat_at e qs ps = record { event = e.id; ticks = scaled_ticks e.ticks qs ps }

abbrev pub beats_in_row : List (InTuplets (List Beat)) → InTuplets (List Beat)
beats_in_row [] qs ps = []
beats_in_row (b ∷ bs) qs ps = b qs ps ++ beats_in_row bs qs ps

abbrev pub beats_step : Music-F (InTuplets (List Beat)) → InTuplets (List Beat)
beats_step (Music-F.Note e) qs ps = beat_at e qs ps ∷ []
beats_step (Music-F.Rest e) qs ps = beat_at e qs ps ∷ []
beats_step (Music-F.Grace body slash) qs ps = []
beats_step (Music-F.Tuplet p q body) qs ps = beats_in_row body (qs * q) (ps * p)

abbrev pub beats_within : Music → InTuplets (List Beat)
beats_within = fold-Music (InTuplets (List Beat)) beats_step

-- ---- what is computed from beats
-- onsets in a measure, starting at a tick
abbrev pub beat_onsets : ℕ → ℕ → ℕ → List Beat → List Onset
beat_onsets voice measure tick [] = []
beat_onsets voice measure tick (b ∷ bs) =
    record { voice = voice; measure = measure; event = b.event; tick = tick }
    ∷ beat_onsets voice measure (tick + b.ticks) bs
