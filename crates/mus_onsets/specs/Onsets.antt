-- Onsets: an event begins after the earlier events of its measure and voice.
-- A measure lasts as long as its longest voice.
use Rattle.std.specs.Prelude.{ℕ, ◌+◌, max, List, [], ◌∷◌, ◌++◌, map, Option, Some, None, slice_get}
use Rattle.std.specs.List.{range_with_len}
use Rattle.mus_score.specs.declared.score.Flat.{Flat}
use Rattle.mus_score.specs.declared.score.Measure.{Measure}
use Rattle.mus_score.specs.declared.score.Score.{Score}
use Rattle.mus_score.specs.declared.score.Voice.{Voice}
use Rattle.mus_score.specs.Good.{total_ticks}
use Rattle.mus_score.specs.Times.{flats_of}
use Rattle.mus_onsets.specs.{declared.times.Onset.Onset, declared.times.Timeline.Timeline}

-- the events of a measure in turn, each with those before it
abbrev pub event_onsets : ℕ → ℕ → List Flat → List Flat → List Onset
event_onsets voice measure before [] = []
event_onsets voice measure before (f ∷ following) =
    record { voice = voice; measure = measure; event = f.event.id; tick = total_ticks before }
    ∷ event_onsets voice measure (f ∷ before) following

abbrev pub measure_onsets : ℕ → ℕ → List Measure → List Onset
measure_onsets voice k [] = []
measure_onsets voice k (m ∷ ms) = event_onsets voice k [] (flats_of m.body) ++ measure_onsets voice (k + 1) ms

abbrev pub voice_onsets : ℕ → List Voice → List Onset
voice_onsets i [] = []
voice_onsets i (v ∷ vs) = measure_onsets i 0 v.measures ++ voice_onsets (i + 1) vs

abbrev pub greatest : List ℕ → ℕ
greatest [] = 0
greatest (n ∷ ns) = max n (greatest ns)

-- the length of a measure in a voice
abbrev pub ticks_of_some : Option Measure → ℕ
ticks_of_some None = 0
ticks_of_some (Some m) = total_ticks (flats_of m.body)

abbrev pub length_in_voice : ℕ → Voice → ℕ
length_in_voice k v = ticks_of_some (slice_get v.measures k)

abbrev pub measure_length : List Voice → ℕ → ℕ
measure_length voices k = greatest (map (length_in_voice k) voices)

abbrev pub timeline_of : Score → Timeline
timeline_of s =
    record { onsets = voice_onsets 0 s.voices; lengths = map (measure_length s.voices) (range_with_len 0 s.measures) }
