-- The law that the marks of a voice determine its columns.
use Rattle.std.specs.Prelude.{◌≡◌, ℕ, ℤ, ◌<◌, ◌≤◌, ◌==◌, if◌then◌else◌, List, [], ◌∷◌, length, take, slice_range}
use Rattle.std.specs.Prelude.{Contains, Option, Some, None}
use Rattle.mus_units.specs.declared.note.Bar.{Bar}
use Rattle.mus_score.specs.declared.score.Score.{Score}
use Rattle.mus_score.specs.declared.score.Seat.{Seat}
use Rattle.mus_score.specs.declared.score.Voice.{Voice}
use Rattle.mus_score.specs.GoodScore.{IsGoodScore}
use Rattle.mus_onsets.specs.declared.keys.ColumnKey.{ColumnKey}
use Rattle.mus_onsets.specs.Keys.{AreKeys, called_keys}
use Rattle.mus_onsets.specs.Onsets.{timeline_of}
use Rattle.mus_drawn.specs.Drawn.{drawn_voice, standing_of}
use Rattle.mus_marks.specs.Tilt.{tilted_staff}
use Rattle.law_voice_sound.specs.Columns.{last_through, standing_through, heard_system}
use Rattle.law_voice_sound.specs.Listened.{columns_heard}
use Rattle.law_staff_columns.specs.Ranked.{ranked_columns}

-- the bar before measure a, if that is the first
abbrev pub first_at : ℕ → Bar → Option Bar
first_at a bar = if a == 0 then Some bar else None

-- Measures a to b - 1 of a voice alone on its staff, over any abscissas: what the ranks of its marks say is what its
-- columns say.
abbrev pub MarksTellColumns : Type 0
MarksTellColumns =
    (s : Score) (v : Voice) (keys : List ColumnKey) (at : List ℤ) (a b : ℕ)
    → IsGoodScore s → Contains s.voices v → v.seat ≡ Seat.Alone → a < b → b ≤ s.measures
    → AreKeys keys (called_keys s (timeline_of s).lengths a b)
    → columns_heard
    (ranked_columns (length keys) (tilted_staff keys (timeline_of s).lengths at a b (drawn_voice v ∷ [])).marks)
    ≡ columns_heard
    (heard_system (first_at a v.first) (standing_through (standing_of v) (take a v.measures))
    (last_through [] (take a v.measures)) (slice_range v.measures a b))
