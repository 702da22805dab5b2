-- The marks of a system over the abscissas of its columns: like those that the score calls for, but the stems of a
-- beam end on its line. Marks that depend on the ends of stems (beams, decorations, texts, arcs) follow them.
use Rattle.std.specs.Prelude.{◌≡◌, ℕ, ◌+◌, ◌^◌, ℤ, pos, ◌≤ℤ◌, ◌<ℤ◌, ◌<◌, ⊤, List, [], ◌∷◌, length, map}
use Rattle.std.specs.Prelude.{slice_range, slice_index_or}
use Rattle.mus_score.specs.declared.score.Score.{Score}
use Rattle.mus_onsets.specs.declared.keys.ColumnKey.{ColumnKey}
use Rattle.mus_onsets.specs.declared.times.Timeline.{Timeline}
use Rattle.mus_onsets.specs.Keys.{AreKeys, called_keys}
use Rattle.mus_stems.specs.declared.slopes.SlopeInput.{SlopeInput}
use Rattle.mus_stems.specs.Slope.{slope_input, sloped_ends, AreAnchors, RisesInBeams}
use Rattle.mus_laid.specs.declared.laid.StaffMarks.{StaffMarks}
use Rattle.mus_laid.specs.declared.laid.SystemMarks.{SystemMarks}
use Rattle.mus_drawn.specs.declared.drawn.DrawnEvent.{DrawnEvent}
use Rattle.mus_drawn.specs.declared.drawn.DrawnMeasure.{DrawnMeasure}
use Rattle.mus_drawn.specs.declared.drawn.DrawnVoice.{DrawnVoice}
use Rattle.mus_bridges.specs.Ends.{voice_ended}
use Rattle.mus_marks.specs.{Events.note_rank, Staff.staff_marks, System.drawn_staves}

-- what the line of its beam needs of an event of measure m; the event's abscissa is that of its column
abbrev pub anchor_at : List ColumnKey → List ℤ → ℕ → DrawnEvent → SlopeInput
anchor_at keys at m e = slope_input e.plan (slice_index_or at (note_rank keys m e) (pos 0))

-- the stems of events of measure m can end on lines: own ends and abscissas are in range, and abscissas rise in beams
pub record CanTilt (keys : List ColumnKey) (at : List ℤ) (m : ℕ) (d : DrawnMeasure) : Type 0 where
  pub anchors : AreAnchors (map (anchor_at keys at m) d.events)
  pub rise : RisesInBeams (map (anchor_at keys at m) d.events)

-- measures from number m on
abbrev pub AllCanTilt : List ColumnKey → List ℤ → ℕ → List DrawnMeasure → Type 0
AllCanTilt keys at m [] = ⊤
AllCanTilt keys at m (d ∷ ds) = CanTilt keys at m d × AllCanTilt keys at (m + 1) ds

-- the ends of the events of measure m, on the lines of their beams
abbrev pub ends_over : List ColumnKey → List ℤ → ℕ → List DrawnEvent → List ℤ
ends_over keys at m es = sloped_ends (map (anchor_at keys at m) es)

-- the same for measures from number m on, one by one
abbrev pub sloped_over : List ColumnKey → List ℤ → ℕ → List DrawnMeasure → List (List ℤ)
sloped_over keys at m [] = []
sloped_over keys at m (d ∷ ds) = ends_over keys at m d.events ∷ sloped_over keys at (m + 1) ds

-- measures a to b - 1 of a voice tilted, all others unchanged
abbrev pub voice_tilted : List ColumnKey → List ℤ → ℕ → ℕ → DrawnVoice → DrawnVoice
voice_tilted keys at a b v = voice_ended a (sloped_over keys at a (slice_range v.measures a b)) v

-- the marks of a staff whose voices are tilted
abbrev pub tilted_staff : List ColumnKey → List ℕ → List ℤ → ℕ → ℕ → List DrawnVoice → StaffMarks
tilted_staff keys lengths at a b voices = staff_marks keys lengths a b (map (voice_tilted keys at a b) voices)

-- What a score calls for in a system of measures a to b - 1 whose columns are at these abscissas.
pub record IsTilted (s : Score) (t : Timeline) (a b : ℕ) (at : List ℤ) (m : SystemMarks) : Type 0 where
  pub from : m.a ≡ a
  pub to : m.b ≡ b
  pub keys : AreKeys m.keys (called_keys s t.lengths a b)
  pub staves : m.staves ≡ map (tilted_staff m.keys t.lengths at a b) (drawn_staves s)

-- an abscissa for each column of the system, rising, from 0 to at most 2^40
pub record AreAbscissas (s : Score) (t : Timeline) (a b : ℕ) (at : List ℤ) : Type 0 where
  pub each : (keys : List ColumnKey) → AreKeys keys (called_keys s t.lengths a b) → length at ≡ length keys
  pub rise : (i : ℕ) → i + 1 < length at → slice_index_or at i (pos 0) <ℤ slice_index_or at (i + 1) (pos 0)
  pub low : (i : ℕ) → i < length at → pos 0 ≤ℤ slice_index_or at i (pos 0)
  pub high : (i : ℕ) → i < length at → slice_index_or at i (pos 0) ≤ℤ pos (2 ^ 40)
