-- What a score calls for in a system of measures a to b - 1: the columns of its voices, and for each staff, in order,
-- its marks.
use Rattle.std.specs.Prelude.{◌≡◌, ℕ, Bool, List, map}
use Rattle.mus_score.specs.declared.score.Score.{Score}
use Rattle.mus_score.specs.Seats.{grouped, is_lower}
use Rattle.mus_onsets.specs.declared.times.Timeline.{Timeline}
use Rattle.mus_onsets.specs.Keys.{AreKeys, called_keys}
use Rattle.mus_laid.specs.declared.laid.SystemMarks.{SystemMarks}
use Rattle.mus_drawn.specs.declared.drawn.DrawnVoice.{DrawnVoice}
use Rattle.mus_drawn.specs.Drawn.{drawn_voice}
use Rattle.mus_marks.specs.Staff.{staff_marks}

abbrev pub is_drawn_lower : DrawnVoice → Bool
is_drawn_lower v = is_lower v.seat

-- the drawn voices of each staff
abbrev pub drawn_staves : Score → List (List DrawnVoice)
drawn_staves s = grouped is_drawn_lower (map drawn_voice s.voices)

pub record IsCall (s : Score) (t : Timeline) (a b : ℕ) (m : SystemMarks) : Type 0 where
  pub from : m.a ≡ a
  pub to : m.b ≡ b
  pub keys : AreKeys m.keys (called_keys s t.lengths a b)
  pub staves : m.staves ≡ map (staff_marks m.keys t.lengths a b) (drawn_staves s)
