-- How a moved score sounds: head by head as the score does, higher by the number of semitones of the move.
use Rattle.std.specs.{Prelude.◌≡◌, Prelude.ℤ, Prelude.◌+ℤ◌, Prelude.List, Prelude.Some, List.AllZip}
use Rattle.mus_units.specs.declared.key.Key.{Key}
use Rattle.mus_pitch.specs.Steps.{steps}
use Rattle.mus_score.specs.declared.score.Score.{Score}
use Rattle.mus_transpose.specs.Moved.{IsMoved, semitones}
use Rattle.mus_drawn.specs.{declared.sounds.Sound.Sound, Sounds.sounds_of}

-- the same head of the same event and voice, written `letters` letters higher, sounds `by` semitones higher
pub record IsHigher (by letters : ℤ) (x y : Sound) : Type 0 where
  pub voice : y.voice ≡ x.voice
  pub event : y.event ≡ x.event
  pub head : y.head ≡ x.head
  pub written : steps y.pitch ≡ steps x.pitch +ℤ letters
  pub sounds : semitones y.pitch y.alter ≡ semitones x.pitch x.alter +ℤ by

-- each head of a list, in its place, and all of them by the same number of letters
pub record AreHigher (by : ℤ) (xs ys : List Sound) : Type 0 where
  pub letters : ℤ
  pub heads : AllZip (IsHigher by letters) xs ys

-- the result of a move by some number of semitones sounds higher by that number
abbrev pub MovedSoundsHigher : Type 0
MovedSoundsHigher =
    (s t : Score) (header : Key) (by : ℤ) → IsMoved s header by (Some t) → AreHigher by (sounds_of s) (sounds_of t)
