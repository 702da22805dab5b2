-- Pitches by their steps: the letters of all octaves from C0 up, one after the other.
use Rattle.std.specs.Prelude.{ℤ, pos, ◌+ℤ◌, ◌*ℤ◌, List, [], ◌∷◌}
use Rattle.std.specs.Int.{int_div_euclid, int_rem_euclid}
use Rattle.std.specs.Int.RustNames.{unsigned_abs}
use Rattle.std.specs.List.{slice_index_or}
use Rattle.mus_units.specs.{declared.pitch.Letter.Letter, declared.pitch.Pitch.Pitch, Pitch.letter_number}
use Rattle.mus_units.specs.declared.pitch.Letter.TheVariants as letters

-- letters from C up
abbrev pub scale_letters : List Letter
scale_letters = letters.C ∷ letters.D ∷ letters.E ∷ letters.F ∷ letters.G ∷ letters.A ∷ letters.B ∷ []

-- the steps of a pitch above C0
unfoldable pub steps : Pitch → ℤ
steps p = pos 7 *ℤ p.octave +ℤ pos (letter_number p.letter)

-- the pitch a number of steps above C0
unfoldable pub pitch_of_steps : ℤ → Pitch
pitch_of_steps n = record {
  letter = slice_index_or scale_letters (unsigned_abs (int_rem_euclid n (pos 7))) letters.C;
  octave = int_div_euclid n (pos 7);
}
