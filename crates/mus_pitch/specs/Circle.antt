-- Keys by the circle of fifths: how many sharps a tonic and its mode have, and which entries a number of sharps has.
use Rattle.std.specs.Prelude.{suc, ℤ, pos, negsuc, ◌+ℤ◌, int_le, ◌&&◌, if◌then◌else◌, List, [], ◌∷◌, map, take, reverse}
use Rattle.std.specs.Prelude.{Option, Some, None, Bool}
use Rattle.mus_units.specs.{declared.pitch.Letter.Letter, declared.pitch.Alter.Alter, declared.key.Sign.Sign}
use Rattle.mus_units.specs.declared.pitch.Letter.TheVariants as letters
use Rattle.mus_units.specs.declared.pitch.Alter.TheVariants as alters
use Rattle.mus_pitch.specs.declared.circle.Mode.{Mode}
use Rattle.mus_pitch.specs.declared.circle.Mode.TheVariants as modes

-- fifths from C up: F C G D A E B
abbrev pub fifths_of : Letter → ℤ
fifths_of letters.F = negsuc 0
fifths_of letters.C = pos 0
fifths_of letters.G = pos 1
fifths_of letters.D = pos 2
fifths_of letters.A = pos 3
fifths_of letters.E = pos 4
fifths_of letters.B = pos 5

-- a sharp is seven fifths up, a flat seven down
abbrev pub shift_of : Alter → ℤ
shift_of alters.Flat2 = negsuc 13
shift_of alters.Flat = negsuc 6
shift_of alters.Natural = pos 0
shift_of alters.Sharp = pos 7
shift_of alters.Sharp2 = pos 14

-- the major scale with the same entries begins this many fifths further
abbrev pub mode_shift : Mode → ℤ
mode_shift modes.Lyd = pos 1
mode_shift modes.Maj = pos 0
mode_shift modes.Mix = negsuc 0
mode_shift modes.Dor = negsuc 1
mode_shift modes.Min = negsuc 2
mode_shift modes.Phr = negsuc 3
mode_shift modes.Loc = negsuc 4

unfoldable pub sharps_of : Letter → Alter → Mode → ℤ
sharps_of tonic alter mode = (fifths_of tonic +ℤ shift_of alter) +ℤ mode_shift mode

-- a signature has at most seven sharps or flats
abbrev pub is_signature : ℤ → Bool
is_signature sharps = int_le (negsuc 6) sharps && int_le sharps (pos 7)

abbrev pub signature_of : Letter → Alter → Mode → Option ℤ
signature_of tonic alter mode =
    if is_signature (sharps_of tonic alter mode) then Some (sharps_of tonic alter mode) else None

-- the order in which sharps are added; flats come in reverse order
abbrev pub sharp_order : List Letter
sharp_order = letters.F ∷ letters.C ∷ letters.G ∷ letters.D ∷ letters.A ∷ letters.E ∷ letters.B ∷ []

abbrev pub signed : Alter → Letter → Sign
signed alter letter = record { letter = letter; alter = alter }

-- the entries of a number of sharps, or of flats if it is negative, in the order in which they are drawn
unfoldable pub signs_of : ℤ → List Sign
signs_of (pos n) = map (signed alters.Sharp) (take n sharp_order)
signs_of (negsuc n) = map (signed alters.Flat) (take (suc n) (reverse sharp_order))
