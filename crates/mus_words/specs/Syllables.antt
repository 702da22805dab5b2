-- The syllables of an event: one for each verse in which it has one, each in the lane of its verse.
use Rattle.std.specs.Prelude.{ℕ, ℤ, pos, ◌+◌, ◌*◌, ◌-ℤ◌, ◌==◌, if◌then◌else◌, List, [], ◌∷◌, ◌++◌, length, Option, Some}
use Rattle.std.specs.Prelude.{None}
use Rattle.mus_laid.specs.declared.laid.Lane.{Lane}
use Rattle.mus_laid.specs.declared.drawn.LaneInk.{LaneInk}
use Rattle.mus_laid.specs.Printed.{printed}
use Rattle.mus_ink.specs.Distances.{half_character, verse_step}
use Rattle.mus_ink.specs.Drawing.{back, cut_dy}
use Rattle.mus_words.specs.Words.{words}

-- a syllable is centred at the column: half a character's width to the left for each of its characters
unfoldable pub syllable_dx : ℕ → ℤ
syllable_dx count = back (half_character * count)

-- verses are below one another; the first, 0, is a step below the lowest mark
unfoldable pub verse_dy : ℤ → ℕ → ℤ
verse_dy low n = cut_dy (low -ℤ pos (verse_step * (n + 1)))

-- the printed form of a syllable of verse n
abbrev pub syllable : ℤ → ℕ → List ℕ → List LaneInk
syllable low n t = if length t == 0 then [] else words (Lane.Verse n) (syllable_dx (length t)) (verse_dy low n) t ∷ []

abbrev pub syllable_if : ℤ → ℕ → Option (List ℕ) → List LaneInk
syllable_if low n None = []
syllable_if low n (Some t) = syllable low n (printed t)

-- the verses from n on
abbrev pub syllables_from : ℤ → ℕ → List (Option (List ℕ)) → List LaneInk
syllables_from low n [] = []
syllables_from low n (w ∷ ws) = syllable_if low n w ++ syllables_from low (n + 1) ws
