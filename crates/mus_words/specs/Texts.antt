-- The printed texts above and below an event, each side from the staff outwards.
use Rattle.std.specs.Prelude.{ℕ, ℤ, pos, ◌+◌, ◌*◌, ◌+ℤ◌, ◌-ℤ◌, Bool, true, false, if◌then◌else◌, List, [], ◌∷◌, ◌++◌}
use Rattle.std.specs.Prelude.{flat_map, Option, Some, None, decimal}
use Rattle.std.proofs.Math.Bool.{beq}
use Rattle.mus_units.specs.declared.note.Deco.{Deco}
use Rattle.mus_score.specs.declared.score.Flat.{Flat}
use Rattle.mus_score.specs.declared.score.Mention.{Mention}
use Rattle.mus_laid.specs.declared.laid.Lane.{Lane}
use Rattle.mus_laid.specs.declared.drawn.LaneInk.{LaneInk}
use Rattle.mus_ink.specs.Distances.{half_character, text_gap, text_step, verse_step}
use Rattle.mus_ink.specs.Drawing.{back, cut_dy}
use Rattle.mus_words.specs.declared.texts.TextPlace.{TextPlace}
use Rattle.mus_words.specs.Words.{words, shown_text}
use Rattle.mus_laid.specs.declared.laid.Lane.TheVariants as lanes

abbrev pub shown_ending : Option (List ℕ) → List (List ℕ)
shown_ending None = []
shown_ending (Some t) = shown_text t

-- a tuplet shows its number of notes
abbrev pub shown_number : ℕ → List (List ℕ)
shown_number p = shown_text (decimal p)

-- decorations on one side of the staff, below it or above: a fingering is above, a dynamic mark below, and other
-- decorations are no text
abbrev pub shown_deco : Bool → Deco → List (List ℕ)
shown_deco false (Deco.Above t) = shown_text t
shown_deco true (Deco.Below t) = shown_text t
shown_deco _ _ = []

-- a text between quotes says on which side it goes
abbrev pub shown_mention : Bool → Mention → List (List ℕ)
shown_mention below m = if beq m.below below then shown_text m.text else []

-- above: the ending, the numbers of the tuplets that begin there, the decorations, then the texts between quotes
unfoldable pub texts_above : Flat → List (List ℕ)
texts_above f =
    shown_ending f.event.ending ++ flat_map shown_number f.tuplets ++ flat_map (shown_deco false) f.event.decos
    ++ flat_map (shown_mention false) f.event.mentions

-- below: the decorations, then the texts between quotes
unfoldable pub texts_below : Flat → List (List ℕ)
texts_below f = flat_map (shown_deco true) f.event.decos ++ flat_map (shown_mention true) f.event.mentions

-- texts are stacked, and k texts of the column are nearer to the staff: above, starting a gap above the highest mark;
-- below, starting under the verses
unfoldable pub above_dy : ℤ → ℕ → ℤ
above_dy high k = cut_dy ((high +ℤ pos text_gap) +ℤ pos (text_step * k))

unfoldable pub below_dy : ℤ → ℕ → ℕ → ℤ
below_dy low verses k = cut_dy (low -ℤ pos (verse_step * verses + text_step * (1 + k)))

abbrev pub above_from : ℤ → ℕ → List (List ℕ) → List LaneInk
above_from high k [] = []
above_from high k (t ∷ ts) = words Lane.Above (back half_character) (above_dy high k) t ∷ above_from high (k + 1) ts

abbrev pub below_from : ℤ → ℕ → ℕ → List (List ℕ) → List LaneInk
below_from low verses k [] = []
below_from low verses k (t ∷ ts) =
    words lanes.Below (back half_character) (below_dy low verses k) t ∷ below_from low verses (k + 1) ts

-- the texts of an event, after those that its column already has
unfoldable pub text_marks : TextPlace → Flat → List LaneInk
text_marks place f =
    above_from place.high place.above (texts_above f) ++ below_from place.low place.verses place.below (texts_below f)

-- the place of further texts in a column, after the texts that it has above and below
abbrev pub place_past : TextPlace → ℕ → ℕ → TextPlace
place_past place above below = record place { above = place.above + above; below = place.below + below }
