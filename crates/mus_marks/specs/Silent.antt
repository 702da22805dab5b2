-- Events that have no syllables and no texts.
use Rattle.std.specs.Prelude.{ℕ, Bool, true, false, not, ◌&&◌, ◌==◌, is_none, List, length, slice_range}
use Rattle.std.specs.List.{list_all}
use Rattle.mus_units.specs.declared.note.Deco.{Deco}
use Rattle.mus_score.specs.declared.score.Flat.{Flat}
use Rattle.mus_drawn.specs.declared.drawn.DrawnMeasure.{DrawnMeasure}
use Rattle.mus_drawn.specs.declared.drawn.DrawnVoice.{DrawnVoice}

-- a fingering or a dynamic mark
abbrev pub is_text : Deco → Bool
is_text (Deco.Above t) = true
is_text (Deco.Below t) = true
is_text _ = false

-- no ending, no tuplet that begins there, nothing between quotes, no syllable, and no decoration that is a text
abbrev pub is_silent : Flat → Bool
is_silent f =
    is_none f.event.ending && length f.tuplets == 0 && length f.event.mentions == 0 && list_all is_none f.event.words
    && list_all (λ d. not (is_text d)) f.event.decos

abbrev pub are_silent : List DrawnMeasure → Bool
are_silent ds = list_all (λ d. list_all (λ e. is_silent e.flat) d.events) ds

-- in measures a to b - 1
abbrev pub is_silent_staff : ℕ → ℕ → List DrawnVoice → Bool
is_silent_staff a b voices = list_all (λ v. are_silent (slice_range v.measures a b)) voices
