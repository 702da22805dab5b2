-- The kinds of steps.
use Rattle.std.specs.Prelude.{List, [], ◌∷◌, Bool, true, false, ◌||◌}
use Rattle.{mus_units.specs.declared.note.Head.{Head}, abc_steps.specs.declared.step.Step.{Step}}

abbrev pub has_head : List Head → Bool
has_head [] = false
has_head (h ∷ hs) = true

-- an event with a written length: a note, a chord or a rest
unfoldable pub is_sound : Step → Bool
is_sound (Step.Sound s) = true
is_sound _ = false

-- a note or a chord
unfoldable pub is_note : Step → Bool
is_note (Step.Sound s) = has_head s.heads
is_note _ = false

-- a note, a chord, a rest or whole measure rests; a grace is not an event
unfoldable pub is_event : Step → Bool
is_event (Step.Sound s) = true
is_event (Step.Measures seen count) = true
is_event _ = false

unfoldable pub is_bar : Step → Bool
is_bar (Step.Bar bar) = true
is_bar _ = false

unfoldable pub is_broken : Step → Bool
is_broken (Step.Broken right dots) = true
is_broken _ = false

unfoldable pub is_tie : Step → Bool
is_tie Step.Tie = true
is_tie _ = false

unfoldable pub is_slur_on : Step → Bool
is_slur_on Step.SlurOn = true
is_slur_on _ = false

unfoldable pub is_slur_off : Step → Bool
is_slur_off Step.SlurOff = true
is_slur_off _ = false

-- a space or the end of a line, which separates the event after it from the one before it
unfoldable pub is_parting : Step → Bool
is_parting Step.Space = true
is_parting Step.LineEnd = true
is_parting _ = false

-- what separates the sides of a broken rhythm
unfoldable pub is_event_or_bar : Step → Bool
is_event_or_bar s = is_event s || is_bar s

unfoldable pub is_left_stop : Step → Bool
is_left_stop s = is_event_or_bar s || is_broken s

-- a tie reaches back to the last note on its line
unfoldable pub is_tie_stop : Step → Bool
is_tie_stop (Step.Sound s) = has_head s.heads
is_tie_stop Step.LineEnd = true
is_tie_stop _ = false
