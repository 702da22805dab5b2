-- What comes before and after a place among the steps of a voice: `before` is the steps before it, the nearest first,
-- and `following` the steps after it.
use Rattle.std.specs.Prelude.{ℕ, List, reverse, find, count_by, Bool, false, if◌then◌else◌, Option, Some, None}
use Rattle.std.specs.List.{before_first, list_any}
use Rattle.abc_steps.specs.declared.step.PlacedStep.{PlacedStep}
use Rattle.abc_steps.specs.Kinds.{is_sound, is_note, is_event, is_bar, is_broken, is_tie, is_slur_on, is_slur_off}
use Rattle.abc_steps.specs.Kinds.{is_parting, is_event_or_bar, is_left_stop, is_tie_stop}

abbrev pub Steps : Type 0
Steps = List PlacedStep

-- the steps since the previous event, or the previous note, in the order of the text
unfoldable pub since_event : Steps → Steps
since_event before = reverse (before_first (λ s. is_event s.step) before)

unfoldable pub since_note : Steps → Steps
since_note before = reverse (before_first (λ s. is_note s.step) before)

-- the steps up to the next event, or the next note
unfoldable pub to_event : Steps → Steps
to_event following = before_first (λ s. is_event s.step) following

unfoldable pub to_note : Steps → Steps
to_note following = before_first (λ s. is_note s.step) following

-- the nearest event
unfoldable pub nearest_event : Steps → Option PlacedStep
nearest_event steps = find (λ s. is_event s.step) steps

-- a tie belongs to the last note before it on its line
unfoldable pub is_sound_tied : Steps → Bool
is_sound_tied following = list_any (λ s. is_tie s.step) (before_first (λ s. is_tie_stop s.step) following)

-- an opened slur is pending for the next note, and a closed one belongs to the last note before it
unfoldable pub slurs_begun : Steps → ℕ
slurs_begun before = count_by (λ s. is_slur_on s.step) (since_note before)

unfoldable pub slurs_ended : Steps → ℕ
slurs_ended following = count_by (λ s. is_slur_off s.step) (to_note following)

-- a space or the end of a line is pending
unfoldable pub has_parting : Steps → Bool
has_parting waits = list_any (λ s. is_parting s.step) waits

unfoldable pub is_some_sound : Option PlacedStep → Bool
is_some_sound (Some s) = is_sound s.step
is_some_sound None = false

-- The broken rhythm between two events: the first one there, if there is no bar.
unfoldable pub broken_among : Steps → Option PlacedStep
broken_among between = if list_any (λ s. is_bar s.step) between then None else find (λ s. is_broken s.step) between

-- the broken rhythm between an event and the one before it, or the one after it, if both have a length
unfoldable pub broken_before : Steps → Option PlacedStep
broken_before before = if is_some_sound (nearest_event before) then broken_among (since_event before) else None

unfoldable pub broken_after : Steps → Option PlacedStep
broken_after following = if is_some_sound (nearest_event following) then broken_among (to_event following) else None

-- The sides of a broken rhythm. On the left, the nearest event, bar or other broken rhythm is an event with a length;
-- on the right, the nearest event or bar is.
unfoldable pub has_left : Steps → Bool
has_left before = is_some_sound (find (λ s. is_left_stop s.step) before)

unfoldable pub has_right : Steps → Bool
has_right following = is_some_sound (find (λ s. is_event_or_bar s.step) following)
