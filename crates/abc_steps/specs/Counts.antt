-- Measures: how many bars and whole measure rests are before a place of a voice.
use Rattle.std.specs.Prelude.{ℕ, ◌+◌, ◌-◌, [], ◌∷◌, Bool, true, false, if◌then◌else◌}
use Rattle.abc_steps.specs.declared.step.Step.{Step}
use Rattle.abc_steps.specs.declared.counts.Nearest.{Nearest}
use Rattle.abc_steps.specs.declared.counts.Counts.{Counts}
use Rattle.abc_steps.specs.Kinds.{is_event, is_bar}
use Rattle.abc_steps.specs.Looks.{Steps}

-- whether the nearest event or bar is an event or a bar
abbrev pub nearest_at : Steps → Nearest
nearest_at [] = Nearest.Nothing
nearest_at (s ∷ before) =
    if is_event s.step then Nearest.Event else (if is_bar s.step then Nearest.Bar else nearest_at before)

abbrev pub is_near_event : Nearest → Bool
is_near_event Nearest.Event = true
is_near_event _ = false

-- the groups of bars after the first event: a bar after an event begins one
unfoldable pub begins_group : Step → Nearest → Bool
begins_group (Step.Bar bar) near = is_near_event near
begins_group _ near = false

abbrev pub groups : Steps → ℕ
groups [] = 0
groups (s ∷ before) = if begins_group s.step (nearest_at before) then groups before + 1 else groups before

-- n whole measure rests add n - 1 measures to their own
unfoldable pub further_measures : Step → ℕ
further_measures (Step.Measures seen count) = count - 1
further_measures _ = 0

abbrev pub all_further : Steps → ℕ
all_further [] = 0
all_further (s ∷ before) = all_further before + further_measures s.step

-- the measure of an event at this place; for several whole measure rests, that of the first
abbrev pub measure_at : Steps → ℕ
measure_at before = groups before + all_further before

-- how many measures the voice has begun: one more than that of its last event
abbrev pub measures_begun : Steps → ℕ
measures_begun [] = 0
measures_begun (s ∷ before) =
    if is_event s.step then measure_at before + further_measures s.step + 1 else measures_begun before

-- the counts that a walk along the steps keeps
abbrev pub counts_of : Steps → Counts
counts_of before = record {
  groups = groups before;
  further = all_further before;
  begun = measures_begun before;
  nearest = nearest_at before;
}
