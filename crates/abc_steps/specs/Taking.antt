-- How many more events each open tuplet takes, in the words of the music. `before` is the steps before a place, the
-- nearest first. The end of a measure, which is a bar or whole measure rests, closes all tuplets.
use Rattle.std.specs.Prelude.{ℕ, ◌+◌, ◌-◌, ◌≤◌, ⊤, List, [], ◌∷◌, nat_lt, if◌then◌else◌}
use Rattle.abc_steps.specs.declared.step.Step.{Step}
use Rattle.abc_steps.specs.declared.tuplets.OpenTuplets.{OpenTuplets}
use Rattle.abc_steps.specs.Looks.{Steps}
use Rattle.abc_steps.specs.Tuplets.{or_default}

-- a tuplet of r events is open while fewer events follow it, and takes what is left of r
abbrev pub left_of : ℕ → ℕ → List ℕ → List ℕ
left_of r events outer = if nat_lt events r then (r - events) ∷ outer else outer

-- what the tuplets opened in the measure up to a step still take, the innermost first, given the number of events
-- after the step; `earlier` says the same of the steps before it
unfoldable pub left_at : Step → (ℕ → List ℕ) → ℕ → List ℕ
left_at (Step.Sound s) earlier events = earlier (events + 1)
left_at (Step.Measures seen count) earlier events = []
left_at (Step.Bar bar) earlier events = []
left_at (Step.Tuplet p q r) earlier events = left_of (or_default p r) events (earlier events)
left_at _ earlier events = earlier events

-- Each tuplet opened at or before the place in its measure, less the events since.
abbrev pub left_since : Steps → ℕ → List ℕ
left_since [] events = []
left_since (s ∷ before) events = left_at s.step (left_since before) events

abbrev pub still_taken : Steps → List ℕ
still_taken before = left_since before 0

-- a tuplet of r events stands in at most one other, which takes them all
abbrev pub StandsIn : ℕ → List ℕ → Type 0
StandsIn r [] = ⊤
StandsIn r (left ∷ []) = r ≤ left
StandsIn r (inner ∷ outer ∷ more) = ⊥

-- each tuplet has an event and stands in at most one other
abbrev pub IsWellOpened : Step → List ℕ → Type 0
IsWellOpened (Step.Tuplet p q r) open_ones = (1 ≤ or_default p r) × StandsIn (or_default p r) open_ones
IsWellOpened _ open_ones = ⊤

abbrev pub AreWellOpened : Steps → Type 0
AreWellOpened [] = ⊤
AreWellOpened (s ∷ before) = IsWellOpened s.step (still_taken before) × AreWellOpened before

-- the open tuplets that take these numbers of events, the innermost first
abbrev pub tuplets_taking : List ℕ → OpenTuplets
tuplets_taking [] = OpenTuplets.Nothing
tuplets_taking (left ∷ []) = OpenTuplets.Single left
tuplets_taking (inner ∷ outer ∷ more) = OpenTuplets.Nested inner outer
