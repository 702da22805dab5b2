-- The systems of a book: for each tune without a fault its line, and a line for each of its systems.
use Rattle.std.specs.{Prelude.{ℕ, List, [], ◌∷◌, ◌++◌, codes, decimal, Result, Ok, Err, unwrap_or}, List.flat_map}
use Rattle.abc_lines.specs.declared.fault.Fault.{Fault}
use Rattle.mus_laid.specs.declared.laid.SystemMarks.{SystemMarks}
use Rattle.lay_breaks.specs.declared.costs.Span.{Span}
use Rattle.lay_breaks.specs.Spans.{listed}
use Rattle.lay_springs.specs.declared.margin.Placed.{Placed}
use Rattle.set_tune.specs.declared.tune.SetTune.{SetTune}
use Rattle.set_book.specs.declared.outcome.Outcome.{Outcome}

-- the badness of the listed span from bar a to bar b
abbrev pub badness_in : List Span → ℕ → ℕ → ℕ
badness_in spans a b = unwrap_or (listed spans a b) 0

-- a system: the bar before it and its last bar, its force as it counts, and its badness
unfoldable pub listed_system : List Span → SystemMarks → Placed → List ℕ
listed_system spans m p =
    codes "system " ++ decimal m.a ++ codes " " ++ decimal m.b ++ codes " force " ++ decimal p.force
    ++ codes " badness " ++ decimal (badness_in spans m.a m.b) ++ codes "\n"

-- the systems in order, each with the places of its columns
abbrev pub system_lines : List Span → List SystemMarks → List Placed → List ℕ
system_lines spans [] ps = []
system_lines spans (m ∷ ms) [] = []
system_lines spans (m ∷ ms) (p ∷ ps) = listed_system spans m p ++ system_lines spans ms ps

-- a tune: its number, how many measures it has, and its total badness
unfoldable pub listed_tune : ℕ → SetTune → List ℕ
listed_tune ordinal t =
    codes "tune " ++ decimal ordinal ++ codes " measures " ++ decimal t.score.measures ++ codes " total "
    ++ decimal t.breaking.total ++ codes "\n"

abbrev pub tune_lines : ℕ → SetTune → List ℕ
tune_lines ordinal t = listed_tune ordinal t ++ system_lines t.spans t.systems t.placed

-- a tune with a fault has no line
abbrev pub result_lines : ℕ → Result SetTune Fault → List ℕ
result_lines ordinal (Ok t) = tune_lines ordinal t
result_lines ordinal (Err fault) = []

abbrev pub outcome_lines : Outcome → List ℕ
outcome_lines outcome = result_lines outcome.ordinal outcome.result

unfoldable pub systems_text : List Outcome → List ℕ
systems_text outcomes = flat_map outcome_lines outcomes
