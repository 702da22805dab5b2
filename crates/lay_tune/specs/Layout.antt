-- The layout of a score, and why a score has none.
use Rattle.std.specs.Prelude.{◌≡◌, ◌+◌, ◌≤◌, ℕ, ⊤, List, length, All, None, slice_index_or}
use Rattle.std.specs.List.{AllZip}
use Rattle.{mus_score.specs.declared.score.Score.{Score}, mus_laid.specs.Boxes.{AreGoodMarks}}
use Rattle.lay_breaks.specs.declared.costs.Span.{Span}
use Rattle.lay_breaks.specs.declared.breaking.BreakError.{BreakError}
use Rattle.lay_breaks.specs.Breaking.{IsChosen, IsPotential, IsReached, NoneLegal, sum_from}
use Rattle.lay_breaks.specs.Spans.{AreSpans, listed}
use Rattle.lay_tune.specs.declared.layout.LayoutError.{LayoutError}
use Rattle.lay_tune.specs.Spans.{AreSpansOf, is_forced_in}
use Rattle.lay_tune.specs.declared.layout.LayoutError.TheVariants.{NoWay, Memory}
use Rattle.lay_tune.specs.declared.layout.Layout.{Layout}
use Rattle.lay_tune.specs.Breakings.{IsLeastBreaking, IsLegalIn, IsReachedIn}
use Rattle.lay_tune.specs.Systems.{EachSpan, IsSetSystem, IsStack}

-- The score laid out on a width: the listed spans are exactly those that fit, the breaking is the chosen one over
-- them and the one of least total of the score, and each of its systems has the marks that the score calls for, set
-- to the width and tilted there, and its staves stacked.
pub record IsLayout (s : Score) (width : ℕ) (l : Layout) : Type 0 where
  pub form : AreSpans s.measures l.spans
  pub spans : AreSpansOf s width l.spans
  pub chosen : IsChosen (listed l.spans) (is_forced_in s) s.measures l.breaking.breaks
  pub total : l.breaking.total ≡ sum_from (listed l.spans) 0 l.breaking.breaks
  pub least : IsLeastBreaking s width l.breaking.breaks l.breaking.total
  pub one_each : length l.breaking.potentials ≡ s.measures + 1
  pub potentials : (i : ℕ)
      → i ≤ s.measures → IsPotential (listed l.spans) (is_forced_in s) i (slice_index_or l.breaking.potentials i None)
  pub systems : EachSpan (IsSetSystem s width) 0 l.breaking.breaks l.systems l.placed
  pub heights : AllZip (IsStack s) l.systems l.heights
  pub texts : All (λ m. All (λ staff. AreGoodMarks staff.marks) m.staves) l.systems

-- The score has no legal breaking on the width; `reached` is the greatest bar at which a legal prefix of it ends. The
-- same holds of the listed spans, which are exactly those that fit.
pub record IsNoWay (s : Score) (width reached : ℕ) (spans : List Span) : Type 0 where
  pub none_of_score : (breaks : List ℕ) → IsLegalIn s width breaks → ⊥
  pub furthest_of_score : IsReachedIn s width reached
  pub form : AreSpans s.measures spans
  pub exact : AreSpansOf s width spans
  pub none : NoneLegal (listed spans) (is_forced_in s) s.measures
  pub furthest : IsReached (listed spans) (is_forced_in s) s.measures reached

-- out of memory says nothing
abbrev pub IsCauseIn : Score → ℕ → LayoutError → Type 0
IsCauseIn s width (NoWay reached) = (spans : List Span) × IsNoWay s width reached spans
IsCauseIn s width Memory = ⊤

abbrev pub layout_error : BreakError → LayoutError
layout_error (BreakError.NoWay reached) = NoWay reached
layout_error BreakError.Memory = Memory
