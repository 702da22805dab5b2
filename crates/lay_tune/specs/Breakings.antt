-- The breakings of a score on a width that are legal, and the one of least total badness, stated in terms of the
-- score and the width alone.
use Rattle.std.specs.Prelude.{◌≡◌, ℕ, ◌+◌, ◌≤◌, true, List, [], ◌∷◌, reverse, Contains}
use Rattle.mus_score.specs.declared.score.Score.{Score}
use Rattle.mus_laid.specs.declared.laid.SystemMarks.{SystemMarks}
use Rattle.lay_breaks.specs.Breaking.{LexAtMost, RisesFrom, last_from}
use Rattle.lay_spans.specs.Forced.{ForcedInside}
use Rattle.lay_tune.specs.Spans.{CanStandIn, IsSpanCost, IsSystemOf, is_forced_in, score_gaps, system_columns}
use Rattle.lay_tune.specs.Systems.{AllSpans}

-- The measures from bar a to bar b can be a system: no forced bar is strictly inside, and the columns of the marks
-- that the score calls for there can be within the width.
pub record CanBeSystem (s : Score) (width a b : ℕ) : Type 0 where
  pub free : ForcedInside (is_forced_in s) a b → ⊥
  pub stands : (m : SystemMarks) → IsSystemOf s a b m → CanStandIn (score_gaps s) width (system_columns s m)

-- A legal prefix of the score on a width that ends at bar i: a rising list of bars that ends with i, has every forced
-- bar up to i, and whose spans can each be a system. The empty list is the one that ends at 0.
pub record IsLegalTo (s : Score) (width : ℕ) (breaks : List ℕ) (i : ℕ) : Type 0 where
  pub rises : RisesFrom 0 breaks
  pub ends : last_from 0 breaks ≡ i
  pub every_forced : (f : ℕ) → f ≤ i → is_forced_in s f ≡ true → Contains breaks f
  pub fits : AllSpans (CanBeSystem s width) 0 breaks

-- a legal breaking of the score: a legal prefix that ends with the last bar
abbrev pub IsLegalIn : Score → ℕ → List ℕ → Type 0
IsLegalIn s width breaks = IsLegalTo s width breaks s.measures

-- the greatest bar at which a legal prefix of the score ends
pub record IsReachedIn (s : Score) (width i : ℕ) : Type 0 where
  pub within : i ≤ s.measures
  pub legal : (breaks : List ℕ) × IsLegalTo s width breaks i
  pub greatest : (k : ℕ) (other : List ℕ) → k ≤ s.measures → IsLegalTo s width other k → k ≤ i

-- the total cost of the spans of a breaking, each the badness of its greatest force; the first begins at bar a
abbrev pub CostTogether : Score → ℕ → ℕ → List ℕ → ℕ → Type 0
CostTogether s width a [] total = total ≡ 0
CostTogether s width a (b ∷ bs) total =
    (v : ℕ) × (rest : ℕ) × IsSpanCost s width a b v × CostTogether s width b bs rest × (total ≡ v + rest)

-- The legal breaking of least total: each legal breaking has a total, and none a smaller one; and of those with this
-- total it is the one that, read from its end, is lexicographically greatest.
pub record IsLeastBreaking (s : Score) (width : ℕ) (breaks : List ℕ) (total : ℕ) : Type 0 where
  pub legal : IsLegalIn s width breaks
  pub costs : CostTogether s width 0 breaks total
  pub least : (other : List ℕ) → IsLegalIn s width other → (v : ℕ) × CostTogether s width 0 other v × (total ≤ v)
  pub latest : (other : List ℕ)
      → IsLegalIn s width other → CostTogether s width 0 other total → LexAtMost (reverse other) (reverse breaks)
