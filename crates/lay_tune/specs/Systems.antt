-- The systems of a breaking: the abscissas of their columns, and their stacked staves.
use Rattle.std.specs.Prelude.{◌≡◌, ⊤, ℕ, ◌+◌, ◌-◌, ◌<◌, ◌≤◌, ◌==◌, ◌^◌, Bool, true, false, not, ℤ, pos}
use Rattle.std.specs.Prelude.{◌-ℤ◌, ◌≤ℤ◌, ◌<ℤ◌, List, [], ◌∷◌, length, map, filter, drop, Some, slice_index_or}
use Rattle.mus_score.specs.declared.score.Score.{Score}
use Rattle.mus_score.specs.declared.score.Voice.{Voice}
use Rattle.mus_score.specs.Seats.{stands_lower}
use Rattle.mus_onsets.specs.Onsets.{timeline_of}
use Rattle.mus_laid.specs.declared.laid.SystemMarks.{SystemMarks}
use Rattle.mus_laid.specs.Shapes.{HaveSameShapes}
use Rattle.{mus_marks.specs.Tilt.{IsTilted}, lay_reaches.specs.{declared.column.Column.Column, Columns.column_reach}}
use Rattle.lay_springs.specs.declared.margin.Placed.{Placed}
use Rattle.lay_springs.specs.Place.{IsPlace, StandApart, length_at, reach_at}
use Rattle.lay_springs.specs.Fit.{IsEndOf, IsSet, counted, is_ragged}
use Rattle.lay_rows.specs.Costs.{force_in}
use Rattle.lay_pages.specs.Distances.{tallest_block}
use Rattle.lay_pages.specs.declared.stacking.Heights.{Heights}
use Rattle.lay_pages.specs.Stacking.{AreStavesStacked}
use Rattle.lay_tune.specs.Spans.{IsForceOf, IsSystemOf, column_length, score_gaps, system_columns}

-- Two things for each span of a breaking, in order; the first span begins at bar a.
abbrev pub EachSpan : {X Y : Type 0} → (ℕ → ℕ → X → Y → Type 0) → ℕ → List ℕ → List X → List Y → Type 0
EachSpan P a [] [] [] = ⊤
EachSpan P a (b ∷ bs) (x ∷ xs) (y ∷ ys) = P a b x y × EachSpan P b bs xs ys
EachSpan P a _ _ _ = ⊥

-- the abscissa of the column of a rank
abbrev pub x_at : List ℤ → ℕ → ℤ
x_at at rank = slice_index_or at rank (pos 0)

-- the last of some columns, at its abscissa, ends exactly at the width
abbrev pub EndAtWidth : List ℕ → ℕ → List Column → List ℤ → Type 0
EndAtWidth gaps width columns at =
    IsEndOf (reach_at column_reach columns (length columns - 1)) (length gaps) (x_at at (length columns - 1))
    (pos width)

-- Columns at their greatest force, as it counts: set to the width, except for a ragged last system, which stays as
-- placed.
pub record IsJustified (gaps : List ℕ) (width : ℕ) (last : Bool) (columns : List Column) (p : Placed) : Type 0 where
  pub pressed : (force : ℕ)
      × IsForceOf gaps width columns force
      × (p.force ≡ counted last force)
      × (p.ragged ≡ is_ragged last force)
  pub loose : p.ragged ≡ true
      → IsPlace (length columns) (reach_at column_reach columns) gaps (length_at column_length columns p.force) p.at
  pub set : p.ragged ≡ false
      → IsSet (length columns) (reach_at column_reach columns) gaps (length_at column_length columns) width p.force p.at
  pub apart : StandApart (length columns) (reach_at column_reach columns) gaps (length_at column_length columns p.force)
      p.at

-- the columns of a system of the score are justified; its last system is the one that ends with it
abbrev pub IsPlaced : Score → ℕ → SystemMarks → Placed → Type 0
IsPlaced s width m p = IsJustified (score_gaps s) width (m.b == s.measures) (system_columns s m) p

-- What a score has in measures a to b - 1, set to a width: the columns of the marks that it calls for are justified,
-- and the marks are tilted over their abscissas. Unless it is ragged, it ends exactly at the width.
pub record IsSetSystem (s : Score) (width a b : ℕ) (m : SystemMarks) (p : Placed) : Type 0 where
  pub flat : SystemMarks
  pub called : IsSystemOf s a b flat
  pub placed : IsPlaced s width flat p
  pub ends : p.ragged ≡ false → EndAtWidth (score_gaps s) width (system_columns s flat) p.at
  pub tilted : IsTilted s (timeline_of s) a b p.at m
  pub alike : HaveSameShapes flat m

-- the distance that the staff of each voice that isn't lower keeps from the one above it, except for the first voice
abbrev pub gaps_between : List Voice → List ℕ
gaps_between voices = map (λ v. v.gap) (filter (λ v. not (stands_lower v)) (drop 1 voices))

-- the staves of a system of the score are stacked
pub record IsStack (s : Score) (m : SystemMarks) (h : Heights) : Type 0 where
  pub stacked : AreStavesStacked (pos 0) (gaps_between s.voices) m.staves h.bases (pos 0 -ℤ h.height)
  pub low : pos 0 ≤ℤ h.height
  pub high : h.height ≤ℤ pos tallest_block

-- Columns that can be placed, and whose greatest force this is.
pub record HaveForce (gaps : List ℕ) (width force : ℕ) (columns : List Column) : Type 0 where
  pub some : 0 < length columns
  pub few : length columns ≤ 2 ^ 26
  pub pressed : IsForceOf gaps width columns force

-- A span of which rows have a force, the greatest of its columns, which can be placed.
pub record CanBeSet (s : Score) (width : ℕ) (rows : List (List ℕ)) (a b : ℕ) : Type 0 where
  pub rises : a < b
  pub within : b ≤ s.measures
  pub force : ℕ
  pub pressed_so : force_in rows a b ≡ Some force
  pub columns : (m : SystemMarks) → IsSystemOf s a b m → HaveForce (score_gaps s) width force (system_columns s m)

-- each span of a breaking, the first of which begins at bar a
abbrev pub AllSpans : (ℕ → ℕ → Type 0) → ℕ → List ℕ → Type 0
AllSpans P a [] = ⊤
AllSpans P a (b ∷ bs) = P a b × AllSpans P b bs

-- columns rise from the left within the width
pub record StandWithin (width count : ℕ) (at : List ℤ) : Type 0 where
  pub count_is : length at ≡ count
  pub rise : (i : ℕ) → i + 1 < count → x_at at i <ℤ x_at at (i + 1)
  pub low : (i : ℕ) → i < count → pos 0 ≤ℤ x_at at i
  pub high : (i : ℕ) → i < count → x_at at i ≤ℤ pos width
