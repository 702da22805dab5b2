-- Each stage of a tune has exactly one result, whether or not there is memory to compute it: its header, its body, its
-- score, the score that is drawn by the plan of its staves, that score moved, and the layout.
use Rattle.std.specs.Prelude.{◌≡◌, ◌<◌, ◌≤◌, ℕ, ℤ, List, length, Bool, Option, Result, Ok, Err, IfOk, IfSome}
use Rattle.std.specs.List.{All}
use Rattle.mus_units.specs.declared.key.Key.{Key}
use Rattle.abc_lines.specs.declared.book.Line.{Line}
use Rattle.abc_lines.specs.declared.book.TuneText.{TuneText}
use Rattle.abc_lines.specs.Results.{HasOneResult}
use Rattle.abc_fields.specs.declared.defaults.Defaults.{Defaults}
use Rattle.abc_fields.specs.declared.header.Header.{Header}
use Rattle.abc_fields.specs.Good.{IsGoodDefaults}
use Rattle.abc_fields.specs.Headers.{HasGoodValues, IsGoodHeader, IsHeaderResult}
use Rattle.abc_items.specs.Body.{IsBodyResult}
use Rattle.abc_items.specs.Good.{IsGoodItem}
use Rattle.abc_score.specs.Build.{IsScoreResult}
use Rattle.mus_score.specs.declared.score.Score.{Score}
use Rattle.mus_score.specs.GoodScore.{IsGoodScore}
use Rattle.mus_transpose.specs.Moved.{IsMoved}
use Rattle.lay_breaks.specs.declared.costs.Span.{Span}
use Rattle.lay_tune.specs.declared.layout.Layout.{Layout}
use Rattle.lay_tune.specs.Layout.{IsLayout, IsNoWay}
use Rattle.set_tune.specs.Setting.{IsScoreDrawn}

-- a layout of a score on a width, or the greatest bar that a legal prefix reaches where no breaking is legal
abbrev pub IsLayoutResult : Score → ℕ → Result Layout ℕ → Type 0
IsLayoutResult s width (Ok layout) = IsLayout s width layout
IsLayoutResult s width (Err reached) = (spans : List Span) × IsNoWay s width reached spans

pub record EachStageHasOneResult : Type 0 where
  -- a tune has one header, whose values are good, or one first fault of its header
  pub header : (tune : TuneText) (defaults : Defaults) → IsGoodDefaults defaults
      → (one : HasOneResult (IsHeaderResult tune defaults)) × IfOk one.0 (λ h. IsGoodHeader tune h)
  -- under a header the lines of its body have one list of good items, or one first fault
  pub body : (h : Header) (lines : List Line)
      → (one : HasOneResult (IsBodyResult h lines)) × IfOk one.0 (λ items. All IsGoodItem items)
  -- under a good header a tune has one good score, or one first fault of its body or its score
  pub score : (h : Header) (tune : TuneText) (flow : Bool) → HasGoodValues h
      → (one : HasOneResult (IsScoreResult h tune flow)) × IfOk one.0 (λ s. IsGoodScore s)
  -- by the line of its staves a good score is drawn as one good score, or the line has one fault
  pub drawn : (staves : Option Line) (written : Score) → IsGoodScore written
      → (one : HasOneResult (IsScoreDrawn staves written)) × IfOk one.0 (λ s. IsGoodScore s)
  -- moved by some semitones, a good score is one good score, or it can't be moved that far
  pub moved : (drawn : Score) (key : Key) (by : ℤ) → IsGoodScore drawn
      → (moved : Option Score)
      × IsMoved drawn key by moved
      × ((other : Option Score) → IsMoved drawn key by other → moved ≡ other)
      × IfSome moved (λ s. IsGoodScore s)
  -- a good score that has a voice if it has a measure has one layout on a width; or no breaking of it is legal there,
  -- and one bar is the last that a legal prefix reaches
  pub layout : (s : Score) (width : ℕ) → IsGoodScore s → (0 < s.measures → 1 ≤ length s.voices)
      → (result : Result Layout ℕ)
      × IsLayoutResult s width result
      × ((other : Result Layout ℕ) → IsLayoutResult s width other → result ≡ other)
