-- What the file header states for all tunes and the paper, and what a tune's header states about its staves. For each
-- kind the last line that states one counts; a line in another form states nothing.
use Rattle.std.specs.{Prelude.{◌≡◌, ◌⊎◌, ◌≤◌, ℕ, List, [], ◌∷◌, ◌++◌, ⊤, Option, Some, None, codes}, Option.option_map}
use Rattle.mus_units.specs.declared.key.Meter.{Meter}
use Rattle.mus_units.specs.declared.key.Spread.{Spread}
use Rattle.mus_units.specs.declared.value.Frac.{Frac}
use Rattle.abc_lines.specs.declared.book.Line.{Line}
use Rattle.abc_lines.specs.declared.book.TuneText.{TuneText}
use Rattle.abc_field.specs.declared.directive.Breaks.{Breaks}
use Rattle.abc_field.specs.FieldSpelling.{SaysBreaks, SaysSpread}
use Rattle.abc_field.specs.MeterSpelling.{SaysMeter, SaysUnit}
use Rattle.abc_fields.specs.declared.defaults.Defaults.{Defaults}
use Rattle.abc_fields.specs.declared.paper.Paper.{Paper}
use Rattle.abc_fields.specs.Defaults.{default_breaks, line_of}
use Rattle.abc_fields.specs.DirectiveSpelling.{IsDirective}
use Rattle.abc_fields.specs.Headers.{first_line_number, head_lines, key_place}
use Rattle.abc_fields.specs.Papers.{default_paper, body_width, body_height}
use Rattle.abc_fields.specs.PaperSpelling.{WritesLength, WritesScale}

-- What one line states.

-- `M:` and a meter
pub record StatesMeter (line : Line) (meter : Meter) : Type 0 where
  pub text : List ℕ
  pub field : line.text ≡ codes "M:" ++ text
  pub says : SaysMeter text meter

-- `L:` and a unit length
pub record StatesUnit (line : Line) (unit : Frac) : Type 0 where
  pub text : List ℕ
  pub field : line.text ≡ codes "L:" ++ text
  pub says : SaysUnit text unit

pub record StatesBreaks (line : Line) (breaks : Breaks) : Type 0 where
  pub text : List ℕ
  pub directive : IsDirective line.text (codes "linebreak") text
  pub says : SaysBreaks text breaks

pub record StatesSpread (line : Line) (spread : Spread) : Type 0 where
  pub text : List ℕ
  pub directive : IsDirective line.text (codes "propagate-accidentals") text
  pub says : SaysSpread text spread

-- `%%score` and a text, at the line's number
pub record StatesStaves (line : Line) (staves : Line) : Type 0 where
  pub directive : IsDirective line.text (codes "score") staves.text
  pub number : staves.number ≡ line.number

-- a directive with that name and a length
pub record StatesLength (name : List ℕ) (line : Line) (size : ℕ) : Type 0 where
  pub text : List ℕ
  pub directive : IsDirective line.text name text
  pub writes : WritesLength text size

pub record StatesScale (line : Line) (percent : ℕ) : Type 0 where
  pub text : List ℕ
  pub directive : IsDirective line.text (codes "scale") text
  pub writes : WritesScale text percent

-- What all lines together state.

-- none of the lines states one
abbrev pub AreSilent : {X : Type 0} → (Line → X → Type 0) → List Line → Type 0
AreSilent States [] = ⊤
AreSilent {X} States (line ∷ lines) = ((x : X) → States line x → ⊥) × AreSilent States lines

-- a line states it, and no line after that one states another
pub record IsLastOf {X : Type 0} (States : Line → X → Type 0) (lines : List Line) (x : X) : Type 0 where
  pub before : List Line
  pub line : Line
  pub after : List Line
  pub cut : lines ≡ before ++ line ∷ after
  pub states : States line x
  pub silent : AreSilent States after

-- the last value stated, or this one if there is none
abbrev pub IsLastOr : {X : Type 0} → (Line → X → Type 0) → X → List Line → X → Type 0
IsLastOr States default lines x = IsLastOf States lines x ⊎ (AreSilent States lines × (x ≡ default))

abbrev pub IsLastIfAny : {X : Type 0} → (Line → X → Type 0) → List Line → Option X → Type 0
IsLastIfAny States lines None = AreSilent States lines
IsLastIfAny States lines (Some x) = IsLastOf States lines x

-- the defaults of a book whose file header has these lines
pub record AreDefaultsBy (lines : List Line) (defaults : Defaults) : Type 0 where
  pub meter : IsLastOr StatesMeter Meter.Free lines defaults.meter
  pub unit : IsLastIfAny StatesUnit lines defaults.unit
  pub breaks : IsLastOr StatesBreaks default_breaks lines defaults.breaks
  pub spread : IsLastOr StatesSpread Spread.Pitch lines defaults.spread
  pub staves : IsLastIfAny StatesStaves lines defaults.staves

-- The staves of a tune whose header has these lines and whose first line has this number: the last that its lines
-- state, or else the file's, placed at that first line.
abbrev pub AreStavesBy : List Line → ℕ → Option Line → Option Line → Type 0
AreStavesBy lines first other staves =
    ((own : Line) × IsLastOf StatesStaves lines own × (staves ≡ Some own))
    ⊎ (AreSilent StatesStaves lines × (staves ≡ option_map (λ (line : Line). line_of first line.text) other))

-- a tune's header ends with its first `K:`
abbrev pub AreStavesUpTo : TuneText → Option Line → Option ℕ → Option Line → Type 0
AreStavesUpTo tune other None staves = ⊥
AreStavesUpTo tune other (Some place) staves =
    AreStavesBy (head_lines tune place) (first_line_number tune.lines) other staves

abbrev pub AreStavesOf : TuneText → Defaults → Option Line → Type 0
AreStavesOf tune defaults staves = AreStavesUpTo tune defaults.staves (key_place tune.lines) staves

-- each value is the last one stated, or its default
pub record IsStatedPaper (lines : List Line) (paper : Paper) : Type 0 where
  pub wide : IsLastOr (StatesLength (codes "pagewidth")) default_paper.wide lines paper.wide
  pub high : IsLastOr (StatesLength (codes "pageheight")) default_paper.high lines paper.high
  pub left : IsLastOr (StatesLength (codes "leftmargin")) default_paper.left lines paper.left
  pub right : IsLastOr (StatesLength (codes "rightmargin")) default_paper.right lines paper.right
  pub top : IsLastOr (StatesLength (codes "topmargin")) default_paper.top lines paper.top
  pub bottom : IsLastOr (StatesLength (codes "botmargin")) default_paper.bottom lines paper.bottom
  pub scale : IsLastOr StatesScale default_paper.scale lines paper.scale

-- the body is at least 10,000 hundredths of a point wide and high
abbrev pub HasBodyRoom : Paper → Type 0
HasBodyRoom paper = (10000 ≤ body_width paper) × (10000 ≤ body_height paper)

-- The paper of a book whose file header has these lines: the stated paper if its body has room, or else all the
-- defaults.
pub record IsPaperBy (lines : List Line) (paper : Paper) : Type 0 where
  pub stated : Paper
  pub states : IsStatedPaper lines stated
  pub chosen : (HasBodyRoom stated × (paper ≡ stated)) ⊎ ((HasBodyRoom stated → ⊥) × (paper ≡ default_paper))
