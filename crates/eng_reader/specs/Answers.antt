-- What is read of a text: what it says, or its first fault.
use Rattle.std.specs.Prelude.{◌≡◌, ℕ, ◌+◌, List, [], length, Option, MatchOption}
use Rattle.eng_reader.specs.Grammar.{Grammar, lines_then, Leads}
use Rattle.eng_reader.specs.declared.reading.LineError.{LineError}
use Rattle.eng_reader.specs.declared.reading.LineError.TheVariants.{Bad, Memory}

-- each line of the text is good, and the last ends it: the lines say this
abbrev pub IsGoodThroughout : (g : Grammar) → List ℕ → g.Whole → Type 0
IsGoodThroughout g text whole =
    (ls : List g.Line) × (text ≡ lines_then g.line_text ls []) × Leads g g.begun ls (g.ended whole)

-- a text begins with this many good lines
pub record GoodLines (g : Grammar) (text : List ℕ) (count : ℕ) : Type 0 where
  pub lines : List g.Line
  pub rest : List ℕ
  pub state : g.State
  pub parted : text ≡ lines_then g.line_text lines rest
  pub leads : Leads g g.begun lines state
  pub counted : count ≡ length lines

-- The lines before this one are good, and this one isn't, or doesn't exist; and the text isn't good throughout.
pub record IsFirstFault (g : Grammar) (text : List ℕ) (number : ℕ) : Type 0 where
  pub before : ℕ
  pub good : GoodLines g text before
  pub after : number ≡ before + 1
  pub bad : GoodLines g text (before + 1) → ⊥
  pub unfinished : (whole : g.Whole) → IsGoodThroughout g text whole → ⊥

-- Bad says that this is the first line that isn't good; Memory says nothing
abbrev pub IsCause : Grammar → List ℕ → LineError → Type 0
IsCause g text (Bad line) = IsFirstFault g text line
IsCause g text Memory = Unit {0}

-- no line that may come has this text
abbrev pub NoneComes : (g : Grammar) → g.State → List ℕ → Type 0
NoneComes g p raw = (l : g.Line) → raw ≡ g.line_text l → g.MayCome p l → ⊥

-- a line that may come has this text, and the state after it has the property
pub record Comes (g : Grammar) (p : g.State) (raw : List ℕ) (P : g.State → Type 0) : Type 0 where
  pub line : g.Line
  pub spelled : raw ≡ g.line_text line
  pub may : g.MayCome p line
  pub next : P (g.state_after p line)

-- what is learned from a line in a state
abbrev pub IsStep : {Reader : Type 0}
    → (g : Grammar) → (Reader → g.State → Type 0) → g.State → List ℕ → Option Reader → Type 0
IsStep g IsAt p raw o = MatchOption o (NoneComes g p raw) (λ next. Comes g p raw (IsAt next))

-- what is known after the last line: that it ends the text, and what the text says; or that it doesn't end the text
abbrev pub IsFinish : {Said : Type 0}
    → (g : Grammar) → (g.Whole → Said → Type 0) → g.State → Option Said → Type 0
IsFinish g Says p o = MatchOption o
    ((whole : g.Whole) → p ≡ g.ended whole → ⊥)
    (λ said. (whole : g.Whole) × (p ≡ g.ended whole) × Says whole said)
