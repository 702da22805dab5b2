-- What a step of the reader says: either no good line has the text, or the state is the one after the line that has
-- it.
use Rattle.std.specs.Prelude.{◌≡◌, ℕ, List, Option, MatchOption, ⊤}
use Rattle.ps_read.specs.Lines.{Line, Fixed, Tune, System, Join, Mark, line_text}
use Rattle.ps_read.specs.ReaderStates.{MayCome, state_after}
use Rattle.ps_read.specs.declared.state.ReaderState.{ReaderState}

-- none of the lines in question that may come here has this text
abbrev pub NoneOf : (Line → Type 0) → ReaderState → List ℕ → Type 0
NoneOf Q p raw = (l : Line) → Q l → raw ≡ line_text l → MayCome p l → ⊥

-- one that may come here has it, and all that have it lead to this state
pub record IsNextOf (Q : Line → Type 0) (p : ReaderState) (raw : List ℕ) (q : ReaderState) : Type 0 where
  pub line : Line
  pub asked : Q line
  pub spelled : raw ≡ line_text line
  pub may : MayCome p line
  pub only : (m : Line) → Q m → raw ≡ line_text m → MayCome p m → state_after p m ≡ q

abbrev pub IsStepOf : (Line → Type 0) → ReaderState → List ℕ → Option ReaderState → Type 0
IsStepOf Q p raw o = MatchOption o (NoneOf Q p raw) (IsNextOf Q p raw)

abbrev pub Any : Line → Type 0
Any l = ⊤

abbrev pub IsStep : ReaderState → List ℕ → Option ReaderState → Type 0
IsStep = IsStepOf Any

-- the lines that may come after a system as well as after a title
abbrev pub IsItemLine : Line → Type 0
IsItemLine (Tune k) = ⊤
IsItemLine (System a b) = ⊤
IsItemLine (Fixed text) = ⊤
IsItemLine l = ⊥

abbrev pub IsSystemLine : Line → Type 0
IsSystemLine (System a b) = ⊤
IsSystemLine l = ⊥

abbrev pub IsJoinLine : Line → Type 0
IsJoinLine (Join top foot) = ⊤
IsJoinLine l = ⊥

abbrev pub IsNoMark : Line → Type 0
IsNoMark (Mark y m) = ⊥
IsNoMark l = ⊤
