-- Texts that are read line by line: what the lines so far have said determines which line may come next.
use Prim.Native.Char.{code}
use Rattle.std.specs.Prelude.{◌≡◌, ℕ, List, [], ◌∷◌, ◌++◌}
use Rattle.eng_lines.specs.Lines.{Lacks}

-- The lines of one kind of text. What the lines so far have said is a state; the state after the last line has what
-- the whole text says.
pub record Grammar : Type 1 where
  pub State : Type 0
  pub Line : Type 0
  pub Whole : Type 0
  pub line_text : Line → List ℕ
  pub begun : State
  pub ended : Whole → State
  pub MayCome : State → Line → Type 0
  pub state_after : State → Line → State

-- the lines, each ended by an LF, and then what follows them
abbrev pub lines_then : {Line : Type 0} → (Line → List ℕ) → List Line → List ℕ → List ℕ
lines_then line_text [] rest = rest
lines_then line_text (l ∷ ls) rest = line_text l ++ code "\n" ∷ lines_then line_text ls rest

-- the lines are good, each after those before it, and lead from one state to another
abbrev pub Leads : (g : Grammar) → g.State → List g.Line → g.State → Type 0
Leads g p [] q = p ≡ q
Leads g p (l ∷ ls) q = g.MayCome p l × Leads g (g.state_after p l) ls q

-- good lines lead to the state
abbrev pub IsReached : (g : Grammar) → g.State → Type 0
IsReached g p = (ls : List g.Line) × Leads g g.begun ls p

-- A text says one thing at most: no line contains an LF, good lines with the same text lead to the same state, no line
-- follows the last one, and the state after it has one thing that the text says.
pub record IsUnambiguous (g : Grammar) : Type 0 where
  pub unbroken : (p : g.State) (l : g.Line) → IsReached g p → g.MayCome p l → Lacks 10 (g.line_text l)
  pub one_state : (p : g.State) (l m : g.Line)
      → IsReached g p → g.MayCome p l → g.MayCome p m → g.line_text l ≡ g.line_text m
      → g.state_after p m ≡ g.state_after p l
  pub last : (whole : g.Whole) (l : g.Line) → g.MayCome (g.ended whole) l → ⊥
  pub one_whole : (whole other : g.Whole) → g.ended whole ≡ g.ended other → other ≡ whole
