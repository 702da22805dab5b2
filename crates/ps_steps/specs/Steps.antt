-- Runs: the steps of the machine, and its results.
use Rattle.std.specs.Prelude.{◌≡◌, ℕ, zero, suc, ◌<◌, ◌≤◌, false, List, [], ◌∷◌, ◌++◌}
use Rattle.ps_steps.specs.declared.halt.Cause.{Cause}
use Rattle.ps_steps.specs.declared.halt.MachineError.{MachineError}
use Rattle.ps_steps.specs.declared.halt.MachineError.TheVariants.{Halt, Memory}
use Rattle.ps_steps.specs.declared.paint.PagePaint.{PagePaint}
use Rattle.ps_steps.specs.Tokens.{SimpleToken, MachineToken, simple_token, TokenAt, NoToken, passed}
use Rattle.ps_steps.specs.State.{State, first_state}
use Rattle.ps_steps.specs.Operators.{went, halted, executed}

-- the state of a run: the tokens of procedures that are still to be executed, the machine's state, and the rest of
-- the text, which doesn't begin with a blank or a comment
pub record RunState : Type 0 where
  pub pending : List SimpleToken
  pub state : State
  pub text : List ℕ

-- before a text
abbrev pub state_before : State → List ℕ → RunState
state_before m s = record { pending = []; state = m; text = passed false s }

-- the next token, and the state after it
pub data NextToken : RunState → MachineToken → RunState → Type 0 where
  from_pending : (t : SimpleToken) (ts : List SimpleToken) (m : State) (s : List ℕ)
      → NextToken (record { pending = t ∷ ts; state = m; text = s }) (simple_token t)
      (record { pending = ts; state = m; text = s })
  from_text : (m : State) (s rest : List ℕ) (t : MachineToken)
      → TokenAt s t rest → NextToken (record { pending = []; state = m; text = s }) t (state_before m rest)

-- a token was executed
abbrev pub state_after : List SimpleToken → State → RunState → RunState
state_after body m p = record { pending = body ++ p.pending; state = m; text = p.text }

pub record Step (p q : RunState) : Type 0 where
  pub token : MachineToken
  pub rest : RunState
  pub body : List SimpleToken
  pub state : State
  pub next : NextToken p token rest
  pub went : executed token p.state ≡ went body state
  pub is : q ≡ state_after body state rest

-- this many tokens are executed from one state to another
pub data TakesSteps : ℕ → RunState → RunState → Type 0 where
  here : (p : RunState) → TakesSteps zero p p
  step : (n : ℕ) (p q r : RunState) → Step p q → TakesSteps n q r → TakesSteps (suc n) p r

-- nothing is left to execute
pub record Ended (p : RunState) : Type 0 where
  pub calls : p.pending ≡ []
  pub text : p.text ≡ []

-- the bytes begin no token
pub record Unreadable (p : RunState) (cause : Cause) : Type 0 where
  pub calls : p.pending ≡ []
  pub some : p.text ≡ [] → ⊥
  pub none : NoToken p.text cause

-- there is a token
pub record Ready (p : RunState) : Type 0 where
  pub token : MachineToken
  pub rest : RunState
  pub next : NextToken p token rest

-- the next token can't be executed
pub record Stuck (p : RunState) (cause : Cause) : Type 0 where
  pub token : MachineToken
  pub rest : RunState
  pub next : NextToken p token rest
  pub halts : executed token p.state ≡ halted cause

-- the run ends at the end of its text
pub record Paints (text : List ℕ) (budget : ℕ) (pages : List PagePaint) : Type 0 where
  pub count : ℕ
  pub last : RunState
  pub within : count ≤ budget
  pub run : TakesSteps count (state_before first_state text) last
  pub ended : Ended last
  pub painted : last.state.pages ≡ pages

-- why a run may not go on: the bytes begin no token, the budget is used up, or the token can't be executed
pub data Cannot (budget count : ℕ) (p : RunState) : Cause → Type 0 where
  unreadable : (cause : Cause) → Unreadable p cause → Cannot budget count p cause
  used_up : count ≡ budget → Ready p → Cannot budget count p Cause.Budget
  stuck : (cause : Cause) → count < budget → Stuck p cause → Cannot budget count p cause

pub record Halts (text : List ℕ) (budget token : ℕ) (cause : Cause) : Type 0 where
  pub last : RunState
  pub within : token ≤ budget
  pub run : TakesSteps token (state_before first_state text) last
  pub halted : Cannot budget token last cause

-- what an error says; Memory says nothing
abbrev pub IsHalt : List ℕ → ℕ → MachineError → Type 0
IsHalt text budget (Halt token cause) = Halts text budget token cause
IsHalt text budget Memory = Unit {0}
