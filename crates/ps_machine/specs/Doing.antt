-- Links the operators of the machine to the code: the code's state, and what its parts do.
use Rattle.std.specs.Prelude.{◌≡◌, ℕ, suc, ℤ, ◌*ℤ◌, true, false, List, [], ◌∷◌, ◌++◌, reverse, Result, Ok, Err}
use Rattle.ps_steps.specs.declared.halt.Cause.{Cause}
use Rattle.ps_steps.specs.declared.paint.Seg.{Seg}
use Rattle.ps_steps.specs.declared.token.SimpleToken.{SimpleToken}
use Rattle.ps_steps.specs.declared.value.Operand.{Operand}
use Rattle.ps_steps.specs.declared.value.Operand.TheVariants.{Whole as whole_value, Font as font_value}
use Rattle.ps_steps.specs.declared.graphics.Graphics.{Graphics}
use Rattle.ps_steps.specs.State.{State}
use Rattle.ps_steps.specs.Operators.{Outcome, went, halted, with_two, with_six, pick, scalefont, scale, scaled}
use Rattle.ps_steps.specs.Operators.{at_point, across, above, all_near}
use Rattle.ps_machine.specs.declared.state.Machine.{Machine}
use Rattle.ps_machine.specs.declared.operands.Bend.{Bend}
use Rattle.ps_machine.specs.Naming.{names_of}
use Rattle.ps_machine.specs.declared.state.Stop.{Stop}

-- the state that the code keeps
abbrev pub state_of : Machine → State
state_of m = record {
  stack = reverse m.stack.items;
  names = names_of m.names;
  made = m.made;
  now = m.canvas.now;
  saved = m.canvas.saved;
  paints = m.paints;
  pages = m.pages;
}

-- what a token did, and why the run stops, if it does
abbrev pub DidOrStopped : Outcome → Result (Unit {0}) Stop → State → Type 0
DidOrStopped o (Ok x) m = o ≡ went [] m
DidOrStopped o (Err (Stop.Halted cause)) m = o ≡ halted cause
DidOrStopped o (Err Stop.Memory) m = Unit {0}

-- two whole numbers were on top of the stack, or there was a cause to halt
abbrev pub IsTwo : List Operand → Result (ℤ × ℤ) Stop → List Operand → Type 0
IsTwo st (Ok p) rest = st ≡ whole_value p.1 ∷ whole_value p.0 ∷ rest
IsTwo st (Err (Stop.Halted cause)) rest = (m : State) (f : ℤ → ℤ → State → Outcome) → with_two st m f ≡ halted cause
IsTwo st (Err Stop.Memory) rest = Unit {0}

-- a point in range, or one past it
abbrev pub IsPoint : Graphics → ℤ → ℤ → Result (ℤ × ℤ) Stop → Type 0
IsPoint g x y (Ok p) = (p.0 ≡ across g x) × (p.1 ≡ above g y) × (all_near (across g x ∷ above g y ∷ []) ≡ true)
IsPoint g x y (Err (Stop.Halted cause)) = (cause ≡ Cause.Range) × (all_near (across g x ∷ above g y ∷ []) ≡ false)
IsPoint g x y (Err Stop.Memory) = ⊥

abbrev pub IsFontAndNumber : List Operand → Result (ℤ × ℤ) Stop → List Operand → Type 0
IsFontAndNumber st (Ok p) rest = st ≡ whole_value p.1 ∷ font_value p.0 ∷ rest
IsFontAndNumber st (Err (Stop.Halted cause)) rest = (m : State) → scalefont st m ≡ halted cause
IsFontAndNumber st (Err Stop.Memory) rest = Unit {0}

-- the numbers of a curve
abbrev pub numbers_of : Bend → List ℤ
numbers_of b = b.first.0 ∷ b.first.1 ∷ b.second.0 ∷ b.second.1 ∷ b.end.0 ∷ b.end.1 ∷ []

-- two of six whole numbers were on top of the stack, or one is of another kind
abbrev pub IsPointOfSix : List Operand → Result (ℤ × ℤ) Stop → List Operand → Type 0
IsPointOfSix st (Ok p) rest = st ≡ whole_value p.1 ∷ whole_value p.0 ∷ rest
IsPointOfSix st (Err (Stop.Halted cause)) rest =
    (zs : List ℤ) (n : ℕ) (m : State) (f : List ℤ → State → Outcome) → pick zs (suc (suc n)) st m f ≡ halted cause
IsPointOfSix st (Err Stop.Memory) rest = ⊥

-- six whole numbers were on top of the stack, or there was a cause to halt
abbrev pub IsSix : List Operand → Result Bend Stop → List Operand → Type 0
IsSix st (Ok b) rest =
    (m : State) (f : List ℤ → State → Outcome) → with_six st m f ≡ f (numbers_of b) (record m { stack = rest })
IsSix st (Err (Stop.Halted cause)) rest = (m : State) (f : List ℤ → State → Outcome) → with_six st m f ≡ halted cause
IsSix st (Err Stop.Memory) rest = ⊥

-- there is a current point, or there is none
abbrev pub IsOnPath : List Seg → Result (Unit {0}) Stop → Type 0
IsOnPath path (Ok x) = (o : Outcome) → at_point path o ≡ o
IsOnPath path (Err (Stop.Halted cause)) = (o : Outcome) → at_point path o ≡ halted cause
IsOnPath path (Err Stop.Memory) = ⊥

-- two equal factors were on top of the stack
abbrev pub IsFactors : List Operand → Result ℤ Stop → List Operand → Type 0
IsFactors st (Ok c) rest = (m : State) → scale st m ≡ scaled (m.now.scale *ℤ c) (record m { stack = rest })
IsFactors st (Err (Stop.Halted cause)) rest = (m : State) → scale st m ≡ halted cause
IsFactors st (Err Stop.Memory) rest = Unit {0}

-- a token was executed: its procedure, if it called one, comes before what was to be executed
abbrev pub IsExecuted : Outcome → List SimpleToken → Result (Unit {0}) Stop → State → List SimpleToken → Type 0
IsExecuted o old (Ok x) m pending = (body : List SimpleToken) × (o ≡ went body m) × (pending ≡ body ++ old)
IsExecuted o old (Err (Stop.Halted cause)) m pending = o ≡ halted cause
IsExecuted o old (Err Stop.Memory) m pending = Unit {0}
