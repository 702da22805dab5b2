-- Steps followed by further steps.
use Rattle.std.proofs.{Common.ℕ, Common.◌+◌, Common.List, Math.Nat.zero-add, Math.Nat.suc-add}
use Rattle.ps_steps.specs.{Tokens.SimpleToken, State.State, Steps.RunState, Steps.TakesSteps, Steps.here, Steps.step}

abbrev pub now : List SimpleToken → State → List ℕ → RunState
now ts m s = record { pending = ts; state = m; text = s }

pub joined : (a b : ℕ) (p q r : RunState) → TakesSteps a p q → TakesSteps b q r → TakesSteps (a + b) p r
joined _ b _ _ r (here p) t = rw (zero-add b) t
joined _ b _ _ r (step n p o q s ss) t = rw (suc-add n b) (step (n + b) p o r s (joined n b o q r ss t))
