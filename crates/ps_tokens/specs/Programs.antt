-- All tokens of a text, one after another, up to its end or to the first bytes that begin no token. Blanks and
-- comments after each token are skipped; the text begins with none.
use Rattle.std.specs.Prelude.{◌≡◌, ℕ, false, List, [], ◌∷◌, Option, Some, None}
use Rattle.ps_steps.specs.declared.halt.Cause.{Cause}
use Rattle.ps_steps.specs.Tokens.{TokenAt, NoToken, passed}
use Rattle.ps_steps.specs.declared.token.MachineToken.{MachineToken}

-- the tokens of a text, and why there is no further one; none if the text ends there
pub data AreTokensOf : List ℕ → List MachineToken → Option Cause → Type 0 where
  all_read : AreTokensOf [] [] None
  fault_read : (s : List ℕ) (cause : Cause) → (s ≡ [] → ⊥) → NoToken s cause → AreTokensOf s [] (Some cause)
  token_read : (s rest : List ℕ) (t : MachineToken) (ts : List MachineToken) (fault : Option Cause)
      → TokenAt s t rest → AreTokensOf (passed false rest) ts fault → AreTokensOf s (t ∷ ts) fault
