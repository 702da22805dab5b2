-- A text begins with at most one token, and if it begins with none, there is one cause.
use Rattle.std.specs.Prelude.{◌≡◌, ℕ, List, []}
use Rattle.ps_steps.specs.declared.halt.Cause.{Cause}
use Rattle.ps_steps.specs.declared.token.MachineToken.{MachineToken}
use Rattle.ps_steps.specs.Tokens.{TokenAt, NoToken}

pub record BeginsInOneWay : Type 0 where
  pub token : (s r q : List ℕ) (t u : MachineToken) → TokenAt s t r → TokenAt s u q → (t ≡ u) × (r ≡ q)
  pub cause : (s : List ℕ) (c d : Cause) → NoToken s c → NoToken s d → c ≡ d
  pub either : (s r : List ℕ) (t : MachineToken) (cause : Cause) → TokenAt s t r → NoToken s cause → ⊥
  pub some : (s r : List ℕ) (t : MachineToken) → TokenAt s t r → s ≡ [] → ⊥
