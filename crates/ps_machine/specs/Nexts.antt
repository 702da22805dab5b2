-- What the code says about the next token: the first of the calls, or else the first of the text.
use Rattle.std.specs.Prelude.{◌≡◌, List, [], ◌∷◌}
use Rattle.ps_steps.specs.declared.token.SimpleToken.{SimpleToken}
use Rattle.ps_steps.specs.declared.token.MachineToken.{MachineToken}
use Rattle.ps_steps.specs.declared.token.MachineToken.TheVariants.{Simple as simple_token, Procedure as procedure_token}
use Rattle.ps_machine.specs.{declared.execute.Ready.Ready, declared.run.FetchedToken.FetchedToken}

abbrev pub machine_token : Ready → MachineToken
machine_token (Ready.Simple t) = simple_token t.now
machine_token (Ready.Procedure body) = procedure_token body.now

-- a token, what is left of the calls, and what is left of the text
pub data IsTaken (calls : List SimpleToken) (text : List MachineToken) : MachineToken
    → List SimpleToken → List MachineToken → Type 0 where
  of_calls : (t : SimpleToken) (more : List SimpleToken)
      → calls ≡ t ∷ more → IsTaken calls text (simple_token t) more text
  of_text : (t : MachineToken) (more : List MachineToken) → calls ≡ [] → text ≡ t ∷ more → IsTaken calls text t [] more

-- the first token of the text, or none
abbrev pub IsFirstToken : List MachineToken → FetchedToken → Type 0
IsFirstToken text FetchedToken.End = text ≡ []
IsFirstToken text (FetchedToken.Token t rest) = text ≡ machine_token t ∷ rest.now

abbrev pub IsNext : List SimpleToken → List MachineToken → FetchedToken → List SimpleToken → Type 0
IsNext calls text FetchedToken.End left = (calls ≡ []) × (text ≡ [])
IsNext calls text (FetchedToken.Token t rest) left = IsTaken calls text (machine_token t) left rest.now
