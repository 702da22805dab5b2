-- How the reading of a procedure goes on.
use Rattle.std.proofs.Common.{◌≡◌, ℕ, false, List, [], ◌∷◌, ◌++◌, append_assoc}
use Rattle.ps_steps.specs.declared.halt.Cause.{Cause}
use Rattle.ps_steps.specs.Tokens.{found, Front, Body, goes_on, NoBody, later, passed}
use Rattle.ps_steps.specs.declared.token.SimpleToken.{SimpleToken}

-- what was read so far, and what is left
pub record BodyStage (bytes : List ℕ) (so_far : List SimpleToken) (rest : List ℕ) : Type 0 where
  pub body : (ts : List SimpleToken) (after : List ℕ) → Body rest ts after → Body bytes (so_far ++ ts) after
  pub none : (cause : Cause) → NoBody rest cause → NoBody bytes cause

pub body_more : (bytes rest here after : List ℕ) (so_far : List SimpleToken) (t : SimpleToken)
    → here ≡ passed false rest → Front here (found t after) → BodyStage bytes so_far rest
    → BodyStage bytes (so_far ++ t ∷ []) after
body_more bytes rest here after so_far t e f s =
    let g = rw e at f in
    record {
      body = λ ts last b.
          rw (append_assoc so_far (t ∷ []) ts) (s.body (t ∷ ts) last (goes_on rest after last t ts g b));
      none = λ cause n. s.none cause (later rest after t cause g n);
    }
