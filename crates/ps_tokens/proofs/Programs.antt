-- How the reading of a text goes on.
use Rattle.std.proofs.Common.{◌≡◌, ℕ, false, List, [], ◌∷◌, ◌++◌, append_assoc, append-nil, Option, Some, None}
use Rattle.ps_steps.specs.declared.halt.Cause.{Cause}
use Rattle.ps_steps.specs.Tokens.{TokenAt, NoToken, passed, begins, is_skipped}
use Rattle.ps_steps.specs.declared.token.MachineToken.{MachineToken}
use Rattle.ps_tokens.specs.Programs.{AreTokensOf, all_read, fault_read, token_read}

-- what was read so far, and what is left
pub record ProgramStage (text : List ℕ) (so_far : List MachineToken) (rest : List ℕ) : Type 0 where
  pub more : (ts : List MachineToken) (fault : Option Cause)
      → AreTokensOf rest ts fault → AreTokensOf text (so_far ++ ts) fault
  pub starts : begins is_skipped rest ≡ false

pub program_more : (text rest r after : List ℕ) (so_far : List MachineToken) (t : MachineToken)
    → ProgramStage text so_far rest → TokenAt rest t r → after ≡ passed false r → begins is_skipped after ≡ false
    → ProgramStage text (so_far ++ t ∷ []) after
program_more text rest r after so_far t p h e s = record {
  more = λ ts fault x.
      rw (append_assoc so_far (t ∷ []) ts) (p.more (t ∷ ts) fault (token_read rest r t ts fault h (rw e at x)));
  starts = s;
}

pub program_ends : (text rest : List ℕ) (so_far : List MachineToken)
    → ProgramStage text so_far rest → rest ≡ [] → AreTokensOf text so_far None
program_ends text rest so_far p e = rw append-nil at (p.more [] None (rw e all_read))

pub program_fails : (text rest : List ℕ) (so_far : List MachineToken) (cause : Cause)
    → ProgramStage text so_far rest → (rest ≡ [] → ⊥) → NoToken rest cause → AreTokensOf text so_far (Some cause)
program_fails text rest so_far cause p some n = rw append-nil at (p.more [] (Some cause) (fault_read rest cause some n))
