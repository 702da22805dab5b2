-- How a run goes on, token by token.
use Rattle.std.proofs.Common.{◌≡◌, ℕ, ◌+◌, ◌<◌, ◌≤◌, false, List, [], ◌∷◌, ◌++◌, Option, Some, None, refl, arith}
use Rattle.ps_steps.specs.declared.halt.Cause.{Cause}
use Rattle.ps_steps.specs.declared.token.SimpleToken.{SimpleToken}
use Rattle.ps_steps.specs.declared.token.MachineToken.{MachineToken}
use Rattle.ps_steps.specs.Tokens.{NoToken, passed}
use Rattle.ps_steps.specs.State.{State, first_state}
use Rattle.ps_steps.specs.Operators.{went, halted, executed}
use Rattle.ps_steps.specs.Steps.{RunState, state_before, NextToken, from_pending, from_text, TakesSteps, here, step}
use Rattle.ps_steps.specs.Steps.{Paints, unreadable, used_up, stuck, Halts}
use Rattle.ps_steps.proofs.Joined.{now, joined}
use Rattle.ps_tokens.specs.Programs.{AreTokensOf, all_read, fault_read, token_read}
use Rattle.ps_machine.specs.declared.run.FetchedToken.{FetchedToken}
use Rattle.ps_machine.specs.Nexts.{machine_token, IsTaken, of_calls, of_text, IsFirstToken, IsNext}

-- how far the run has come: its calls, its state, and the tokens of the text that are left
pub record Come (text : List ℕ) (budget count : ℕ) (calls : List SimpleToken) (m : State) (left : List MachineToken)
    (fault : Option Cause) : Type 0 where
  pub rest : List ℕ
  pub run : TakesSteps count (state_before first_state text) (now calls m rest)
  pub within : count ≤ budget
  pub read : AreTokensOf rest left fault

pub come_first : (text : List ℕ) (budget : ℕ) (calls : List SimpleToken) (m : State) (left : List MachineToken)
    (fault : Option Cause)
    → calls ≡ [] → m ≡ first_state → AreTokensOf (passed false text) left fault → Come text budget 0 calls m left fault
come_first text budget calls m left fault e f r = record {
  rest = passed false text;
  run = rw (e, f) (here (state_before first_state text));
  within = omega arith;
  read = r;
}

-- the next token, and the text after it
record Coming (p : RunState) (t : MachineToken) (calls : List SimpleToken) (m : State) (left : List MachineToken)
    (fault : Option Cause) : Type 0 where
  rest : List ℕ
  next : NextToken p t (now calls m rest)
  read : AreTokensOf rest left fault

token_comes : (s : List ℕ) (t : MachineToken) (more : List MachineToken) (fault : Option Cause) (m : State)
    → AreTokensOf s (t ∷ more) fault → Coming (now [] m s) t [] m more fault
token_comes _ _ _ _ m (token_read s rest t more fault a r) =
    record { rest = passed false rest; next = from_text m s rest t a; read = r }

comes : (s : List ℕ) (calls : List SimpleToken) (m : State) (left : List MachineToken) (fault : Option Cause)
    (t : MachineToken) (calls2 : List SimpleToken) (left2 : List MachineToken)
    → AreTokensOf s left fault → IsTaken calls left t calls2 left2 → Coming (now calls m s) t calls2 m left2 fault
comes s calls m left fault _ _ _ r (of_calls t more e) =
    rw e (record { rest = s; next = from_pending t more m s; read = r })
comes s calls m left fault _ _ _ r (of_text t more e f) = rw e (token_comes s t more fault m (rw f at r))

ends : (s : List ℕ) → AreTokensOf s [] None → s ≡ []
ends _ all_read = refl

-- the bytes begin no token
record Faulty (s : List ℕ) (cause : Cause) : Type 0 where
  some : s ≡ [] → ⊥
  none : NoToken s cause

faulty : (s : List ℕ) (cause : Cause) → AreTokensOf s [] (Some cause) → Faulty s cause
faulty _ _ (fault_read s cause some none) = record { some = some; none = none }

module _ (text : List ℕ) (budget count : ℕ) (calls : List SimpleToken) (m : State) (left : List MachineToken)
    (fault : Option Cause) (c : Come text budget count calls m left fault) where
  pub come_end : calls ≡ [] → left ≡ [] → fault ≡ None → Paints text budget m.pages
  come_end e f g = record {
    count = count;
    last = now calls m c.rest;
    within = c.within;
    run = c.run;
    ended = record { calls = e; text = ends c.rest (rw (f, g) at c.read) };
    painted = refl;
  }

  pub come_unread : (cause : Cause) → calls ≡ [] → left ≡ [] → fault ≡ Some cause → Halts text budget count cause
  come_unread cause e f g =
      let x = faulty c.rest cause (rw (f, g) at c.read) in
      record {
        last = now calls m c.rest;
        within = c.within;
        run = c.run;
        halted = unreadable cause (record { calls = e; some = x.some; none = x.none });
      }

  module _ (t : MachineToken) (calls2 : List SimpleToken) (left2 : List MachineToken)
      (taken : IsTaken calls left t calls2 left2) where
    pub come_more : (body new : List SimpleToken) (k : State)
        → count < budget → executed t m ≡ went body k → new ≡ body ++ calls2
        → Come text budget (count + 1) new k left2 fault
    come_more body new k l e g =
        let x = comes c.rest calls m left fault t calls2 left2 c.read taken in
        record {
          rest = x.rest;
          run = rw g (joined count 1 _ (now calls m c.rest) _ c.run
              (step 0 (now calls m c.rest) (now (body ++ calls2) k x.rest) (now (body ++ calls2) k x.rest)
              (record {
                token = t;
                rest = now calls2 m x.rest;
                body = body;
                state = k;
                next = x.next;
                went = e;
                is = refl;
              }) (here (now (body ++ calls2) k x.rest))));
          within = omega arith;
          read = x.read;
        }

    pub come_used : count ≡ budget → Halts text budget count Cause.Budget
    come_used e =
        let x = comes c.rest calls m left fault t calls2 left2 c.read taken in
        record {
          last = now calls m c.rest;
          within = c.within;
          run = c.run;
          halted = used_up e (record { token = t; rest = now calls2 m x.rest; next = x.next });
        }

    pub come_stuck : (cause : Cause) → count < budget → executed t m ≡ halted cause → Halts text budget count cause
    come_stuck cause l e =
        let x = comes c.rest calls m left fault t calls2 left2 c.read taken in
        record {
          last = now calls m c.rest;
          within = c.within;
          run = c.run;
          halted = stuck cause l (record { token = t; rest = now calls2 m x.rest; next = x.next; halts = e });
        }

-- if no call is left, the first token of the text comes next
pub next_of_text : (calls left : List SimpleToken) (text : List MachineToken) (n : FetchedToken)
    → calls ≡ [] → left ≡ [] → IsFirstToken text n → IsNext calls text n left
next_of_text calls left text FetchedToken.End e g h = (e, h)
next_of_text calls left text (FetchedToken.Token t rest) e g h = rw g (of_text (machine_token t) rest.now e h)
