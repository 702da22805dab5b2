-- Runs over the tokens of procedures, joined together.
use Rattle.std.proofs.Common.{◌≡◌, ℕ, suc, ◌+◌, ℤ, true, List, [], ◌∷◌, ◌++◌, length, append_assoc, Some, None, refl}
use Rattle.ps_steps.specs.declared.token.SimpleToken.{SimpleToken}
use Rattle.ps_steps.specs.declared.token.SimpleToken.TheVariants.{Name as name_token, Whole as whole_token}
use Rattle.ps_steps.specs.declared.token.MachineToken.TheVariants.{Simple as simple_token}
use Rattle.ps_steps.specs.declared.value.Operand.{Operand}
use Rattle.ps_steps.specs.declared.value.Operand.TheVariants.{Whole as whole_value}
use Rattle.ps_steps.specs.State.{State}
use Rattle.ps_steps.specs.Operators.{Outcome, all_near, in_range, went, executed, operated, operator_name}
use Rattle.ps_steps.specs.Operators.{operator_named, Operator}
use Rattle.ps_steps.specs.Operators.{def_op}
use Rattle.ps_steps.specs.Steps.{from_pending, Step, TakesSteps, here, step}
use Rattle.ps_steps.proofs.Joined.{joined, now}

simple_step : (t : SimpleToken) (ts body : List SimpleToken) (m k : State) (s : List ℕ)
    → executed (simple_token t) m ≡ went body k → Step (now (t ∷ ts) m s) (now (body ++ ts) k s)
simple_step t ts body m k s e = record {
  token = simple_token t;
  rest = now ts m s;
  body = body;
  state = k;
  next = from_pending t ts m s;
  went = e;
  is = refl;
}

-- whatever follows, these tokens lead from one state to another in n steps
pub record Runs (n : ℕ) (ts : List SimpleToken) (m k : State) : Type 0 where
  pub run : (rest : List SimpleToken) (s : List ℕ) → TakesSteps n (now (ts ++ rest) m s) (now rest k s)

pub no_more : {m : State} → Runs 0 [] m m
no_more {m} = record { run = λ rest s. here (now rest m s) }

-- a token that calls nothing, and further ones
pub then : {n : ℕ} {t : SimpleToken} {ts : List SimpleToken} {m k l : State}
    → executed (simple_token t) m ≡ went [] k → Runs n ts k l → Runs (suc n) (t ∷ ts) m l
then {n} {t} {ts} {m} {k} {l} e r =
    record { run = λ rest s. step n _ (now (ts ++ rest) k s) _ (simple_step t (ts ++ rest) [] m k s e) (r.run rest s) }

-- a name that is defined as a procedure
pub calls : {n : ℕ} {name : List ℕ} {body : List SimpleToken} {m k : State}
    → m.names name ≡ Some body → Runs n body m k → Runs (suc n) (name_token name ∷ []) m k
calls {n} {name} {body} {m} h r = record {
  run = λ rest s.
      step n _ (now (body ++ rest) m s) _ (simple_step (name_token name) rest body m m s (rw h refl)) (r.run rest s);
}

-- runs one after the other
pub both_runs : {n j : ℕ} {ts us : List SimpleToken} {m k l : State}
    → Runs n ts m k → Runs j us k l → Runs (n + j) (ts ++ us) m l
both_runs {n} {j} {ts} {us} {m} {k} {l} r q = record {
  run = λ rest s.
      rw (append_assoc ts us rest) (joined n j _ (now (us ++ rest) k s) _ (r.run (us ++ rest) s) (q.run rest s));
}

-- an operator, by its name
abbrev pub op : Operator → SimpleToken
op o = name_token (operator_name o)

named : (o : Operator) → operator_named (operator_name o) ≡ Some o
named def_op = refl
named _ = refl

-- what it does, if its name isn't defined
pub does : (m : State) {k : State} (o : Operator)
    → m.names (operator_name o) ≡ None → operated o m ≡ went [] k → executed (simple_token (op o)) m ≡ went [] k
does m o h e = rw (h, named o) e

pub acts : {m k : State} (o : Operator)
    → m.names (operator_name o) ≡ None → operated o m ≡ went [] k → Runs 1 (op o ∷ []) m k
acts {m} o h e = then (does m o h e) no_more

pub is_in_range : (zs : List ℤ) (x : Outcome) → all_near zs ≡ true → in_range zs x ≡ x
is_in_range zs x e = rw (e, in_range) refl

abbrev pub wholes : List ℤ → List SimpleToken
wholes [] = []
wholes (z ∷ zs) = whole_token z ∷ wholes zs

abbrev pub pushed : List ℤ → List Operand → List Operand
pushed [] st = st
pushed (z ∷ zs) st = pushed zs (whole_value z ∷ st)

-- numbers are pushed
pub pushes : {m : State} (zs : List ℤ) → Runs (length zs) (wholes zs) m (record m { stack = pushed zs m.stack })
pushes [] = no_more
pushes {m} (z ∷ zs) = then {t = whole_token z} {k = record m { stack = whole_value z ∷ m.stack }} refl (pushes zs)
