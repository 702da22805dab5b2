-- A run has one result, since a text begins with at most one token.
use Rattle.std.proofs.Common.{◌≡◌, ◌⊎◌, inl, inr, ℕ, suc, ◌+◌, ◌<◌, ◌≤◌, List, [], ◌∷◌, refl, sym, subst, ◌∙◌, ap}
use Rattle.std.proofs.Common.{arith}
use Rattle.std.proofs.Math.Nat.{zero-add, suc-add}
use Rattle.ps_steps.specs.Steps.{RunState, state_before, NextToken, from_pending, from_text, state_after, Step}
use Rattle.ps_steps.specs.Steps.{TakesSteps, here, step, Ended, Unreadable, Stuck, Paints, Cannot, unreadable, used_up}
use Rattle.ps_steps.specs.Steps.{stuck, Halts}
use Rattle.ps_steps.specs.declared.halt.Cause.{Cause}
use Rattle.ps_steps.specs.declared.paint.PagePaint.{PagePaint}
use Rattle.ps_steps.specs.declared.token.SimpleToken.{SimpleToken}
use Rattle.ps_steps.specs.declared.token.MachineToken.{MachineToken}
use Rattle.ps_steps.specs.State.{State, first_state}
use Rattle.ps_steps.specs.Operators.{Outcome, went, halted, executed}
use Rattle.{ps_tokens.specs.OneToken.{BeginsInOneWay}, ps_machine.specs.OneAnswer.{HasOneAnswer}}

-- the token and the state after it
record SameNext (t u : MachineToken) (r q : RunState) : Type 0 where
  token : t ≡ u
  place : r ≡ q

-- this many steps are left to a state
record Left (n k : ℕ) (r q : RunState) : Type 0 where
  more : ℕ
  sum : n ≡ k + more
  steps : TakesSteps more r q

module _ (alone : BeginsInOneWay) where
  one_next : (p r q : RunState) (t u : MachineToken) → NextToken p t r → NextToken p u q → SameNext t u r q
  one_next _ _ _ _ _ (from_pending t ts m s) (from_pending _ _ _ _) = record { token = refl; place = refl }
  one_next _ _ _ _ _ (from_text m s r t x) (from_text _ _ q u y) =
      let z = alone.token s r q t u x y in record { token = z.0; place = ap (state_before m) z.1 }

  ended_stops : (p r : RunState) (t : MachineToken) → Ended p → NextToken p t r → ⊥
  ended_stops _ _ _ e (from_pending t ts m s) = absurd (nothing e.calls)
    where
      nothing : t ∷ ts ≡ [] → ⊥
      nothing h = cc
  ended_stops _ _ _ e (from_text m s r t x) = alone.some s r t x e.text

  unreadable_stops : (p r : RunState) (t : MachineToken) (cause : Cause) → Unreadable p cause → NextToken p t r → ⊥
  unreadable_stops _ _ _ cause e (from_pending t ts m s) = absurd (nothing e.calls)
    where
      nothing : t ∷ ts ≡ [] → ⊥
      nothing h = cc
  unreadable_stops _ _ _ cause e (from_text m s r t x) = alone.either s r t cause x e.none

  one_outcome : (o : Outcome) (b c : List SimpleToken) (m k : State) → o ≡ went b m → o ≡ went c k → (b ≡ c) × (m ≡ k)
  one_outcome o b c m k e f = (cc, cc)

  one_step : (p q r : RunState) → Step p q → Step p r → q ≡ r
  one_step p q r a b =
      let n = one_next p a.rest b.rest a.token b.token a.next b.next in
      let o = one_outcome (executed b.token p.state) a.body b.body a.state b.state
      (subst (λ t. executed t p.state ≡ went a.body a.state) n.token a.went) b.went in
      a.is
      ∙ (ap (λ x. state_after x a.state a.rest) o.0
      ∙ (ap (λ x. state_after b.body x a.rest) o.1 ∙ (ap (state_after b.body b.state) n.place ∙ sym b.is)))

  follows : (n k : ℕ) (p q r : RunState) → TakesSteps n p q → Ended q → TakesSteps k p r → Left n k r q
  follows n _ _ q _ s e (here p) = record { more = n; sum = sym (zero-add n); steps = s }
  follows _ _ _ _ _ (here p) e (step k _ o r t ts) = absurd (ended_stops p t.rest t.token e t.next)
  follows _ _ _ _ _ (step n p o q s ss) e (step k _ u r t ts) =
      let l = follows n k o q r ss e (subst (λ x. TakesSteps k x r) (one_step p u o t s) ts) in
      record { more = l.more; sum = ap suc l.sum ∙ sym (suc-add k l.more); steps = l.steps }

  still : (j : ℕ) (p q : RunState) → Ended p → TakesSteps j p q → p ≡ q
  still _ _ _ e (here p) = refl
  still _ _ _ e (step j p o q s ss) = absurd (ended_stops p s.rest s.token e s.next)

  -- pages are painted in one way
  one_painting : (text : List ℕ) (budget : ℕ) (ps qs : List PagePaint)
      → Paints text budget ps → Paints text budget qs → ps ≡ qs
  one_painting text budget ps qs a b =
      let l = follows a.count b.count (state_before first_state text) a.last b.last a.run a.ended b.run in
      let e = still l.more b.last a.last b.ended l.steps in
      sym a.painted ∙ (ap (λ (p : RunState). p.state.pages) (sym e) ∙ b.painted)

  cannot_go : (budget count n j : ℕ) (p q : RunState) (cause : Cause)
      → Cannot budget count p cause → TakesSteps j p q → Ended q → n ≡ count + j → n ≤ budget → ⊥
  cannot_go budget count n _ p _ _ (unreadable cause u) (here _) e x w = u.some e.text
  cannot_go budget count n _ p _ _ (used_up b r) (here _) e x w = ended_stops p r.rest r.token e r.next
  cannot_go budget count n _ p _ _ (stuck cause l s) (here _) e x w = ended_stops p s.rest s.token e s.next
  cannot_go budget count n _ _ _ _ (unreadable cause u) (step j p o q t ts) e x w =
      unreadable_stops p t.rest t.token cause u t.next
  cannot_go budget count n _ _ _ _ (used_up b r) (step j p o q t ts) e x w = absurd (omega arith)
  cannot_go budget count n _ _ _ _ (stuck cause l s) (step j p o q t ts) e x w =
      let m = one_next p t.rest s.rest t.token s.token t.next s.next in
      absurd (differ (executed s.token p.state) t.body t.state cause
      (subst (λ z. executed z p.state ≡ went t.body t.state) m.token t.went) s.halts)
    where
      differ : (o : Outcome) (b : List SimpleToken) (m : State) (cause : Cause) → o ≡ went b m → o ≡ halted cause → ⊥
      differ o b m cause e f = cc

  -- and if they are, the run doesn't halt
  no_halt : (text : List ℕ) (budget token : ℕ) (cause : Cause) (ps : List PagePaint)
      → Paints text budget ps → Halts text budget token cause → ⊥
  no_halt text budget token cause ps a h =
      let l = follows a.count token (state_before first_state text) a.last h.last a.run a.ended h.run in
      cannot_go budget token a.count l.more h.last a.last cause h.halted l.steps a.ended l.sum a.within

  -- of two runs from one state, one continues from where the other is
  meets : (n k : ℕ) (p q r : RunState) → TakesSteps n p q → TakesSteps k p r → Left n k r q ⊎ Left k n q r
  meets n _ _ q _ s (here p) = inl (record { more = n; sum = sym (zero-add n); steps = s })
  meets _ k _ _ r (here p) t = inr (record { more = k; sum = sym (zero-add k); steps = t })
  meets _ _ _ _ _ (step n p o q s ss) (step k _ u r t ts) =
      longer n k q r (meets n k o q r ss (subst (λ x. TakesSteps k x r) (one_step p u o t s) ts))
    where
      longer : (n k : ℕ) (q r : RunState)
          → Left n k r q ⊎ Left k n q r → Left (suc n) (suc k) r q ⊎ Left (suc k) (suc n) q r
      longer n k q r (inl l) =
          inl (record { more = l.more; sum = ap suc l.sum ∙ sym (suc-add k l.more); steps = l.steps })
      longer n k q r (inr l) =
          inr (record { more = l.more; sum = ap suc l.sum ∙ sym (suc-add n l.more); steps = l.steps })

  differ : (o : Outcome) (b : List SimpleToken) (m : State) (cause : Cause) → o ≡ went b m → o ≡ halted cause → ⊥
  differ o b m cause e f = cc

  same_halt : (o : Outcome) (c d : Cause) → o ≡ halted c → o ≡ halted d → c ≡ d
  same_halt o c d e f = cc

  one_unread : (p : RunState) (c d : Cause) → Unreadable p c → Unreadable p d → c ≡ d
  one_unread p c d a b = alone.cause p.text c d a.none b.none

  one_stuck : (p : RunState) (c d : Cause) → Stuck p c → Stuck p d → c ≡ d
  one_stuck p c d a b =
      let n = one_next p a.rest b.rest a.token b.token a.next b.next in
      same_halt (executed b.token p.state) c d (subst (λ t. executed t p.state ≡ halted c) n.token a.halts) b.halts

  -- a run that can't go on has one cause
  one_cause : (budget count : ℕ) (p : RunState) (c d : Cause)
      → Cannot budget count p c → Cannot budget count p d → c ≡ d
  one_cause budget count p _ _ (unreadable c a) (unreadable d b) = one_unread p c d a b
  one_cause budget count p _ _ (unreadable c a) (used_up e r) = absurd (unreadable_stops p r.rest r.token c a r.next)
  one_cause budget count p _ _ (unreadable c a) (stuck d l b) = absurd (unreadable_stops p b.rest b.token c a b.next)
  one_cause budget count p _ _ (used_up e r) (unreadable d b) = absurd (unreadable_stops p r.rest r.token d b r.next)
  one_cause budget count p _ _ (used_up e r) (used_up f q) = refl
  one_cause budget count p _ _ (used_up e r) (stuck d l b) = absurd (omega arith)
  one_cause budget count p _ _ (stuck c l a) (unreadable d b) = absurd (unreadable_stops p a.rest a.token d b a.next)
  one_cause budget count p _ _ (stuck c l a) (used_up f q) = absurd (omega arith)
  one_cause budget count p _ _ (stuck c l a) (stuck d m b) = one_stuck p c d a b

  -- and takes no further step
  stands : (budget count : ℕ) (p q : RunState) (cause : Cause)
      → Cannot budget count p cause → count < budget → Step p q → ⊥
  stands budget count p q _ (unreadable cause u) few t = unreadable_stops p t.rest t.token cause u t.next
  stands budget count p q _ (used_up b r) few t = absurd (omega arith)
  stands budget count p q _ (stuck cause l s) few t =
      let m = one_next p t.rest s.rest t.token s.token t.next s.next in
      differ (executed s.token p.state) t.body t.state cause
      (subst (λ z. executed z p.state ≡ went t.body t.state) m.token t.went) s.halts

  one_end : (budget n k : ℕ) (q r : RunState) (c d : Cause)
      → (l : Left n k r q) → n ≤ budget → Cannot budget n q c → Cannot budget k r d → (n ≡ k) × (c ≡ d)
  one_end budget n k q r c d l within a b = by_steps l.more l.sum r q l.steps a b
    where
      by_steps : (j : ℕ) → n ≡ k + j → (r q : RunState) → TakesSteps j r q → Cannot budget n q c → Cannot budget k r d
          → (n ≡ k) × (c ≡ d)
      by_steps _ e _ _ (here p) a b =
          let same : n ≡ k = omega (arith, e) in
          (same, one_cause budget k p c d (subst (λ i. Cannot budget i p c) same a) b)
      by_steps _ e _ _ (step j p o q t ts) a b = absurd (stands budget k p o d b (omega (arith, e, within)) t)

  -- a run halts at one token, and for one cause
  one_halt : (text : List ℕ) (budget n k : ℕ) (c d : Cause)
      → Halts text budget n c → Halts text budget k d → (n ≡ k) × (c ≡ d)
  one_halt text budget n k c d a b = by_order (meets n k (state_before first_state text) a.last b.last a.run b.run)
    where
      by_order : Left n k b.last a.last ⊎ Left k n a.last b.last → (n ≡ k) × (c ≡ d)
      by_order (inl l) = one_end budget n k a.last b.last c d l a.within a.halted b.halted
      by_order (inr l) =
          (let z = one_end budget k n b.last a.last d c l b.within b.halted a.halted in (sym z.0, sym z.1))

  pub one_answer : HasOneAnswer
  one_answer = record {
    painted = one_painting;
    halted = one_halt;
    either = λ text budget ps token cause a h. no_halt text budget token cause ps a h;
  }
