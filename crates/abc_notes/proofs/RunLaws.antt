-- What is taken off the start of a list was there.
use Rattle.std.proofs.Common.{◌≡◌, ℕ, zero, suc, ◌+◌, ◌≤◌, ◌<◌, Bool, true, false, eqb, List, [], ◌∷◌, length, drop}
use Rattle.std.proofs.Common.{refl, ap, arith, zero-add, ◌∙◌}
use Rattle.std.proofs.{Common.{inl, inr, ◌⊎◌, length-drop}, lemmas.Bool.{cond_both, eqb-true, eq-eqb}}
use Rattle.abc_notes.specs.Runs.{copies, maybe, run_off, skip, begins}
use Rattle.std.specs.List.{prefix_len}

-- the list does not begin with the byte
abbrev pub Lacks : ℕ → List ℕ → Type 0
Lacks b [] = Unit {0}
Lacks b (x ∷ s) = eqb x b ≡ false

same : (b : ℕ) → eqb b b ≡ true
same b = eq-eqb b b refl

pub run_off-takes : (b : ℕ) (s : List ℕ) → s ≡ copies (run_off b s).0 b (run_off b s).1
unfolding run_off
run_off-takes b [] = refl
run_off-takes b (x ∷ s) =
    cond_both (eqb x b) (1 + prefix_len (λ y. eqb y b) s) 0 (λ n. x ∷ s ≡ copies n b (drop n (x ∷ s)))
    (λ e. let k = prefix_len (λ y. eqb y b) s in
    let more : 1 + k ≡ suc k = omega arith in let is : x ≡ b = eqb-true x b e in
    rw more (ap (λ z. z ∷ s) is ∙ ap (λ z. b ∷ z) (run_off-takes b s)))
    (λ e. refl)

-- either the byte comes first or not
pub skip_cases : (b : ℕ) (s : List ℕ) (P : Bool × List ℕ → Type 0) → ((t : List ℕ) → s ≡ b ∷ t → P (true, t)) →
    (begins (λ x. eqb x b) s ≡ false → P (false, s)) → P (skip b s)
unfolding skip
skip_cases b [] P there none = none refl
skip_cases b (x ∷ s) P there none =
    cond_both _ (true, s) (false, x ∷ s) P (λ e. there s (ap (λ z. z ∷ s) (eqb-true x b e))) none

pub skip-takes : (b : ℕ) (s : List ℕ) → s ≡ maybe (skip b s).0 b (skip b s).1
skip-takes b s = skip_cases b s (λ p. s ≡ maybe p.0 b p.1) (λ t e. e) (λ h. refl)

pub run_off-copies : (b n : ℕ) (s : List ℕ) → run_off b (copies n b s) ≡ (n + (run_off b s).0, (run_off b s).1)
unfolding run_off
run_off-copies b zero s = rw zero-add refl
run_off-copies b (suc n) s =
    let k = prefix_len (λ y. eqb y b) (copies n b s) in let m = prefix_len (λ y. eqb y b) s in
    let more : 1 + k ≡ suc k = omega arith in let sum : suc n + m ≡ suc (n + m) = omega arith in
    rw (same b, more, sum) (ap (λ p. (suc p.0, p.1)) (run_off-copies b n s))

pub run_off-lacks : (b : ℕ) (s : List ℕ) → Lacks b s → run_off b s ≡ (0, s)
unfolding run_off
run_off-lacks b [] h = refl
run_off-lacks b (x ∷ s) h = rw h refl

pub skip-lacks : (b : ℕ) (s : List ℕ) → Lacks b s → skip b s ≡ (false, s)
unfolding skip
skip-lacks b [] h = refl
skip-lacks b (x ∷ s) h = rw h refl

pub skip-maybe : (b : ℕ) (d : Bool) (s : List ℕ) → Lacks b s → skip b (maybe d b s) ≡ (d, s)
unfolding skip
skip-maybe b true s h = rw (same b) refl
skip-maybe b false s h = skip-lacks b s h

pub length-run_off : (b : ℕ) (s : List ℕ) → length (run_off b s).1 ≤ length s
unfolding run_off
length-run_off b s = omega (arith, length-drop (prefix_len (λ x. eqb x b) s) s)

pub length-skip : (b : ℕ) (s : List ℕ) → length (skip b s).1 ≤ length s
length-skip b s = skip_cases b s (λ p. length p.1 ≤ length s) (λ t e. omega (arith, ap length e)) (λ h. omega arith)

pub skip-yes : (b : ℕ) (s : List ℕ) → skip b (b ∷ s) ≡ (true, s)
unfolding skip
skip-yes b s = rw (same b) refl

-- either the rest is shorter and the text began with such a byte, or all is left
pub run_off-less : (b : ℕ) (s : List ℕ)
    → ((length (run_off b s).1 < length s) × (begins (λ x. eqb x b) s ≡ true)) ⊎ (run_off b s ≡ (0, s))
unfolding run_off
run_off-less b [] = inr refl
run_off-less b (x ∷ s) =
    let k = prefix_len (λ y. eqb y b) s in
    cond_both (eqb x b) (1 + k) 0
    (λ m.
    ((length (drop m (x ∷ s)) < suc (length s)) × (eqb x b ≡ true))
    ⊎ (◌≡◌ {A = ℕ × List ℕ} (m, drop m (x ∷ s)) (0, x ∷ s)))
    (λ e. inl (omega (arith, length-drop (1 + k) (x ∷ s)), e))
    (λ e. inr refl)

pub skip-less : (b : ℕ) (s : List ℕ)
    → ((length (skip b s).1 < length s) × (begins (λ x. eqb x b) s ≡ true)) ⊎ (skip b s ≡ (false, s))
skip-less b s =
    skip_cases b s (λ p. ((length p.1 < length s) × (begins (λ x. eqb x b) s ≡ true)) ⊎ (p ≡ (false, s)))
    (λ t e. inl (omega (arith, ap length e), rw e (same b))) (λ h. inr refl)

-- one test implies another for the first byte
pub begins_wider : (p q : ℕ → Bool) (s : List ℕ)
    → ((b : ℕ) → p b ≡ true → q b ≡ true) → begins p s ≡ true → begins q s ≡ true
begins_wider p q [] f h = absurd cc
begins_wider p q (b ∷ s) f h = f b h
