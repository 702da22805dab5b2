-- The bytes at the start that pass a test.
use Rattle.std.proofs.Common.{◌≡◌, ℕ, zero, suc, ◌+◌, ◌≤◌, ◌<◌, Bool, true, false, cond, List, [], ◌∷◌, ◌++◌, length}
use Rattle.std.proofs.Common.{take, drop, refl, ap, zero-add}
use Rattle.std.proofs.Common.{arith, inl, inr, ◌⊎◌, take_all, length-append}
use Rattle.std.proofs.lemmas.Bool.{both_ways, cond_both, and_parts}
use Rattle.abc_notes.specs.Runs.{span, span_all, begins}
use Rattle.std.specs.List.{prefix_len, list_all}

pub span-cons : (p : ℕ → Bool) (n x : ℕ) (s : List ℕ) →
    span p (suc n) (x ∷ s) ≡ cond {A = List ℕ × List ℕ} (p x) (x ∷ (span p n s).0, (span p n s).1) ([], x ∷ s)
unfolding span
span-cons p n x s =
    let k = prefix_len p (take n s) in let more : 1 + k ≡ suc k = omega arith in
    cond_both (p x) (1 + k) 0
    (λ m. (take m (x ∷ s), drop m (x ∷ s)) ≡ cond {A = List ℕ × List ℕ} (p x) (x ∷ take k s, drop k s) ([], x ∷ s))
    (λ e. rw (e, more) refl)
    (λ e. rw e refl)

pub span-zero : (p : ℕ → Bool) (s : List ℕ) → span p 0 s ≡ ([], s)
unfolding span
span-zero p s = refl

span-nil : (p : ℕ → Bool) (n : ℕ) → span p n [] ≡ ([], [])
unfolding span
span-nil p zero = refl
span-nil p (suc n) = refl

-- what holds where no more bytes pass, and carries over from a rest to a passing byte before it, holds of each text
span_by : (p : ℕ → Bool) (P : ℕ → List ℕ → List ℕ × List ℕ → Type 0)
    → ((n : ℕ) (s : List ℕ) → (length s ≤ n → begins p s ≡ false) → P n s ([], s))
    → ((n x : ℕ) (s : List ℕ)
    → p x ≡ true → P n s (span p n s) → P (suc n) (x ∷ s) (x ∷ (span p n s).0, (span p n s).1))
    → (n : ℕ) (s : List ℕ) → P n s (span p n s)
span_by p P stops goes zero [] = rw span-zero (stops zero [] (λ h. refl))
span_by p P stops goes zero (x ∷ s) = rw span-zero (stops zero (x ∷ s) (λ h. absurd (omega arith)))
span_by p P stops goes (suc n) [] = rw span-nil (stops (suc n) [] (λ h. refl))
span_by p P stops goes (suc n) (x ∷ s) =
    rw span-cons
    (cond_both (p x) _ _ (P (suc n) (x ∷ s)) (λ e. goes n x s e (span_by p P stops goes n s))
    (λ e. stops (suc n) (x ∷ s) (λ h. e)))

pub length-span : (p : ℕ → Bool) (n : ℕ) (s : List ℕ) → length (span p n s).1 ≤ length s
length-span p = span_by p (λ n s z. length z.1 ≤ length s) (λ n s h. omega arith) (λ n x s e next. omega arith)

pub span-takes : (p : ℕ → Bool) (n : ℕ) (s : List ℕ) → s ≡ (span p n s).0 ++ (span p n s).1
span-takes p = span_by p (λ n s z. s ≡ z.0 ++ z.1) (λ n s h. refl) (λ n x s e next. ap (λ t. x ∷ t) next)

pub span-pass : (p : ℕ → Bool) (n : ℕ) (s : List ℕ) → list_all p (span p n s).0 ≡ true
span-pass p = span_by p (λ n s z. list_all p z.0 ≡ true) (λ n s h. refl) (λ n x s e next. rw e next)

pub span-length : (p : ℕ → Bool) (n : ℕ) (s : List ℕ) → length (span p n s).0 ≤ n
span-length p = span_by p (λ n s z. length z.0 ≤ n) (λ n s h. omega arith) (λ n x s e next. omega arith)

pub span-stops : (p : ℕ → Bool) (n : ℕ) (s : List ℕ) → begins p s ≡ false → span p n s ≡ ([], s)
span-stops p =
    span_by p (λ n s z. begins p s ≡ false → z ≡ ([], s)) (λ n s h none. refl)
    (λ n x s e next none. absurd (both_ways (p x) none e))

-- either the rest is shorter and the text began with a passing byte, or all is left
pub span-less : (p : ℕ → Bool) (n : ℕ) (s : List ℕ)
    → ((length (span p n s).1 < length s) × (begins p s ≡ true)) ⊎ (span p n s ≡ ([], s))
span-less p =
    span_by p (λ n s z. ((length z.1 < length s) × (begins p s ≡ true)) ⊎ (z ≡ ([], s))) (λ n s h. inr refl)
    (λ n x s e next. inl (omega (arith, length-span p n s), e))

pub span-append : (p : ℕ → Bool) (n : ℕ) (ds x : List ℕ) → list_all p ds ≡ true →
    span p (length ds + n) (ds ++ x) ≡ (ds ++ (span p n x).0, (span p n x).1)
span-append p n [] x h = rw zero-add refl
span-append p n (d ∷ ds) x h =
    let both = and_parts (p d) (list_all p ds) h in
    let more : suc (length ds) + n ≡ suc (length ds + n) = omega arith in
    rw (more, span-cons, both.0) (ap (λ z. (d ∷ z.0, z.1)) (span-append p n ds x both.1))

-- with no limit
pub span_all-is : (p : ℕ → Bool) (n : ℕ) (s : List ℕ) → length s ≤ n → span_all p s ≡ span p n s
unfolding span span_all
span_all-is p n s h = rw (take_all n s h) refl

pub span_all-takes : (p : ℕ → Bool) (s : List ℕ) → s ≡ (span_all p s).0 ++ (span_all p s).1
span_all-takes p s = rw (span_all-is p (length s) s (omega arith)) (span-takes p (length s) s)

pub span_all-pass : (p : ℕ → Bool) (s : List ℕ) → list_all p (span_all p s).0 ≡ true
span_all-pass p s = rw (span_all-is p (length s) s (omega arith)) (span-pass p (length s) s)

pub span_all-less : (p : ℕ → Bool) (s : List ℕ)
    → ((length (span_all p s).1 < length s) × (begins p s ≡ true)) ⊎ (span_all p s ≡ ([], s))
span_all-less p s = rw (span_all-is p (length s) s (omega arith)) (span-less p (length s) s)

pub span_all-append : (p : ℕ → Bool) (ds x : List ℕ)
    → list_all p ds ≡ true → span_all p (ds ++ x) ≡ (ds ++ (span_all p x).0, (span_all p x).1)
span_all-append p ds x h =
    rw (
      span_all-is p (length ds + length x) (ds ++ x) (omega (arith, length-append ds x)),
      span_all-is p (length x) x (omega arith),
    )
    (span-append p (length x) ds x h)

-- what follows does not pass
span-after : (p : ℕ → Bool) (n : ℕ) (s : List ℕ) → length s ≤ n → begins p (span p n s).1 ≡ false
span-after p =
    span_by p (λ n s z. length s ≤ n → begins p z.1 ≡ false) (λ n s none. none) (λ n x s e next h. next (omega arith))

pub span_all-after : (p : ℕ → Bool) (s : List ℕ) → begins p (span_all p s).1 ≡ false
span_all-after p s = rw (span_all-is p (length s) s (omega arith)) (span-after p (length s) s (omega arith))

pub span_all-stops : (p : ℕ → Bool) (s : List ℕ) → begins p s ≡ false → span_all p s ≡ ([], s)
span_all-stops p s h = rw (span_all-is p (length s) s (omega arith)) (span-stops p (length s) s h)
