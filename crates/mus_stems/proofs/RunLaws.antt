-- The runs of a list begin with its first run, and are its maximal runs.
use Rattle.std.proofs.Common.{◌≡◌, ℕ, zero, suc, ◌+◌, Bool, true, false, cond, List, [], ◌∷◌, ◌++◌, take, drop, refl}
use Rattle.std.proofs.Common.{sym, ◌∙◌, ap, append_assoc, length, length-append, arith}
use Rattle.std.specs.List.{flat_map, AllByRecursion}
use Rattle.mus_stems.specs.Runs.{runs, put_before, run_more, JoinedAfter, EndsBefore, AreRuns, AreMaximalRuns}

pub runs_prefix : {A : Type 0} (joined : A → A → Bool) (d : A) (es : List A) →
    runs joined (d ∷ es) ≡ (d ∷ take (run_more joined d es) es) ∷ runs joined (drop (run_more joined d es) es)
runs_prefix joined d [] = refl
runs_prefix joined d (e ∷ es) =
    ap (λ t. put_before joined d t) (runs_prefix joined e es) ∙ step (joined d e) (runs_prefix joined e es)
  where
    step : (b : Bool)
        → runs joined (e ∷ es) ≡ (e ∷ take (run_more joined e es) es) ∷ runs joined (drop (run_more joined e es) es)
        → cond b ((d ∷ e ∷ take (run_more joined e es) es) ∷ runs joined (drop (run_more joined e es) es))
        ((d ∷ []) ∷ (e ∷ take (run_more joined e es) es) ∷ runs joined (drop (run_more joined e es) es))
        ≡ (d ∷ take (cond b (suc (run_more joined e es)) 0) (e ∷ es))
        ∷ runs joined (drop (cond b (suc (run_more joined e es)) 0) (e ∷ es))
    step true h = refl
    step false h = ap (λ t. (d ∷ []) ∷ t) (sym h)

pub all_take : {A : Type 0} (P : A → Type 0) (n : ℕ) (es : List A) → AllByRecursion P es → AllByRecursion P (take n es)
all_take P zero es a = tt {0}
all_take P (suc n) [] a = a
all_take P (suc n) (e ∷ es) a = (a.0, all_take P n es a.1)

pub all_drop : {A : Type 0} (P : A → Type 0) (n : ℕ) (es : List A) → AllByRecursion P es → AllByRecursion P (drop n es)
all_drop P zero es a = a
all_drop P (suc n) [] a = a
all_drop P (suc n) (e ∷ es) a = all_drop P n es a.1

one_past : (n : ℕ) → n + 1 ≡ suc n
one_past n = omega arith

-- the first run, and what follows it
pub run_is : {A : Type 0} (joined : A → A → Bool) (d : A) (more rest run : List A) (n : ℕ) →
    rest ≡ d ∷ more
    → n ≡ run_more joined d more → run ≡ take (n + 1) rest → run ≡ d ∷ take (run_more joined d more) more
run_is joined d more rest run n e1 e2 e3 = e3 ∙ rw (e1, e2, one_past (run_more joined d more)) refl

after_is : {A : Type 0} (joined : A → A → Bool) (d : A) (more rest after : List A) (n : ℕ) →
    rest ≡ d ∷ more
    → n ≡ run_more joined d more → after ≡ drop (n + 1) rest → after ≡ drop (run_more joined d more) more
after_is joined d more rest after n e1 e2 e4 = e4 ∙ rw (e1, e2, one_past (run_more joined d more)) refl

-- one turn of a loop over runs, which adds the result for the first run
pub run_step : {A B : Type 0} (joined : A → A → Bool) (f : List A → List B) (d : A) (more rest run after : List A)
    (n : ℕ) (out new whole : List B)
    → rest ≡ d ∷ more → n ≡ run_more joined d more → run ≡ take (n + 1) rest → after ≡ drop (n + 1) rest
    → new ≡ out ++ f run
    → out ++ flat_map f (runs joined rest) ≡ whole → new ++ flat_map f (runs joined after) ≡ whole
run_step joined f d more rest run after n out new whole e1 e2 e3 e4 e5 inv =
    let k = run_more joined d more in
    let r = run_is joined d more rest run n e1 e2 e3 in
    let a = after_is joined d more rest after n e1 e2 e4 in
    rw (e5, r, a)
    (append_assoc out (f (d ∷ take k more)) (flat_map f (runs joined (drop k more)))
    ∙ sym (ap (λ t. out ++ flat_map f t) (ap (λ t. runs joined t) e1 ∙ runs_prefix joined d more))
    ∙ inv)

-- an element before runs gives runs of the longer list
put_whole : {A : Type 0} (joined : A → A → Bool) (d : A) (rs : List (List A))
    → flat_map (λ r. r) (put_before joined d rs) ≡ d ∷ flat_map (λ r. r) rs
put_whole joined d [] = refl
put_whole joined d ([] ∷ rs) = refl
put_whole joined d ((e ∷ r) ∷ rs) = step (joined d e)
  where
    step : (b : Bool)
        → flat_map (λ r. r) (cond b ((d ∷ e ∷ r) ∷ rs) ((d ∷ []) ∷ (e ∷ r) ∷ rs)) ≡ d ∷ e ∷ r ++ flat_map (λ r. r) rs
    step true = refl
    step false = refl

put_runs : {A : Type 0} (joined : A → A → Bool) (d : A) (rs : List (List A))
    → AreRuns joined rs → AreRuns joined (put_before joined d rs)
put_runs joined d [] are = (tt {0}, tt {0}, tt {0})
put_runs joined d ([] ∷ rs) are = absurd are
put_runs joined d ((e ∷ r) ∷ rs) are = step (joined d e) refl
  where
    step : (b : Bool) → joined d e ≡ b → AreRuns joined (cond b ((d ∷ e ∷ r) ∷ rs) ((d ∷ []) ∷ (e ∷ r) ∷ rs))
    step true h = ((h, are.0), are.1, are.2)
    step false h = (tt {0}, h, are)

all_whole : {A : Type 0} (joined : A → A → Bool) (es : List A) → flat_map (λ r. r) (runs joined es) ≡ es
all_whole joined [] = refl
all_whole joined (d ∷ es) = put_whole joined d (runs joined es) ∙ ap (λ t. d ∷ t) (all_whole joined es)

all_runs : {A : Type 0} (joined : A → A → Bool) (es : List A) → AreRuns joined (runs joined es)
all_runs joined [] = tt {0}
all_runs joined (d ∷ es) = put_runs joined d (runs joined es) (all_runs joined es)

pub runs_are_maximal : {A : Type 0} (joined : A → A → Bool) (es : List A) → AreMaximalRuns joined es (runs joined es)
runs_are_maximal joined es = record { whole = all_whole joined es; runs = all_runs joined es }

-- what holds of each element of a list holds in each of its runs
put_all : {A : Type 0} (P : A → Type 0) (joined : A → A → Bool) (d : A) (rs : List (List A))
    → P d → AllByRecursion (AllByRecursion P) rs → AllByRecursion (AllByRecursion P) (put_before joined d rs)
put_all P joined d [] p all = ((p, tt {0}), tt {0})
put_all P joined d ([] ∷ rs) p all = ((p, tt {0}), all.1)
put_all P joined d ((e ∷ r) ∷ rs) p all = step (joined d e)
  where
    step : (b : Bool) → AllByRecursion (AllByRecursion P) (cond b ((d ∷ e ∷ r) ∷ rs) ((d ∷ []) ∷ (e ∷ r) ∷ rs))
    step true = ((p, all.0), all.1)
    step false = ((p, tt {0}), all)

pub all_in_runs : {A : Type 0} (P : A → Type 0) (joined : A → A → Bool) (es : List A)
    → AllByRecursion P es → AllByRecursion (AllByRecursion P) (runs joined es)
all_in_runs P joined [] all = tt {0}
all_in_runs P joined (d ∷ es) all = put_all P joined d (runs joined es) all.0 (all_in_runs P joined es all.1)

pub all_append : {A : Type 0} (P : A → Type 0) (xs ys : List A)
    → AllByRecursion P xs → AllByRecursion P ys → AllByRecursion P (xs ++ ys)
all_append P [] ys all more = more
all_append P (x ∷ xs) ys all more = (all.0, all_append P xs ys all.1 more)

-- lists as long as each run are together as long as the list
whole_length : {A B : Type 0} (f : List A → List B)
    → ((r : List A) → length (f r) ≡ length r) → (rs : List (List A))
    → length (flat_map f rs) ≡ length (flat_map (λ r. r) rs)
whole_length f same [] = refl
whole_length f same (r ∷ rs) =
    rw (length-append (f r) (flat_map f rs), length-append r (flat_map (λ r. r) rs), same r, whole_length f same rs)
    refl

pub runs_length : {A B : Type 0} (joined : A → A → Bool) (f : List A → List B)
    → ((r : List A) → length (f r) ≡ length r) → (es : List A) → length (flat_map f (runs joined es)) ≡ length es
runs_length joined f same es = whole_length f same (runs joined es) ∙ ap (λ t. length t) (all_whole joined es)

-- a list split into maximal runs is split as `runs` does it
put_apart : {A : Type 0} (joined : A → A → Bool) (d : A) (rs : List (List A))
    → EndsBefore joined d [] rs → put_before joined d rs ≡ (d ∷ []) ∷ rs
put_apart joined d [] ends = refl
put_apart joined d ([] ∷ rs) ends = absurd ends
put_apart joined d ((e ∷ r) ∷ rs) ends = ap (λ b. cond b ((d ∷ e ∷ r) ∷ rs) ((d ∷ []) ∷ (e ∷ r) ∷ rs)) ends

prefix_run : {A : Type 0} (joined : A → A → Bool) (d : A) (es more : List A) (rs : List (List A)) →
    JoinedAfter joined d es
    → EndsBefore joined d es rs → runs joined more ≡ rs → runs joined (d ∷ es ++ more) ≡ (d ∷ es) ∷ rs
prefix_run joined d [] more rs all ends h = ap (λ t. put_before joined d t) h ∙ put_apart joined d rs ends
prefix_run joined d (e ∷ es) more rs all ends h =
    ap (λ t. put_before joined d t) (prefix_run joined e es more rs all.1 ends h)
    ∙ ap (λ b. cond b ((d ∷ e ∷ es) ∷ rs) ((d ∷ []) ∷ (e ∷ es) ∷ rs)) all.0

pub runs_of_whole : {A : Type 0} (joined : A → A → Bool) (rs : List (List A))
    → AreRuns joined rs → runs joined (flat_map (λ r. r) rs) ≡ rs
runs_of_whole joined [] are = refl
runs_of_whole joined ([] ∷ rs) are = absurd are
runs_of_whole joined ((e ∷ es) ∷ rs) are =
    prefix_run joined e es (flat_map (λ r. r) rs) rs are.0 are.1 (runs_of_whole joined rs are.2)

pub maximal_runs : {A : Type 0} (joined : A → A → Bool) (es : List A) (rs : List (List A))
    → AreMaximalRuns joined es rs → rs ≡ runs joined es
maximal_runs joined es rs a = sym (runs_of_whole joined rs a.runs) ∙ ap (λ t. runs joined t) a.whole
