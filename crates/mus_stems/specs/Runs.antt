-- Runs: a list is split between two neighbours exactly where nothing joins them.
use Rattle.std.specs.{Prelude.{◌≡◌, ℕ, suc, Bool, true, false, if◌then◌else◌, ⊤, List, [], ◌∷◌}, List.flat_map}

-- an element before runs: added to the first run if it is joined to that run's first element, else a run of its own
abbrev pub put_before : {A : Type 0} → (A → A → Bool) → A → List (List A) → List (List A)
put_before joined d [] = (d ∷ []) ∷ []
put_before joined d ([] ∷ rs) = (d ∷ []) ∷ rs
put_before joined d ((e ∷ r) ∷ rs) = if joined d e then (d ∷ e ∷ r) ∷ rs else (d ∷ []) ∷ (e ∷ r) ∷ rs

abbrev pub runs : {A : Type 0} → (A → A → Bool) → List A → List (List A)
runs joined [] = []
runs joined (d ∷ es) = put_before joined d (runs joined es)

-- how many elements follow the first in its run
abbrev pub run_more : {A : Type 0} → (A → A → Bool) → A → List A → ℕ
run_more joined d [] = 0
run_more joined d (e ∷ es) = if joined d e then suc (run_more joined e es) else 0

-- each of the elements is joined to the one before it, the first to d
abbrev pub JoinedAfter : {A : Type 0} → (A → A → Bool) → A → List A → Type 0
JoinedAfter joined d [] = ⊤
JoinedAfter joined d (e ∷ es) = (joined d e ≡ true) × JoinedAfter joined e es

-- a run that begins with d cannot continue into the run after it
abbrev pub EndsBefore : {A : Type 0} → (A → A → Bool) → A → List A → List (List A) → Type 0
EndsBefore joined d (e ∷ es) rs = EndsBefore joined e es rs
EndsBefore joined d [] [] = ⊤
EndsBefore joined d [] ([] ∷ rs) = ⊥
EndsBefore joined d [] ((e ∷ r) ∷ rs) = joined d e ≡ false

-- runs that are not empty, are joined all along, and cannot continue into one another
abbrev pub AreRuns : {A : Type 0} → (A → A → Bool) → List (List A) → Type 0
AreRuns joined [] = ⊤
AreRuns joined ([] ∷ rs) = ⊥
AreRuns joined ((e ∷ es) ∷ rs) = JoinedAfter joined e es × EndsBefore joined e es rs × AreRuns joined rs

-- the maximal runs of a list: together they are the whole list in its order
pub record AreMaximalRuns {A : Type 0} (joined : A → A → Bool) (es : List A) (rs : List (List A)) : Type 0 where
  pub whole : flat_map (λ r. r) rs ≡ es
  pub runs : AreRuns joined rs
