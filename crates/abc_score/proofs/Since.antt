-- What is pending since an event: the steps after the last one.
use Rattle.std.specs.Prelude.{flat_map}
use Rattle.std.specs.List.{AllByRecursion, before_first}
use Rattle.std.proofs.lemmas.List.{reverse-append}
use Rattle.std.proofs.lemmas.List.Sums.{take_while-cons}
use Rattle.std.proofs.Common.{◌≡◌, ◌∙◌, refl, ap, List, [], ◌∷◌, ◌++◌, reverse, not, Bool, true, false, cond}
use Rattle.abc_steps.specs.declared.step.PlacedStep.{PlacedStep}
use Rattle.abc_steps.specs.Kinds.{is_event}
use Rattle.abc_steps.specs.Looks.{Steps, since_event}
use Rattle.abc_score.proofs.Basics.{all_both, either}

pub since_none : since_event [] ≡ []
unfolding since_event
since_none = refl

pub since_on : (s : PlacedStep) (before : Steps)
    → since_event (s ∷ before) ≡ cond (is_event s.step) [] (since_event before ++ s ∷ [])
unfolding since_event
since_on s before =
    ap reverse (take_while-cons (λ (s : PlacedStep). not (is_event s.step)) s before)
    ∙ by_test (is_event s.step) (before_first (λ s. is_event s.step) before) where
      by_test : (b : Bool) (near : Steps) → reverse (cond (not b) (s ∷ near) []) ≡ cond b [] (reverse near ++ s ∷ [])
      by_test true near = refl
      by_test false near = reverse-append (s ∷ []) near

pub none_wait : (P : PlacedStep → Type 0) (at : PlacedStep) (before : Steps)
    → is_event at.step ≡ true → AllByRecursion P (since_event (at ∷ before))
none_wait P at before e = rw (since_on at before, e) tt

pub more_wait : (P : PlacedStep → Type 0) (s : PlacedStep) (before : Steps)
    → AllByRecursion P (since_event before) → P s
    → AllByRecursion P (since_event (s ∷ before))
more_wait P s before w h =
    rw since_on (either (AllByRecursion P) (is_event s.step) [] _ tt (all_both P (since_event before) _ w (h, tt)))

pub all_wait : (P : PlacedStep → Type 0) (before : Steps)
    → AllByRecursion P before → AllByRecursion P (since_event before)
all_wait P [] all = rw since_none tt
all_wait P (s ∷ before) all = more_wait P s before (all_wait P before all.1) all.0

-- a property of all that each step yields
pub each_at : {X : Type 0} (P : X → Type 0) (Q : PlacedStep → Type 0) (of : PlacedStep → List X)
    → ((s : PlacedStep) → Q s → AllByRecursion P (of s))
    → (waits : Steps) → AllByRecursion Q waits → AllByRecursion P (flat_map of waits)
each_at P Q of h [] all = tt
each_at P Q of h (s ∷ waits) all = all_both P (of s) _ (h s all.0) (each_at P Q of h waits all.1)
