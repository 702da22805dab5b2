-- A step that has no effect by itself leaves all that is known of a voice as it is.
use Rattle.std.proofs.Common.{◌≡◌, ◌∙◌, ◌<◌, refl, sym, ap, ℕ, ◌+◌, [], ◌∷◌, ◌++◌, length, get_or, reverse, take, drop}
use Rattle.std.proofs.Common.{true, arith, List}
use Rattle.abc_steps.specs.declared.step.Step.{Step}
use Rattle.abc_steps.specs.declared.step.PlacedStep.{PlacedStep}
use Rattle.abc_steps.specs.declared.force.InForce.{InForce}
use Rattle.abc_steps.specs.declared.state.VoiceState.{VoiceState}
use Rattle.abc_steps.specs.Looks.{Steps}
use Rattle.abc_steps.specs.Places.{state_at}
use Rattle.abc_steps.specs.Kinds.{is_event, is_bar}
use Rattle.abc_steps.specs.Counts.{begins_group, further_measures}
use Rattle.abc_steps.specs.Force.{force_after}
use Rattle.abc_steps.specs.Tuplets.{open_tuplets_after}
use Rattle.abc_faults.specs.Faults.{faults_in, faults_of}
use Rattle.abc_faults.specs.Weights.{weights_in, weights_of}
use Rattle.abc_faults.proofs.Walks.{walk_parts, weigh_parts}
use Rattle.abc_signs.specs.Signs.{tree_items_of}
use Rattle.abc_lines.specs.declared.fault.Fault.{Fault}
use Rattle.std.specs.Prelude.{Option}
use Rattle.abc_faults.specs.declared.weights.Weight.{Weight}
use Rattle.abc_score.specs.Judged.{is_idle}
use Rattle.abc_score.proofs.Stops.{IsAt}

pub record IsIdleAt (first : InForce) (before : Steps) (at : PlacedStep) (following : Steps) : Type 0 where
  pub faults : faults_of (state_at first before) before at following at.step ≡ []
  pub weights : weights_of (state_at first before) before at following at.step ≡ []
  pub signs : tree_items_of (state_at first before) before at following at.step ≡ []
  pub place : state_at first (at ∷ before) ≡ state_at first before

with_further : (now : VoiceState) (n : ℕ)
    → n ≡ now.counts.further → record now { counts = record now.counts { further = n } } ≡ now
with_further now n e = ap (λ k. record now { counts = record now.counts { further = k } }) e

of_kind : (first : InForce) (before following : Steps) (s : Step) (line column : ℕ) → is_idle s ≡ true
    → IsIdleAt first before (record { step = s; line = line; column = column }) following
unfolding is_idle faults_of weights_of tree_items_of is_event is_bar begins_group further_measures force_after
    open_tuplets_after
of_kind first before following (Step.Sound s) line column e = absurd cc
of_kind first before following (Step.Measures seen count) line column e = absurd cc
of_kind first before following (Step.Tuplet p q r) line column e = absurd cc
of_kind first before following (Step.Broken right dots) line column e = absurd cc
of_kind first before following (Step.Bar bar) line column e = absurd cc
of_kind first before following (Step.Key text) line column e = absurd cc
of_kind first before following (Step.Meter meter) line column e = absurd cc
of_kind first before following (Step.Unit unit) line column e = absurd cc
of_kind first before following (Step.Clef clef) line column e = absurd cc
of_kind first before following _ line column e = record {
  faults = refl;
  weights = refl;
  signs = refl;
  place = with_further (state_at first before) _ (omega arith);
}

pub idle_at : (first : InForce) (before : Steps) (at : PlacedStep) (following : Steps)
    → is_idle at.step ≡ true → IsIdleAt first before at following
idle_at first before at following e = of_kind first before following at.step at.line at.column e

pub idle_so_far : {found : Option Fault} {old new : List Weight} (first : InForce) (steps : Steps) (i : ℕ)
    (at : PlacedStep)
    → i < length steps
    → at ≡ get_or steps i at → is_idle at.step ≡ true
    → IsAt first steps (reverse (take i steps)) (drop i steps) found old new
    → IsAt first steps (reverse (take (i + 1) steps)) (drop (i + 1) steps) found old new
idle_so_far first steps i at less is e h =
    let before = reverse (take (i + 1) steps) in let following = drop (i + 1) steps in
    let idle = idle_at first (reverse (take i steps)) at following e in
    let faults = walk_parts first steps i at less is ∙ ap (λ z. z ++ faults_in first before following) idle.faults in
    let weights =
    weigh_parts first steps i at less is ∙ ap (λ z. z ++ weights_in first before following) idle.weights in
    record {
      some = h.some;
      weights = h.weights;
      first = h.first;
      faults_are = ap (λ z. h.some ++ z) (sym faults) ∙ h.faults_are;
      put = h.put;
      weights_are = ap (λ z. h.weights ++ z) (sym weights) ∙ h.weights_are;
    }
