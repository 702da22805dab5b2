-- Judged voices, and which of their tree items are kept.
use Rattle.mus_score.specs.Limits.{head_limit}
use Rattle.std.specs.Prelude.{◌≡◌, ◌≤◌, ◌<◌, ◌⊎◌, ◌++◌, [], List, Option, map, reverse, Bool, true, false}
use Rattle.std.specs.List.{Contains, list_all}
use Rattle.abc_lines.specs.declared.fault.Fault.{Fault}
use Rattle.abc_steps.specs.declared.step.Step.{Step}
use Rattle.abc_steps.specs.declared.step.PlacedStep.{PlacedStep}
use Rattle.abc_steps.specs.Counts.{measures_begun}
use Rattle.abc_steps.specs.Kinds.{is_event}
use Rattle.abc_steps.specs.Looks.{Steps}
use Rattle.abc_signs.specs.Signs.{signs}
use Rattle.abc_faults.specs.declared.weights.Weight.{Weight}
use Rattle.abc_faults.specs.First.{first_of, is_before}
use Rattle.abc_faults.specs.Weights.{capped, crowd_fault, crowd_up_to, stands_before, weight_at}
use Rattle.abc_score.specs.declared.keeping.VoiceItems.{VoiceItems}
use Rattle.abc_score.specs.declared.keeping.JudgedVoice.{JudgedVoice}
use Rattle.abc_score.specs.declared.voices.ReadVoice.{ReadVoice}

-- what is kept as whole is all tree items of the voice, and the number of its measures
abbrev pub AreItemsOf : ReadVoice → VoiceItems → Type 0
AreItemsOf v kept =
    kept.whole ≡ true → (kept.signs ≡ signs v.first [] v.steps) × (kept.measures ≡ measures_begun (reverse v.steps))

abbrev pub HasKept : JudgedVoice → Type 0
HasKept j = AreItemsOf j.read j.kept

abbrev pub reads_of : List JudgedVoice → List ReadVoice
reads_of voices = map (λ (j : JudgedVoice). j.read) voices

-- a step that has no effect by itself: not an event, not a bar, and nothing that a walk along the steps must know
unfoldable pub is_idle : Step → Bool
is_idle (Step.Grace slash body) = true
is_idle Step.SlurOn = true
is_idle Step.SlurOff = true
is_idle Step.Tie = true
is_idle (Step.Ending text) = true
is_idle (Step.Deco deco) = true
is_idle (Step.Says text) = true
is_idle Step.Break = true
is_idle Step.Space = true
is_idle Step.LineEnd = true
is_idle _ = false

-- there are too many heads and rests up to an event, and the steps that follow it are placed after it
pub record IsCrowdedAt (put : List Weight) (at : PlacedStep) (following : Steps) : Type 0 where
  pub event : is_event at.step ≡ true
  pub crowd : head_limit < crowd_up_to put (weight_at 0 at)
  pub later : list_all (λ (s : PlacedStep). stands_before (weight_at 0 at) (weight_at 0 s)) following ≡ true

-- there are too many up to a place, and a fault is not before that place
pub record HasCrowd (put : List Weight) (f : Fault) : Type 0 where
  pub at : Weight
  pub held : Contains put at
  pub crowd : head_limit < crowd_up_to put at
  pub following : is_before f (crowd_fault at) ≡ false

-- some weights are among others up to a weight
abbrev pub IsWithin : List Weight → List Weight → Weight → Type 0
IsWithin some all w = (Contains some w → Contains all w) × (crowd_up_to some w ≤ crowd_up_to all w)

-- some faults, with the weights added, determine the first fault: at all other faults there are already too many
pub record AreEnough (some faults : List Fault) (put all : List Weight) : Type 0 where
  pub held : (f : Fault) → Contains some f → Contains faults f
  pub within : (w : Weight) → IsWithin put all w
  pub others : (f : Fault) → Contains faults f → Contains some f ⊎ HasCrowd put f
  pub light : (w : Weight) → IsWithin all put w ⊎ HasCrowd put (crowd_fault w)

-- the first of enough faults is found, and enough weights are added
pub record AreJudged (faults : List Fault) (all : List Weight) (found : Option Fault)
    (old new : List Weight) : Type 0 where
  pub some : List Fault
  pub weights : List Weight
  pub first : found ≡ first_of some
  pub put : new ≡ old ++ map capped weights
  pub enough : AreEnough some faults weights all
