-- What a score without faults guarantees: no voice has too many verses, and there are at most 2000 measures.
use Rattle.mus_score.specs.Limits.{measure_limit}
use Rattle.std.specs.Prelude.{fold, max, flat_map, is_none}
use Rattle.std.specs.List.{All, AllByRecursion}
use Rattle.std.proofs.Common.{append_assoc, Bool, true, false}
use Rattle.std.proofs.Common.{cond, None, arith, map, reverse, ◌≡◌, ◌∙◌, refl, sym, ap, subst, ℕ, ◌+◌, ◌-◌, ◌≤◌, ◌<◌}
use Rattle.std.proofs.Common.{List, [], ◌∷◌, ◌++◌, append-nil}
use Rattle.std.proofs.lemmas.{Bool.leb-false, List.{reverse-append, Elements.{All-weaker, All-from_recursion}}}
use Rattle.{abc_lines.specs.declared.fault.FaultKind.FaultKind, mus_units.specs.Parts.parts_list}
use Rattle.abc_faults.specs.Faults.{any_off, fault_if, faults_of, faults_in, grace_faults, is_free, sound_faults}
use Rattle.abc_words.specs.Verses.{verse_fault, first_verse_fault as head_of}
use Rattle.abc_steps.specs.Counts.{further_measures, measure_at, measures_begun}
use Rattle.abc_steps.specs.Places.{state_at, measure_of}
use Rattle.abc_steps.specs.Looks.{Steps, since_event}
use Rattle.abc_steps.specs.Kinds.{is_event}
use Rattle.abc_steps.specs.Lengths.{written_length}
use Rattle.abc_steps.specs.declared.step.WrittenSound.{WrittenSound}
use Rattle.abc_steps.specs.declared.step.Step.{Step}
use Rattle.abc_steps.specs.declared.step.PlacedStep.{PlacedStep}
use Rattle.abc_steps.specs.declared.force.InForce.{InForce}
use Rattle.abc_steps.specs.declared.state.VoiceState.{VoiceState}
use Rattle.abc_score.proofs.Basics.{none_before, none_after}
use Rattle.abc_score.specs.declared.voices.ReadVoice.{ReadVoice}
use Rattle.abc_score.specs.Faults.{voice_faults, faults_of_voices}
use Rattle.abc_score.specs.Score.{most_measures, own_measures}

-- a test that yields no fault
pub no_fault : (b : Bool) (kind : FaultKind) (at : PlacedStep) → fault_if b kind at ≡ [] → b ≡ false
no_fault true kind at e = absurd cc
no_fault false kind at e = refl

-- ---- steps

-- a note, a chord or a rest without faults
pub record IsClearSound (now : VoiceState) (before following : Steps) (s : WrittenSound) : Type 0 where
  pub drawn : let whole = written_length now.force.unit s before following in
      is_none (parts_list whole.num whole.den) ≡ false
  pub near : any_off now.force.clef s.heads ≡ false
  pub within : measure_of now < measure_limit
  pub graces : grace_faults now.force.clef (since_event before) ≡ []

pub sound_clear : (now : VoiceState) (before following : Steps) (at : PlacedStep) (s : WrittenSound)
    → faults_of now before at following (Step.Sound s) ≡ []
    → IsClearSound now before following s
unfolding faults_of sound_faults
sound_clear now before following at s e =
    let own = none_before _ _ e in let both = none_before _ _ own in
    record {
      drawn = no_fault _ _ _ (none_before _ _ both);
      near = no_fault _ _ _ (none_after _ _ both);
      within = leb-false measure_limit _ (no_fault _ _ _ (none_after _ _ own));
      graces = none_after _ _ e;
    }

-- whole measure rests without faults
pub record IsClearRest (now : VoiceState) (before : Steps) (count : ℕ) : Type 0 where
  pub metered : is_free now.force.meter ≡ false
  pub within : measure_of now + (count - 1) < measure_limit
  pub graces : grace_faults now.force.clef (since_event before) ≡ []

pub rest_clear : (now : VoiceState) (before following : Steps) (at : PlacedStep) (seen : Bool) (count : ℕ)
    → faults_of now before at following (Step.Measures seen count) ≡ []
    → IsClearRest now before count
unfolding faults_of
rest_clear now before following at seen count e =
    let own = none_before _ _ e in
    record {
      metered = no_fault _ _ _ (none_before _ _ own);
      within = leb-false measure_limit _ (no_fault _ _ _ (none_after _ _ own));
      graces = none_after _ _ e;
    }

-- one more step: an event without a fault is in a good measure
step_within : (first : InForce) (before following : Steps) (at : PlacedStep) (s : Step)
    → faults_of (state_at first before) before at following s ≡ []
    → measures_begun before ≤ measure_limit
    → cond (is_event s) (measure_at before + further_measures s + 1) (measures_begun before) ≤ measure_limit
unfolding is_event further_measures
step_within first before following at (Step.Sound s) e few =
    let clear = sound_clear (state_at first before) before following at s e in omega (arith, clear.within)
step_within first before following at (Step.Measures seen count) e few =
    let clear = rest_clear (state_at first before) before following at seen count e in omega (arith, clear.within)
step_within first before following at _ e few = few

pub turned : (at : PlacedStep) (following before : Steps)
    → reverse following ++ (at ∷ before) ≡ reverse (at ∷ following) ++ before
turned at following before =
    sym (ap (λ z. z ++ before) (reverse-append (at ∷ []) following) ∙ append_assoc (reverse following) (at ∷ []) before)

walk_within : (first : InForce) (before following : Steps)
    → faults_in first before following ≡ [] → measures_begun before ≤ measure_limit
    → measures_begun (reverse following ++ before) ≤ measure_limit
walk_within first before [] e few = few
walk_within first before (at ∷ following) e few =
    subst (λ (z : Steps). measures_begun z ≤ measure_limit) (turned at following before)
    (walk_within first (at ∷ before) following (none_after _ _ e)
    (step_within first before following at at.step (none_before _ _ e) few))

-- ---- voices
own_within : (v : ReadVoice) → faults_in v.first [] v.steps ≡ [] → own_measures v ≤ measure_limit
own_within v e =
    subst (λ (z : Steps). measures_begun z ≤ measure_limit) (append-nil (reverse v.steps))
    (walk_within v.first [] v.steps e (omega arith))

-- voices without faults, by themselves and for their verses
pub record IsClearVoice (v : ReadVoice) : Type 0 where
  pub own : faults_in v.first [] v.steps ≡ []
  pub verses : verse_fault v.verses ≡ None

each_clear : (voices : List ReadVoice) → flat_map voice_faults voices ≡ [] → AllByRecursion IsClearVoice voices
each_clear [] e = tt
each_clear (v ∷ voices) e =
    let here = none_before _ _ e in (
      record { own = none_before _ _ here; verses = ap head_of (none_after _ _ here) },
      each_clear voices (none_after _ _ e),
    )

pub voices_clear : (voices : List ReadVoice) → faults_of_voices voices ≡ [] → AllByRecursion IsClearVoice voices
voices_clear voices e = each_clear voices (none_before _ _ e)

pub few_measures : (voices : List ReadVoice)
    → AllByRecursion IsClearVoice voices → most_measures voices ≤ measure_limit
few_measures voices clear = most_within voices 0 clear (omega arith) where
  most_within : (voices : List ReadVoice) (most : ℕ)
      → AllByRecursion IsClearVoice voices → most ≤ measure_limit
      → fold max most (map own_measures voices) ≤ measure_limit
  most_within [] most clear few = few
  most_within (v ∷ voices) most clear few =
      most_within voices (max most (own_measures v)) clear.1
      (let here = own_within v clear.0.own in omega (arith, here, few))

pub clear_verses : (voices : List ReadVoice)
    → AllByRecursion IsClearVoice voices → All (λ v. verse_fault v.verses ≡ None) voices
clear_verses voices clear =
    All-weaker IsClearVoice _ (λ v h. h.verses) voices (All-from_recursion _ voices clear)
