-- After an event with which there are too many heads and rests there is no first fault.
use Rattle.mus_score.specs.Limits.{head_limit}
use Rattle.std.proofs.Common.{append_assoc, append-nil, take, reverse, get_or, map}
use Rattle.std.specs.Prelude.{◌<◌}
use Rattle.std.specs.List.{AllByRecursion, Contains, list_all}
use Rattle.std.proofs.lemmas.Bool.{and_parts}
use Rattle.std.proofs.lemmas.Bool.Decides.{nat_tests}
use Rattle.std.proofs.lemmas.List.Elements.{Contains-append_right}
use Rattle.std.proofs.Math.Seq.{drop-append_seam}
use Rattle.std.proofs.Common.{length, min, Bool, true, false, Option, None, arith, ◌≡◌, ◌∙◌, refl, sym, ap, subst, ℕ}
use Rattle.std.proofs.Common.{◌+◌, List, [], ◌∷◌, ◌++◌, drop}
use Rattle.{abc_lines.specs.declared.fault.{Fault.Fault, FaultKind.FaultKind}, mus_units.specs.declared.pitch.Clef.Clef}
use Rattle.abc_steps.specs.declared.step.Step.{Step}
use Rattle.abc_steps.specs.declared.step.PlacedStep.{PlacedStep}
use Rattle.abc_steps.specs.declared.force.InForce.{InForce}
use Rattle.abc_steps.specs.declared.state.VoiceState.{VoiceState}
use Rattle.abc_steps.specs.Looks.{Steps, since_event}
use Rattle.abc_steps.specs.{Tuplets.{fits, or_default}, Places.state_at, Kinds.is_event}
use Rattle.abc_faults.proofs.{Caps.{capped_append, crowd_capped}, Firsts.first_append, Walks.at_front}
use Rattle.abc_faults.specs.First.{earlier, first_of, is_before}
use Rattle.abc_faults.specs.declared.weights.Weight.{Weight}
use Rattle.abc_faults.specs.Weights.{stands_before}
use Rattle.abc_faults.specs.Faults.{step_fault, fault_if, misfit_of, grace_faults_of, grace_faults, sound_faults}
use Rattle.abc_faults.specs.Faults.{faults_of, faults_in}
use Rattle.abc_faults.specs.Weights.{weights_in, weights_of, IsAfter, capped, crowd_fault, crowd_up_to}
use Rattle.abc_faults.specs.Weights.{grace_weights_of, grace_weights, weight_at}
use Rattle.abc_score.proofs.Basics.{all_both, either}
use Rattle.abc_score.proofs.Enough.{all_enough, enough_after}
use Rattle.abc_score.proofs.Since.{each_at, more_wait, none_wait}
use Rattle.abc_score.specs.Judged.{AreEnough, AreJudged, IsCrowdedAt}

-- ---- faults are at the steps that follow
module _ (P : Fault → Type 0) where
  abbrev AtStep : PlacedStep → Type 0
  AtStep s = (kind : FaultKind) → P (step_fault kind s)

  if_at : (b : Bool) (kind : FaultKind) (at : PlacedStep) → AtStep at → AllByRecursion P (fault_if b kind at)
  if_at true kind at h = (h kind, tt)
  if_at false kind at h = tt

  grace_at : (clef : Clef) (at : PlacedStep) (s : Step) → AtStep at → AllByRecursion P (grace_faults_of clef at s)
  unfolding grace_faults_of
  grace_at clef at (Step.Grace slash body) h = if_at _ FaultKind.StepRange at h
  grace_at clef at _ h = tt

  graces_at : (clef : Clef) (waits : Steps) → AllByRecursion AtStep waits → AllByRecursion P (grace_faults clef waits)
  graces_at clef waits all =
      each_at P AtStep (λ s. grace_faults_of clef s s.step) (λ s h. grace_at clef s s.step h) waits all

  step_at : (now : VoiceState) (before : Steps) (at : PlacedStep) (following : Steps) (s : Step)
      → AllByRecursion AtStep (since_event before) → AtStep at
      → AllByRecursion P (faults_of now before at following s)
  unfolding faults_of sound_faults
  step_at now before at following (Step.Sound s) w h = search (all_both, if_at, graces_at)
  step_at now before at following (Step.Measures seen count) w h = search (all_both, if_at, graces_at)
  step_at now before at following (Step.Tuplet p q r) w h =
      either (AllByRecursion P) (fits (or_default p r) now.taking) _ (step_fault (misfit_of now.taking) at ∷ [])
      (if_at _ FaultKind.TupletShort at h) (h _, tt)
  step_at now before at following (Step.Broken right dots) w h = if_at _ FaultKind.BrokenAlone at h
  step_at now before at following _ w h = tt

  faults_at : (first : InForce) (before following : Steps)
      → AllByRecursion AtStep (since_event before) → AllByRecursion AtStep following
      → AllByRecursion P (faults_in first before following)
  faults_at first before [] w h = tt
  faults_at first before (s ∷ following) w h =
      all_both P _ _ (step_at (state_at first before) before s following s.step w h.0)
      (faults_at first (s ∷ before) following (more_wait AtStep s before w h.0) h.1)

-- ---- and so are weights
module _ (P : Weight → Type 0) where
  abbrev Weighs : PlacedStep → Type 0
  Weighs s = (n : ℕ) → P (weight_at n s)

  grace_weighs : (at : PlacedStep) (s : Step) → Weighs at → AllByRecursion P (grace_weights_of at s)
  unfolding grace_weights_of
  grace_weighs at (Step.Grace slash body) h = (h _, tt)
  grace_weighs at _ h = tt

  event_weighs : (waits : Steps) (at : PlacedStep) (n : ℕ) → AllByRecursion Weighs waits → Weighs at
      → AllByRecursion P (grace_weights waits ++ weight_at n at ∷ [])
  event_weighs waits at n w h =
      all_both P (grace_weights waits) _
      (each_at P Weighs (λ s. grace_weights_of s s.step) (λ s k. grace_weighs s s.step k) waits w) (h n, tt)

  step_weighs : (now : VoiceState) (before : Steps) (at : PlacedStep) (following : Steps) (s : Step)
      → AllByRecursion Weighs (since_event before) → Weighs at
      → AllByRecursion P (weights_of now before at following s)
  unfolding weights_of
  step_weighs now before at following (Step.Sound s) w h = event_weighs (since_event before) at _ w h
  step_weighs now before at following (Step.Measures seen count) w h = event_weighs (since_event before) at count w h
  step_weighs now before at following _ w h = tt

  weights_at : (first : InForce) (before following : Steps)
      → AllByRecursion Weighs (since_event before) → AllByRecursion Weighs following
      → AllByRecursion P (weights_in first before following)
  weights_at first before [] w h = tt
  weights_at first before (s ∷ following) w h =
      all_both P _ _ (step_weighs (state_at first before) before s following s.step w h.0)
      (weights_at first (s ∷ before) following (more_wait Weighs s before w h.0) h.1)

-- ---- after the event
abbrev is_later : PlacedStep → PlacedStep → Bool
is_later at s = stands_before (weight_at 0 at) (weight_at 0 s)

later_fault : (at s : PlacedStep)
    → is_later at s ≡ true → AtStep (λ f. is_before f (crowd_fault (weight_at 0 at)) ≡ false) s
unfolding stands_before is_before
later_fault at s h = λ kind. grind (arith, nat_tests)

later_weight : (n : ℕ) (at s : PlacedStep) → is_later at s ≡ true → Weighs (IsAfter (weight_at n at)) s
unfolding stands_before
later_weight n at s h = λ m. grind (arith, nat_tests)

each_later : (P : PlacedStep → Type 0) (at : PlacedStep) (following : Steps)
    → ((s : PlacedStep) → is_later at s ≡ true → P s) → list_all (is_later at) following ≡ true
    → AllByRecursion P following
each_later P at [] h all = tt
each_later P at (s ∷ following) h all =
    let parts = and_parts (is_later at s) _ all in (h s parts.0, each_later P at following h parts.1)

-- the weight of an event
event_weight : (now : VoiceState) (before : Steps) (at : PlacedStep) (following : Steps) (s : Step) → is_event s ≡ true
    → (n : ℕ) × Contains (weights_of now before at following s) (weight_at n at)
unfolding is_event weights_of
event_weight now before at following (Step.Sound s) e =
    (_, Contains-append_right (grace_weights (since_event before)) _ _ (0, omega arith, refl))
event_weight now before at following (Step.Measures seen count) e =
    (count, Contains-append_right (grace_weights (since_event before)) _ _ (0, omega arith, refl))
event_weight now before at following _ e = absurd cc

same_crowd : (ws : List Weight) (m n : ℕ) (at : PlacedStep)
    → crowd_up_to ws (weight_at m at) ≡ crowd_up_to ws (weight_at n at)
unfolding stands_before
same_crowd ws m n at = refl

-- ---- the judged part of a voice
pub record IsSoFar (faults hidden : List Fault) (all light : List Weight) (found : Option Fault)
    (old new : List Weight) : Type 0 where
  pub some : List Fault
  pub weights : List Weight
  pub first : found ≡ first_of some
  pub faults_are : some ++ hidden ≡ faults
  pub put : new ≡ old ++ map capped weights
  pub weights_are : weights ++ light ≡ all

pub none_so_far : (faults : List Fault) (all old : List Weight) → IsSoFar faults faults all all None old old
none_so_far faults all old =
    record { some = []; weights = []; first = refl; faults_are = refl; put = sym (append-nil old); weights_are = refl }

-- one more step
more_so_far : {faults hidden rest : List Fault} {all light others : List Weight} {found mine next : Option Fault}
    {old new newer : List Weight}
    → (own : List Fault) (put : List Weight) → IsSoFar faults hidden all light found old new → hidden ≡ own ++ rest
    → light ≡ put ++ others
    → mine ≡ first_of own → next ≡ earlier found mine → newer ≡ new ++ map capped put
    → (h : IsSoFar faults rest all others next old newer) × ((w : Weight) → Contains put w → Contains h.weights w)
more_so_far {mine = mine} {old = old} own put h parts weights is_mine is_next is_newer =
    let both = append_assoc old (map capped h.weights) _ ∙ ap (λ z. old ++ z) (sym (capped_append h.weights put)) in (
      record {
        some = h.some ++ own;
        weights = h.weights ++ put;
        first =
            is_next
            ∙ (ap (λ z. earlier z mine) h.first
            ∙ (ap (earlier (first_of h.some)) is_mine ∙ sym (first_append h.some own)));
        faults_are = append_assoc h.some own _ ∙ (ap (λ z. h.some ++ z) (sym parts) ∙ h.faults_are);
        put = is_newer ∙ (ap (λ z. z ++ map capped put) h.put ∙ both);
        weights_are = append_assoc h.weights put _ ∙ (ap (λ z. h.weights ++ z) (sym weights) ∙ h.weights_are);
      },
      λ w k. Contains-append_right h.weights put w k,
    )

abbrev pub IsAt : InForce → Steps → Steps → Steps → Option Fault → List Weight → List Weight → Type 0
IsAt first steps before following found old new =
    IsSoFar (faults_in first [] steps) (faults_in first before following) (weights_in first [] steps)
    (weights_in first before following) found old new

-- the weights at a step are added
abbrev pub IsPut : InForce → Steps → PlacedStep → Steps → List Weight → Type 0
IsPut first before at following put =
    (w : Weight) → Contains (weights_of (state_at first before) before at following at.step) w → Contains put w

pub step_so_far : {at : PlacedStep} {now : VoiceState} {prefix back : Steps} {found mine next : Option Fault}
    {old new newer : List Weight}
    → (first : InForce) (steps : Steps) (i : ℕ) → i < length steps → at ≡ get_or steps i at
    → now ≡ state_at first (reverse (take i steps))
    → prefix ≡ take i steps → back ≡ drop (i + 1) steps
    → IsAt first steps (reverse (take i steps)) (drop i steps) found old new
    → mine ≡ first_of (faults_of now (reverse prefix) at back at.step)
    → next ≡ earlier found mine → newer ≡ new ++ map capped (weights_of now (reverse prefix) at back at.step)
    → (h : IsAt first steps (at ∷ reverse (take i steps)) (drop (i + 1) steps) next old newer)
    × IsPut first (reverse (take i steps)) at (drop (i + 1) steps) h.weights
step_so_far {at = at} first steps i less is is_now is_prefix is_back h is_mine is_next is_newer =
    let before = reverse (take i steps) in let following = drop (i + 1) steps in let now = state_at first before in
    let there = at_front steps i at less is in
    more_so_far (faults_of now before at following at.step) (weights_of now before at following at.step) h
    (ap (faults_in first before) there)
    (ap (weights_in first before) there) (cc) is_next (cc)

pub judged_whole : {faults : List Fault} {all : List Weight} {found : Option Fault} {old new : List Weight}
    → IsSoFar faults [] all [] found old new
    → AreJudged faults all found old new
judged_whole {faults = faults} {all = all} {old = old} h = record {
  some = faults;
  weights = all;
  first = h.first ∙ ap first_of (sym (append-nil h.some) ∙ h.faults_are);
  put = h.put ∙ ap (λ z. old ++ map capped z) (sym (append-nil h.weights) ∙ h.weights_are);
  enough = all_enough faults all;
}

-- up to an event after which nothing comes first
pub judged_to : {at : PlacedStep} {following : Steps} {found : Option Fault} {old new : List Weight} (first : InForce)
    (steps before : Steps)
    → (h : IsAt first steps (at ∷ before) following found old new) → IsPut first before at following h.weights
    → IsCrowdedAt (drop (length old) new) at following
    → AreJudged (faults_in first [] steps) (weights_in first [] steps) found old new
judged_to {at = at} {following = following} {old = old} {new = new} first steps before h put end =
    let faults = faults_in first [] steps in
    let hidden = faults_in first (at ∷ before) following in
    let light = weights_in first (at ∷ before) following in
    let own : drop (length old) new ≡ map capped h.weights =
    ap (drop (length old)) h.put ∙ drop-append_seam old (map capped h.weights) in
    let event = event_weight (state_at first before) before at following at.step end.event in
    let w = weight_at event.0 at in
    let few = ap (λ z. crowd_up_to z (weight_at 0 at)) own ∙ same_crowd (map capped h.weights) 0 (min 0 50001) at in
    let crowd : head_limit < crowd_up_to h.weights w =
    omega (arith, end.crowd, few, (crowd_capped h.weights (weight_at 0 at)).below, same_crowd h.weights event.0 0 at) in
    let IsLate : Fault → Type 0 = λ f. is_before f (crowd_fault w) ≡ false in
    let late = faults_at IsLate first (at ∷ before) following (none_wait (AtStep IsLate) at before end.event)
    (each_later (AtStep IsLate) at following (later_fault at) end.later) in
    let farther = weights_at (IsAfter w) first (at ∷ before) following
    (none_wait (Weighs (IsAfter w)) at before end.event)
    (each_later (Weighs (IsAfter w)) at following (later_weight event.0 at) end.later) in
    let enough = enough_after h.some hidden h.weights light w (put w event.1) crowd late farther in
    record {
      some = h.some;
      weights = h.weights;
      first = h.first;
      put = h.put;
      enough = subst (λ z. AreEnough h.some faults h.weights z) h.weights_are
          (subst (λ z. AreEnough h.some z h.weights (h.weights ++ light)) h.faults_are enough);
    }
