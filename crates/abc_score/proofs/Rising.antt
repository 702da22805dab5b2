-- No event of a voice is in an earlier measure than one before it, and none is past the voice's own measures.
use Rattle.std.{proofs.Common.{true, false, cond, reverse}, specs.{Prelude.fold, List.AllByRecursion}}
use Rattle.std.proofs.Common.{max, append-nil, arith, ◌≡◌, refl, sym, ap, subst, ℕ, zero, suc, ◌+◌, ◌-◌, ◌≤◌, ◌<◌, List}
use Rattle.std.proofs.Common.{[], ◌∷◌, ◌++◌, map, Bool}
use Rattle.abc_steps.specs.Counts.{all_further, begins_group, further_measures, groups, measure_at, measures_begun}
use Rattle.abc_steps.specs.Counts.{nearest_at}
use Rattle.abc_steps.specs.Places.{state_at}
use Rattle.abc_steps.specs.Looks.{Steps}
use Rattle.abc_steps.specs.declared.step.Step.{Step}
use Rattle.abc_steps.specs.declared.step.PlacedStep.{PlacedStep}
use Rattle.abc_steps.specs.declared.force.InForce.{InForce}
use Rattle.abc_steps.specs.declared.state.VoiceState.{VoiceState}
use Rattle.abc_steps.specs.Kinds.{is_event}
use Rattle.abc_signs.specs.Signs.{further_rests, rest_written, signs, tree_items_of, sound_written}
use Rattle.abc_events.specs.Leaves.{Words, leaves_from}
use Rattle.abc_signs.specs.declared.written.TreeItem.{TreeItem}
use Rattle.abc_score.proofs.{Basics.{either, with_tuplet}, Clear.turned, Segments.{Rise, rise_lower}}
use Rattle.abc_score.specs.{declared.voices.ReadVoice.ReadVoice, Score.{most_measures, own_measures}}

-- ---- measures begun
grows : (b : Bool) (g f n : ℕ) → g + f + n ≤ cond b (g + 1) g + (f + n)
grows true g f n = omega arith
grows false g f n = omega arith

more_at : (s : PlacedStep) (before : Steps) → measure_at before + further_measures s.step ≤ measure_at (s ∷ before)
more_at s before =
    grows (begins_group s.step (nearest_at before)) (groups before) (all_further before) (further_measures s.step)

begun_le : (before : Steps) → measures_begun before ≤ measure_at before + 1
begun_le [] = omega arith
begun_le (s ∷ before) =
    let more = more_at s before in let others = begun_le before in
    either (λ n. n ≤ measure_at (s ∷ before) + 1) (is_event s.step) _ _ (omega (arith, more))
    (omega (arith, others, more))

begun_grows : (s : PlacedStep) (before : Steps) → measures_begun before ≤ measures_begun (s ∷ before)
begun_grows s before =
    let low = begun_le before in
    either (λ n. measures_begun before ≤ n) (is_event s.step) _ _ (omega (arith, low)) (omega arith)

begun_walk : (following before : Steps) → measures_begun before ≤ measures_begun (reverse following ++ before)
begun_walk [] before = omega arith
begun_walk (at ∷ following) before =
    let same : measures_begun (reverse following ++ (at ∷ before))
    ≡ measures_begun (reverse (at ∷ following) ++ before) =
    ap measures_begun (turned at following before) in
    omega (arith, begun_walk following (at ∷ before), begun_grows at before, same)

-- ---- one more step
module _ (words : List Words) (first : InForce) (top : ℕ) where
  abbrev DoRise : ℕ → List TreeItem → Type 0
  DoRise low ss = (k id : ℕ) → Rise low top (leaves_from words k id ss)

  lower : (low high : ℕ) (ss : List TreeItem) → low ≤ high → DoRise high ss → DoRise low ss
  lower low high ss less rise k id = rise_lower low high top (leaves_from words k id ss) less (rise k id)

  further_rise : (now : VoiceState) (at : PlacedStep) (seen : Bool) (low n end : ℕ) (rest : List TreeItem)
      → low + n ≡ end → end < top → DoRise end rest
      → DoRise low (further_rests now at seen (low + 1) n ++ rest)
  unfolding rest_written
  further_rise now at seen low zero end rest e less rise k id = lower low end rest (omega arith) rise k id
  further_rise now at seen low (suc n) end rest e less rise k id = (
    omega arith,
    omega (arith, e, less),
    further_rise now at seen (low + 1) n end rest (omega (arith, e)) less rise (k + 1) _,
  )

  step_rise : (before following : Steps) (at : PlacedStep) (s : Step) (rest : List TreeItem)
      → cond (is_event s) (measure_at before + further_measures s + 1) 0 ≤ top
      → DoRise (measure_at before + further_measures s) rest
      → DoRise (measure_at before) (tree_items_of (state_at first before) before at following s ++ rest)
  unfolding tree_items_of sound_written rest_written is_event further_measures
  step_rise before following at (Step.Sound s) rest less rise k id = (
    omega arith,
    omega (arith, less),
    lower (measure_at before) (measure_at before + 0) rest (omega arith) rise (k + 1) _,
  )
  step_rise before following at (Step.Measures seen count) rest less rise k id =
      let others = further_rise (state_at first before) at seen (measure_at before) (count - 1) _ rest refl
      (omega (arith, less)) rise in
      (omega arith, omega (arith, less), others (k + 1) _)
  step_rise before following at (Step.Tuplet p q r) rest less rise k id =
      let others = lower (measure_at before) (measure_at before + 0) rest (omega arith) rise in
      with_tuplet (λ z. DoRise (measure_at before) (z ++ rest)) (state_at first before) p q r (λ m x y z. others) others
      k id
  step_rise before following at _ rest less rise k id =
      lower (measure_at before) (measure_at before + 0) rest (omega arith) rise k id

  walk_rise : (before following : Steps)
      → measures_begun (reverse following ++ before) ≤ top → DoRise (measure_at before) (signs first before following)
  walk_rise before [] less k id = tt
  walk_rise before (at ∷ following) less k id =
      let all = subst (λ (z : Steps). measures_begun z ≤ top) (sym (turned at following before)) less in
      let here : measures_begun (at ∷ before) ≤ top = omega (arith, begun_walk following (at ∷ before), all) in
      step_rise before following at at.step _ (event_within (is_event at.step) _ _ here)
      (lower _ (measure_at (at ∷ before)) (signs first (at ∷ before) following) (more_at at before)
      (walk_rise (at ∷ before) following all))
      k id where
        event_within : (b : Bool) (m n : ℕ) → cond b m n ≤ top → cond b m 0 ≤ top
        event_within true m n less = less
        event_within false m n less = omega arith

  pub voice_rise : (steps : Steps)
      → measures_begun (reverse steps) ≤ top → Rise 0 top (leaves_from words 0 0 (signs first [] steps))
  voice_rise steps less =
      walk_rise [] steps (subst (λ (z : Steps). measures_begun z ≤ top) (sym (append-nil (reverse steps))) less) 0 0

-- ---- as many measures as the voice with the most has
most_from : (ns : List ℕ) (most : ℕ) → most ≤ fold max most ns
most_from [] most = omega arith
most_from (n ∷ ns) most = omega (arith, most_from ns (max most n))

own_within : (vs : List ReadVoice) (most top : ℕ) → fold max most (map own_measures vs) ≤ top
    → AllByRecursion (λ (v : ReadVoice). own_measures v ≤ top) vs
own_within [] most top less = tt
own_within (v ∷ vs) most top less = (
  omega (arith, most_from (map own_measures vs) (max most (own_measures v)), less),
  own_within vs (max most (own_measures v)) top less,
)

pub own_most : (voices : List ReadVoice)
    → AllByRecursion (λ (v : ReadVoice). own_measures v ≤ most_measures voices) voices
own_most voices = own_within voices 0 _ (omega arith)
