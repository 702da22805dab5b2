-- In each measure of a voice without faults, tuplets are full and events good.
use Rattle.std.{proofs.lemmas.List.Elements.recursion_from_All, specs.List.AllByRecursion}
use Rattle.std.proofs.Common.{arith, ◌≡◌, refl, sym, subst, ℕ, zero, suc, ◌+◌, ◌-◌, ◌≤◌, List, [], ◌∷◌, ◌++◌, Bool}
use Rattle.std.proofs.Common.{true, false, cond, ◌==◌}
use Rattle.mus_units.specs.declared.note.Deco.{Deco}
use Rattle.mus_units.specs.declared.key.Meter.{Meter}
use Rattle.mus_units.specs.Good.{IsGoodMeter}
use Rattle.abc_notes.specs.declared.part.GraceChord.{GraceChord}
use Rattle.mus_score.specs.declared.score.Music.{Music}
use Rattle.mus_score.specs.Good.{outside}
use Rattle.abc_music.specs.Good.{AreGoodGraces, HasGraceHead}
use Rattle.abc_faults.specs.Faults.{ends_tuplets, faults_in, faults_of, is_free, sounds_after}
use Rattle.abc_steps.specs.declared.step.Step.{Step}
use Rattle.abc_steps.specs.declared.step.PlacedStep.{PlacedStep}
use Rattle.abc_steps.specs.declared.force.InForce.{InForce}
use Rattle.abc_steps.specs.declared.state.VoiceState.{VoiceState}
use Rattle.abc_steps.specs.declared.tuplets.OpenTuplets.{OpenTuplets}
use Rattle.abc_steps.specs.Force.{force_at}
use Rattle.abc_steps.specs.Counts.{all_further, begins_group, further_measures, groups, measure_at, nearest_at}
use Rattle.abc_steps.specs.Good.{IsGoodForce, IsGoodStep, IsGoodPlacedStep}
use Rattle.abc_steps.specs.Tuplets.{after_event, is_compound, or_default, open_tuplets_at, open_tuplets_after, usual_q}
use Rattle.abc_steps.specs.Places.{state_at, measure_of}
use Rattle.abc_steps.specs.{Looks.{Steps, since_event}, Kinds.is_sound}
use Rattle.abc_signs.specs.Signs.{HasDrawableValues, further_rests, parted_at, rest_written, signs, tree_items_of}
use Rattle.abc_signs.specs.Signs.{sound_written}
use Rattle.abc_signs.specs.declared.written.TreeItem.{TreeItem}
use Rattle.abc_signs.specs.Waits.{graces_in, nothing_pending, pending_of}
use Rattle.abc_events.specs.Leaves.{Words, leaves_from, words_of_event}
use Rattle.abc_events.specs.Measures.{leaves_in}
use Rattle.abc_events.specs.Leaf.{Leaf}
use Rattle.abc_score.proofs.Judging.{IsFew, rest_good, rest_values, sound_good, sound_some}
use Rattle.abc_score.proofs.Nested.{HasSome, IsGoodAt, IsRatio, WellNested}
use Rattle.abc_score.proofs.Basics.{back_all, either, prefix_all, none_before, none_after}
use Rattle.abc_score.proofs.Clear.{rest_clear, sound_clear}
use Rattle.abc_score.proofs.Since.{all_wait, each_at}
use Rattle.abc_score.proofs.Walks.{Enough, next_enough, none_open, open_with, sound_parts, sounds_on, tuplet_clear}
use Rattle.abc_score.proofs.Walks.{walk_force}

-- ---- pending graces
step_graces : (s : Step) → IsGoodStep s → AreGoodGraces (graces_in s)
unfolding graces_in
step_graces (Step.Grace slash body) good = good
step_graces _ good = tt

waiting_graces : (now : InForce) (before : Steps) (decos : List Deco) → AllByRecursion IsGoodPlacedStep before
    → AreGoodGraces (pending_of now (since_event before) decos).graces
unfolding pending_of
waiting_graces now before decos all =
    each_at (λ (g : GraceChord). HasGraceHead g.heads) IsGoodPlacedStep (λ s. graces_in s.step)
    (λ s good. step_graces s.step good) (since_event before)
    (all_wait IsGoodPlacedStep before all)

-- ---- one more leaf

-- what the open tuplets take from the events of a measure
abbrev pub taken_in : ℕ → ℕ → OpenTuplets → OpenTuplets
taken_in k m t = cond (m == k) t OpenTuplets.Nothing

none_taken : (k m : ℕ) (t : OpenTuplets) → t ≡ OpenTuplets.Nothing → taken_in k m t ≡ OpenTuplets.Nothing
none_taken k m t none = either (λ x. x ≡ OpenTuplets.Nothing) (m == k) t _ none refl

at_leaf : (k m n : ℕ) (t u : OpenTuplets) (leaf : Leaf) (ls : List Leaf)
    → n ≡ m → (WellNested u ls → WellNested t (leaf ∷ ls))
    → WellNested (taken_in k n u) ls → WellNested (taken_in k m t) (cond (m == k) (leaf ∷ ls) ls)
at_leaf k m n t u leaf ls same more h = by_test (m == k) (subst (λ i. WellNested (taken_in k i u) ls) same h) where
  by_test : (b : Bool)
      → WellNested (cond b u OpenTuplets.Nothing) ls → WellNested (cond b t OpenTuplets.Nothing) (cond b (leaf ∷ ls) ls)
  by_test true h = more h
  by_test false h = h

at_rest : (k m : ℕ) (nodes : List Music) (ls : List Leaf)
    → IsGoodAt outside nodes → HasSome outside nodes → WellNested OpenTuplets.Nothing ls
    → WellNested OpenTuplets.Nothing (cond (m == k) (Leaf.Event m nodes ∷ ls) ls)
unfolding after_event
at_rest k m nodes ls good some h = either (WellNested OpenTuplets.Nothing) (m == k) _ _ (tt, good, some, h) h

-- ---- one more step
-- the q of a tuplet
abbrev IsGoodQ : ℕ → Type 0
IsGoodQ q = (1 ≤ q) × (q ≤ 9)

usual_within : (p : ℕ) (meter : Meter) → IsGoodQ (usual_q p meter)
usual_within p meter =
    either IsGoodQ _ 3 _ (omega arith, omega arith) (either IsGoodQ _ 2 _ (omega arith, omega arith)
    (either IsGoodQ (is_compound meter) 3 2 (omega arith, omega arith) (omega arith, omega arith)))

default_within : (usual q : ℕ) → IsGoodQ usual → q ≤ 9 → IsGoodQ (or_default usual q)
default_within usual zero within few = within
default_within usual (suc q) within few = (omega arith, few)

no_further : (before : Steps) → groups before + (all_further before + 0) ≡ measure_at before
no_further before = omega arith

module _ (words : List Words) (k : ℕ) where
  -- the leaves of tree items from a measure on
  abbrev AreNested : ℕ → OpenTuplets → List TreeItem → Type 0
  AreNested m t ss = (j id : ℕ) → WellNested (taken_in k m t) (leaves_in k (leaves_from words j id ss))

  abbrev AreUnopened : List TreeItem → Type 0
  AreUnopened ss = (j id : ℕ) → WellNested OpenTuplets.Nothing (leaves_in k (leaves_from words j id ss))

  to_nothing : (m : ℕ) (ss : List TreeItem) → AreNested m OpenTuplets.Nothing ss → AreUnopened ss
  to_nothing m ss h j id =
      subst (λ t. WellNested t (leaves_in k (leaves_from words j id ss))) (none_taken k m OpenTuplets.Nothing refl)
      (h j id)

  from_nothing : (m : ℕ) (t : OpenTuplets) (ss : List TreeItem) → Enough t 0 → AreUnopened ss → AreNested m t ss
  from_nothing m t ss enough h j id =
      subst (λ t. WellNested t (leaves_in k (leaves_from words j id ss))) (sym (none_taken k m t (none_open t enough)))
      (h j id)

  rests_full : (now : VoiceState) (at : PlacedStep) (seen : Bool) (measure n : ℕ) (rest : List TreeItem)
      → is_free now.force.meter ≡ false
      → IsGoodMeter now.force.meter → AreUnopened rest → AreUnopened (further_rests now at seen measure n ++ rest)
  unfolding rest_written
  rests_full now at seen measure zero rest held good h j id = h j id
  rests_full now at seen measure (suc n) rest held good h j id =
      at_rest k measure _ _
      (rest_good now at seen measure false nothing_pending (words_of_event words j) id held good tt)
      (sound_some outside (rest_written now at seen measure false) nothing_pending _ id
      (rest_values now at seen measure false))
      (rests_full now at seen (measure + 1) n rest held good h (j + 1) _)

  module _ (first : InForce) where
    step_full : (before following : Steps) (at : PlacedStep) (s : Step) (rest : List TreeItem)
        → IsGoodForce (force_at first before)
        → AllByRecursion IsGoodPlacedStep before → IsGoodStep s
        → faults_of (state_at first before) before at following s ≡ []
        → AllByRecursion HasDrawableValues (tree_items_of (state_at first before) before at following s)
        → Enough (open_tuplets_at before) (cond (ends_tuplets s) 0 (cond (is_sound s) 1 0 + sounds_after following))
        → AreNested
        (cond (begins_group s (nearest_at before)) (groups before + 1) (groups before)
        + (all_further before + further_measures s))
        (open_tuplets_after s (open_tuplets_at before)) rest
        → AreNested (measure_at before) (open_tuplets_at before)
        (tree_items_of (state_at first before) before at following s ++ rest)
    unfolding tree_items_of faults_of sound_written rest_written begins_group further_measures open_tuplets_after
        ends_tuplets is_sound
    step_full before following at (Step.Sound s) rest force goods good e drawn enough h j id =
        let now = state_at first before in let w = sound_written now before at s following in
        let waiting = pending_of now.force (since_event before) s.decos in
        let graces = waiting_graces now.force before s.decos goods in
        let clear = sound_clear now before following at s e in
        at_leaf k _ _ (open_tuplets_at before) _ _ _ (no_further before) (λ h. (
          open_with _ _ enough,
          sound_good (open_tuplets_at before) w waiting (words_of_event words j) id refl
              (recursion_from_All IsFew w.values drawn.0) graces,
          sound_some _ w waiting _ id (sound_parts now before following at s force.unit good clear),
          h,
        )) (h (j + 1) _)
    step_full before following at (Step.Measures seen count) rest force goods good e drawn enough h j id =
        let now = state_at first before in let clear = rest_clear now before following at seen count e in
        let parted = parted_at now (since_event before) in let waiting = pending_of now.force (since_event before) [] in
        let w = rest_written now at seen (measure_of now) parted in
        let graces = waiting_graces now.force before [] goods in
        let others = further_rests now at seen (measure_of now + 1) (count - 1) ++ rest in
        from_nothing _ _ (TreeItem.Event w waiting ∷ others) enough (λ j id.
        at_rest k _ _ _
        (rest_good now at seen (measure_of now) parted waiting (words_of_event words j) id clear.metered force.meter
        graces)
        (sound_some outside w waiting _ id (rest_values now at seen (measure_of now) parted))
        (rests_full now at seen (measure_of now + 1) (count - 1) rest clear.metered force.meter (to_nothing _ rest h)
        (j + 1) _))
        j id
    step_full before following at (Step.Bar bar) rest force goods good e drawn enough h j id =
        from_nothing _ _ rest enough (to_nothing _ rest h) j id
    step_full before following at (Step.Tuplet p q r) rest force goods good e drawn enough h j id =
        let now = state_at first before in let clear = tuplet_clear (or_default p r) now.taking at following e in
        let takes = default_within (usual_q p now.force.meter) q (usual_within p now.force.meter) good.q_high in
        let ratio : IsRatio p (or_default (usual_q p now.force.meter) q) =
        record { p_low = good.p_low; p_high = good.p_high; q_low = takes.0; q_high = takes.1 } in
        rw clear.0
        (at_leaf k _ _ (open_tuplets_at before) _ _ _ (no_further before)
        (λ h. (open_with _ _ enough, clear.0, ratio, h)) (h j id))
    step_full before following at _ rest force goods good e drawn enough h j id =
        subst (λ i. WellNested (taken_in k i (open_tuplets_at before)) (leaves_in k (leaves_from words j id rest)))
        (no_further before) (h j id)

    -- ---- all steps
    walk_full : (before following : Steps)
        → IsGoodForce first → AllByRecursion IsGoodPlacedStep before → AllByRecursion IsGoodPlacedStep following
        → faults_in first before following ≡ []
        → AllByRecursion HasDrawableValues (signs first before following)
        → Enough (open_tuplets_at before) (sounds_after following)
        → AreNested (measure_at before) (open_tuplets_at before) (signs first before following)
    unfolding sounds_after
    walk_full before [] force good goods e drawn enough = from_nothing _ _ [] enough (λ j id. refl)
    walk_full before (at ∷ following) force good goods e drawn enough =
        let suffices = subst (Enough (open_tuplets_at before)) (sounds_on at following) enough in
        let clear = none_before _ _ e in
        step_full before following at at.step _ (walk_force first before force good) good goods.0 clear
        (prefix_all HasDrawableValues _ _ drawn) suffices
        (walk_full (at ∷ before) following force (goods.0, good) goods.1 (none_after _ _ e)
        (back_all HasDrawableValues _ _ drawn)
        (next_enough (state_at first before) before following at at.step goods.0 clear suffices))

    pub all_full : (steps : Steps)
        → IsGoodForce first → AllByRecursion IsGoodPlacedStep steps → faults_in first [] steps ≡ []
        → AllByRecursion HasDrawableValues (signs first [] steps)
        → WellNested OpenTuplets.Nothing (leaves_in k (leaves_from words 0 0 (signs first [] steps)))
    all_full steps force goods e drawn = to_nothing 0 _ (walk_full [] steps force tt goods e drawn tt) 0 0
