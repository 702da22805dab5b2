-- Heads and graces of a voice without faults are within reach, in the clef at their event.
use Rattle.mus_score.specs.Limits.{highest_head, lowest_head}
use Rattle.std.proofs.lemmas.Int.{ints}
use Rattle.std.proofs.lemmas.List.Folds.{list_any-append}
use Rattle.std.proofs.lemmas.Bool.{or_parts}
use Rattle.std.specs.Prelude.{flat_map}
use Rattle.std.specs.List.{AllByRecursion, list_any}
use Rattle.std.proofs.Common.{◌≡◌, ◌∙◌, refl, sym, ap, subst, ℕ, zero, suc, ◌+◌, ◌-◌, ℤ, ◌≤ℤ◌, int_lt}
use Rattle.std.proofs.Common.{List, [], ◌∷◌, ◌++◌, Bool, true}
use Rattle.std.proofs.Common.{false, cond, ◌||◌, Option, Some, None, is_some, unwrap_or, arith}
use Rattle.mus_units.specs.{declared.{note.{Head.Head, Deco.Deco}, pitch.Clef.Clef}, Pitch.height_of}
use Rattle.abc_notes.specs.declared.part.GraceChord.{GraceChord}
use Rattle.abc_faults.specs.Faults.{any_grace_off, any_off, faults_in, faults_of, grace_faults, grace_faults_of, is_off}
use Rattle.abc_steps.specs.declared.step.Step.{Step}
use Rattle.abc_steps.specs.declared.step.PlacedStep.{PlacedStep}
use Rattle.abc_steps.specs.declared.force.InForce.{InForce}
use Rattle.abc_steps.specs.declared.state.VoiceState.{VoiceState}
use Rattle.abc_steps.specs.Looks.{Steps, is_sound_tied, since_event}
use Rattle.abc_steps.specs.Force.{changes_at, force_at, force_after, names_clef, some_if}
use Rattle.abc_steps.specs.Places.{state_at, measure_of}
use Rattle.abc_steps.specs.Kinds.{is_event}
use Rattle.abc_signs.specs.Signs.{further_rests, rest_written, signs, tree_items_of, sound_written, tied_heads}
use Rattle.abc_signs.specs.Signs.{with_tie}
use Rattle.abc_signs.specs.Waits.{graces_in, pending_of}
use Rattle.abc_signs.specs.declared.written.TreeItem.{TreeItem}
use Rattle.abc_score.proofs.Basics.{all_both, with_tuplet, none_before, none_after}
use Rattle.abc_score.proofs.Clear.{no_fault, rest_clear, sound_clear}
use Rattle.abc_score.proofs.{Parts.{SignsReach, heads_reach, DoReach}, Since.{since_none, since_on}}

-- ---- heads and graces
height_reach : (z : ℤ)
    → int_lt z lowest_head ≡ false → int_lt highest_head z ≡ false → (lowest_head ≤ℤ z) × (z ≤ℤ highest_head)
height_reach z low high = (grind (arith, ints), grind (arith, ints))

all_reach : (clef : Clef) (hs : List Head) → any_off clef hs ≡ false → DoReach clef hs
all_reach clef [] e = tt
all_reach clef (h ∷ hs) e =
    let parts = or_parts (is_off clef h) _ e in let own = or_parts _ _ parts.0 in
    (height_reach (height_of h.pitch clef) own.0 own.1, all_reach clef hs parts.1)

tied_reach : (clef : Clef) (hs : List Head) (following : Steps)
    → DoReach clef hs → DoReach clef (tied_heads hs following)
tied_reach clef [] following all = tt
tied_reach clef (h ∷ hs) following all = heads_reach clef (with_tie (is_sound_tied following)) (λ h is. is) (h ∷ hs) all

abbrev GracesReach : Clef → List GraceChord → Type 0
GracesReach clef gs = AllByRecursion (λ (g : GraceChord). DoReach clef g.heads) gs

chords_reach : (clef : Clef) (gs : List GraceChord) → any_grace_off clef gs ≡ false → GracesReach clef gs
chords_reach clef [] e = tt
chords_reach clef (g ∷ gs) e =
    let parts = or_parts (any_off clef g.heads) _ e in (all_reach clef g.heads parts.0, chords_reach clef gs parts.1)

step_graces : (clef : Clef) (at : PlacedStep) (s : Step)
    → grace_faults_of clef at s ≡ [] → GracesReach clef (graces_in s)
unfolding graces_in grace_faults_of
step_graces clef at (Step.Grace slash body) e = chords_reach clef body (no_fault _ _ at e)
step_graces clef at _ e = tt

waits_reach : (clef : Clef) (waits : Steps)
    → grace_faults clef waits ≡ [] → GracesReach clef (flat_map (λ s. graces_in s.step) waits)
waits_reach clef [] e = tt
waits_reach clef (s ∷ waits) e =
    all_both (λ (g : GraceChord). DoReach clef g.heads) _ _ (step_graces clef s s.step (none_before _ _ e))
    (waits_reach clef waits (none_after _ _ e))

waiting_reach : (clef : Clef) (now : InForce) (waits : Steps) (decos : List Deco) → grace_faults clef waits ≡ []
    → GracesReach clef (pending_of now waits decos).graces
unfolding pending_of
waiting_reach clef now waits decos e = waits_reach clef waits e

-- ---- the clef at an event

-- the clef at the last event
abbrev pub event_clef : InForce → Steps → Clef
event_clef first [] = first.clef
event_clef first (s ∷ before) = cond (is_event s.step) (force_at first before).clef (event_clef first before)

event_force : (s : Step) (now : InForce) → is_event s ≡ true → force_after s now ≡ now
unfolding is_event force_after
event_force (Step.Sound s) now e = refl
event_force (Step.Measures seen count) now e = refl
event_force _ now e = absurd cc

no_clef : (o : Option Clef) (clef : Clef) → is_some o ≡ false → unwrap_or o clef ≡ clef
no_clef None clef e = refl
no_clef (Some c) clef e = absurd cc

not_clef : (s : Step) (now : InForce) → names_clef s ≡ false → (force_after s now).clef ≡ now.clef
unfolding names_clef force_after
not_clef (Step.Clef clef) now e = absurd cc
not_clef (Step.Key text) now e = no_clef text.clef now.clef e
not_clef _ now e = refl

-- the clef that a step names is in force, or if none does, the one before
abbrev any_clef : Steps → Bool
any_clef steps = list_any (λ (s : PlacedStep). names_clef s.step) steps

abbrev Shows : Bool → Clef → Clef → Type 0
Shows named last now = unwrap_or (some_if named now) last ≡ now

shows_more : (named more : Bool) (last now next : Clef) → (more ≡ false → next ≡ now) → Shows named last now
    → Shows (named || (more || false)) last next
shows_more false false last now next same h = h ∙ sym (same refl)
shows_more _ _ last now next same h = refl

clef_here : (first : InForce) (before : Steps)
    → Shows (any_clef (since_event before)) (event_clef first before) (force_at first before).clef
clef_here first [] = rw since_none refl
clef_here first (s ∷ before) = rw (since_on s before) (by_event (is_event s.step) refl (clef_here first before)) where
  by_event : (b : Bool) → is_event s.step ≡ b
      → Shows (any_clef (since_event before)) (event_clef first before) (force_at first before).clef
      → Shows (any_clef (cond b [] (since_event before ++ s ∷ [])))
      (cond b (force_at first before).clef (event_clef first before))
      (force_after s.step (force_at first before)).clef
  by_event true e others = sym (ap (λ (f : InForce). f.clef) (event_force s.step (force_at first before) e))
  by_event false e others =
      let same = not_clef s.step (force_at first before) in
      rw (list_any-append (λ (s : PlacedStep). names_clef s.step) (since_event before) (s ∷ []))
      (shows_more _ (names_clef s.step) _ (force_at first before).clef _ same others)

waiting_clef : (first : InForce) (before : Steps) (decos : List Deco)
    → unwrap_or (pending_of (force_at first before) (since_event before) decos).changes.clef (event_clef first before)
    ≡ (force_at first before).clef
unfolding pending_of changes_at
waiting_clef first before decos = clef_here first before

-- ---- all steps
further_reach : (clef : Clef) (now : VoiceState) (at : PlacedStep) (seen : Bool) (measure n : ℕ) (rest : List TreeItem)
    → SignsReach clef rest
    → SignsReach clef (further_rests now at seen measure n ++ rest)
unfolding rest_written
further_reach clef now at seen measure zero rest h = h
further_reach clef now at seen measure (suc n) rest h = (tt, tt, further_reach clef now at seen (measure + 1) n rest h)

step_reach : (first : InForce) (before following : Steps) (at : PlacedStep) (s : Step) (rest : List TreeItem)
    → faults_of (state_at first before) before at following s ≡ []
    → SignsReach (cond (is_event s) (force_at first before).clef (event_clef first before)) rest
    → SignsReach (event_clef first before) (tree_items_of (state_at first before) before at following s ++ rest)
unfolding tree_items_of sound_written rest_written is_event
step_reach first before following at (Step.Sound s) rest e h =
    let now = force_at first before in
    let waits = since_event before in
    let clear = sound_clear (state_at first before) before following at s e in
    subst (λ (c : Clef).
    DoReach c (tied_heads s.heads following) × GracesReach c (pending_of now waits s.decos).graces × SignsReach c rest)
    (sym (waiting_clef first before s.decos)) (
      tied_reach now.clef s.heads following (all_reach now.clef s.heads clear.near),
      waiting_reach now.clef now waits s.decos clear.graces,
      h,
    )
step_reach first before following at (Step.Measures seen count) rest e h =
    let place = state_at first before in let now = place.force in let waits = since_event before in
    let clear = rest_clear place before following at seen count e in
    let others = further_rests place at seen (measure_of place + 1) (count - 1) ++ rest in
    subst (λ (c : Clef). DoReach c [] × GracesReach c (pending_of now waits []).graces × SignsReach c others)
    (sym (waiting_clef first before [])) (
      tt,
      waiting_reach now.clef now waits [] clear.graces,
      further_reach now.clef place at seen (measure_of place + 1) (count - 1) rest h,
    )
step_reach first before following at (Step.Tuplet p q r) rest e h =
    with_tuplet (λ z. SignsReach (event_clef first before) (z ++ rest)) (state_at first before) p q r (λ m x y z. h) h
step_reach first before following at _ rest e h = h

walk_reach : (first : InForce) (before following : Steps) → faults_in first before following ≡ []
    → SignsReach (event_clef first before) (signs first before following)
walk_reach first before [] e = tt
walk_reach first before (at ∷ following) e =
    step_reach first before following at at.step _ (none_before _ _ e)
    (walk_reach first (at ∷ before) following (none_after _ _ e))

pub voice_reach : (first : InForce) (steps : Steps)
    → faults_in first [] steps ≡ [] → SignsReach first.clef (signs first [] steps)
voice_reach first steps e = walk_reach first [] steps e
