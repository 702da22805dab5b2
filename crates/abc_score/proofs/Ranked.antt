-- A score has one first fault: each kind of fault has its own rank.
use Rattle.mus_score.specs.Limits.{head_limit}
use Rattle.std.proofs.Common.{◌≡◌, ◌∙◌, refl, sym, ap, subst, ℕ, ◌<◌, List, [], ◌∷◌, ◌++◌, get_or, Bool, true, false}
use Rattle.std.proofs.Common.{cond, None, arith, rules}
use Rattle.std.proofs.lemmas.List.Elements.{All-from_recursion, All-contains}
use Rattle.std.proofs.lemmas.Bool.Decides.{nat_tests}
use Rattle.std.specs.{Prelude.{◌&&◌, not, nat_le, nat_lt, flat_map}, List.{AllByRecursion, Contains}}
use Rattle.abc_lines.specs.declared.fault.Fault.{Fault}
use Rattle.abc_lines.specs.declared.fault.FaultKind.{FaultKind}
use Rattle.abc_fields.specs.declared.header.Header.{Header}
use Rattle.mus_units.specs.declared.pitch.Clef.{Clef}
use Rattle.abc_steps.specs.declared.force.InForce.{InForce}
use Rattle.abc_steps.specs.declared.state.VoiceState.{VoiceState}
use Rattle.abc_steps.specs.declared.step.BodyItem.{BodyItem}
use Rattle.abc_steps.specs.declared.step.Step.{Step}
use Rattle.abc_steps.specs.declared.step.PlacedStep.{PlacedStep}
use Rattle.abc_steps.specs.declared.tuplets.OpenTuplets.{OpenTuplets}
use Rattle.abc_steps.specs.Looks.{Steps, has_left, has_right}
use Rattle.abc_steps.specs.Places.{state_at}
use Rattle.abc_steps.specs.Tuplets.{fits, or_default}
use Rattle.abc_faults.specs.Faults.{step_fault, fault_if, misfit_of, sounds_after, any_grace_off, grace_faults_of}
use Rattle.abc_faults.specs.Faults.{grace_faults, sound_faults, faults_of, faults_in}
use Rattle.abc_faults.specs.First.{kind_rank, is_before, IsLeastFault, IsFirstInOrder}
use Rattle.abc_faults.specs.Weights.{crowd_fault, crowd_faults_at, crowd_up_to}
use Rattle.abc_words.specs.declared.verses.Verse.{Verse}
use Rattle.abc_words.specs.Verses.{faults_from, number_on, too_many}
use Rattle.abc_score.specs.declared.voices.ReadVoice.{ReadVoice}
use Rattle.abc_score.specs.Voices.{voices_read}
use Rattle.abc_score.specs.Faults.{voice_faults, voice_weights, score_faults}
use Rattle.abc_score.proofs.Basics.{all_both}

-- ---- the kind of a rank

-- the kinds in order, except the faults of shared staves, of a transposition and of a layout
abbrev ranked : List FaultKind
ranked =
    FaultKind.NoKey ∷ FaultKind.BadMeter ∷ FaultKind.BadUnit ∷ FaultKind.BadKey ∷ FaultKind.BadVoice
    ∷ FaultKind.TooManyVoices ∷ FaultKind.BadByte ∷ FaultKind.Unclosed
    ∷ FaultKind.BadLength ∷ FaultKind.BadTuplet ∷ FaultKind.TooDeep ∷ FaultKind.TupletCrosses ∷ FaultKind.TupletShort
    ∷ FaultKind.BrokenAlone ∷ FaultKind.Undrawable ∷ FaultKind.StepRange
    ∷ FaultKind.RestWithoutMeter ∷ FaultKind.TooManyMeasures ∷ FaultKind.TooManyEvents ∷ FaultKind.TooManyVerses ∷ []

abbrev kind_at : ℕ → FaultKind
kind_at rank = get_or ranked rank FaultKind.NoKey

kind_is : (kind : FaultKind) → kind_rank kind < 20 → kind ≡ kind_at (kind_rank kind)
kind_is FaultKind.BadScore h = absurd (omega (arith, h))
kind_is FaultKind.BadShare h = absurd (omega (arith, h))
kind_is FaultKind.BadMove h = absurd (omega (arith, h))
kind_is (FaultKind.NoWay reached) h = absurd (omega (arith, h))
kind_is (FaultKind.TooTall block) h = absurd (omega (arith, h))
kind_is kind h = refl

-- ---- faults whose rank determines the kind
abbrev pub IsRanked : Fault → Type 0
IsRanked fault = kind_rank fault.kind < 20

abbrev pub AreRanked : List Fault → Type 0
AreRanked faults = AllByRecursion IsRanked faults

each_ranked : {X : Type 0} (faults : X → List Fault) (xs : List X)
    → ((x : X) → AreRanked (faults x)) → AreRanked (flat_map faults xs)
each_ranked faults [] h = tt
each_ranked faults (x ∷ xs) h = all_both IsRanked (faults x) (flat_map faults xs) (h x) (each_ranked faults xs h)

if_ranked : (b : Bool) (kind : FaultKind) (at : PlacedStep) → kind_rank kind < 20 → AreRanked (fault_if b kind at)
if_ranked true kind at h = (h, tt)
if_ranked false kind at h = tt

-- one fault if a test holds
when_ranked : (b : Bool) (fault : Fault) → IsRanked fault → AreRanked (cond b (fault ∷ []) [])
when_ranked true fault h = (h, tt)
when_ranked false fault h = tt

misfit_ranked : (t : OpenTuplets) → kind_rank (misfit_of t) < 20
misfit_ranked (OpenTuplets.Nested inner outer) = omega arith
misfit_ranked _ = omega arith

tuplet_ranked : (b : Bool) (r : ℕ) (open_ones : OpenTuplets) (at : PlacedStep) (following : Steps)
    → AreRanked
    (cond b (fault_if (nat_lt (sounds_after following) r) FaultKind.TupletShort at)
    (step_fault (misfit_of open_ones) at ∷ []))
tuplet_ranked true r open_ones at following =
    if_ranked (nat_lt (sounds_after following) r) FaultKind.TupletShort at (omega arith)
tuplet_ranked false r open_ones at following = (misfit_ranked open_ones, tt)

grace_ranked : (clef : Clef) (at : PlacedStep) (s : Step) → AreRanked (grace_faults_of clef at s)
unfolding grace_faults_of
grace_ranked clef at (Step.Grace slash body) = if_ranked (any_grace_off clef body) FaultKind.StepRange at (omega arith)
grace_ranked clef at _ = tt

graces_ranked : (clef : Clef) (waits : Steps) → AreRanked (grace_faults clef waits)
graces_ranked clef waits = each_ranked (λ s. grace_faults_of clef s s.step) waits (λ s. grace_ranked clef s s.step)

both_ranked : (fs gs : List Fault) → AreRanked fs → AreRanked gs → AreRanked (fs ++ gs)
both_ranked fs gs a b = all_both IsRanked fs gs a b

step_ranked : (now : VoiceState) (before : Steps) (at : PlacedStep) (following : Steps) (s : Step)
    → AreRanked (faults_of now before at following s)
unfolding faults_of sound_faults
step_ranked now before at following (Step.Sound s) = search (rules, both_ranked, if_ranked, graces_ranked) depth 12
step_ranked now before at following (Step.Measures seen count) =
    search (rules, both_ranked, if_ranked, graces_ranked) depth 12
step_ranked now before at following (Step.Tuplet p q r) =
    tuplet_ranked (fits (or_default p r) now.taking) (or_default p r) now.taking at following
step_ranked now before at following (Step.Broken right dots) =
    if_ranked (not (has_left before && has_right following)) FaultKind.BrokenAlone at (omega arith)
step_ranked now before at following _ = tt

steps_ranked : (first : InForce) (before following : Steps) → AreRanked (faults_in first before following)
steps_ranked first before [] = tt
steps_ranked first before (at ∷ following) =
    both_ranked _ _ (step_ranked (state_at first before) before at following at.step)
    (steps_ranked first (at ∷ before) following)

verses_ranked : (before following : List Verse) → AreRanked (faults_from before following)
verses_ranked before [] = tt
verses_ranked before (v ∷ following) =
    both_ranked _ _ (when_ranked (nat_le 8 (number_on v.row before)) (too_many v.line) (omega arith))
    (verses_ranked (before ++ v ∷ []) following)

voice_ranked : (v : ReadVoice) → AreRanked (voice_faults v)
voice_ranked v = both_ranked _ _ (steps_ranked v.first [] v.steps) (verses_ranked [] v.verses.list)

pub score_ranked : (header : Header) (items : List BodyItem) → AreRanked (score_faults header items)
score_ranked header items =
    let voices = voices_read header items in
    let weights = flat_map voice_weights voices in
    both_ranked _ _ (each_ranked voice_faults voices voice_ranked)
    (each_ranked (crowd_faults_at weights) weights
    (λ w. when_ranked (nat_lt head_limit (crowd_up_to weights w)) (crowd_fault w) (omega arith)))

-- ---- the first
level : (f g : Fault) → is_before f g ≡ false → is_before g f ≡ false
    → (f.line ≡ g.line) × (f.column ≡ g.column) × (kind_rank f.kind ≡ kind_rank g.kind)
unfolding is_before
level f g h i = (grind (arith, nat_tests), grind (arith, nat_tests), grind (arith, nat_tests))

abbrev fault_of : FaultKind → ℕ → ℕ → Fault
fault_of kind line column = record { kind = kind; line = line; column = column }

-- two faults of which neither comes first are equal if their ranks determine their kinds
pub one_least : (faults : List Fault) (f g : Fault)
    → AreRanked faults → IsLeastFault faults f → IsLeastFault faults g → f ≡ g
one_least faults f g h a b =
    let ranked = All-from_recursion IsRanked faults h in
    let same = level f g (b.least f a.held) (a.least g b.held) in
    let line = same.0 in
    let column = same.1 in
    let kind : f.kind ≡ g.kind = kind_is f.kind (All-contains IsRanked faults f ranked a.held)
    ∙ ap kind_at same.2
    ∙ sym (kind_is g.kind (All-contains IsRanked faults g ranked b.held)) in
    let made : fault_of f.kind f.line f.column ≡ fault_of g.kind g.line g.column = cc in made

pub none_or_least : (faults : List Fault) (f : Fault) → IsFirstInOrder faults None → IsLeastFault faults f → ⊥
none_or_least faults f none a = let held = subst (λ fs. Contains fs f) none a.held in absurd (omega (arith, held.1))
