-- The steps of a voice without faults: each event has parts and good changes, and tuplets are full.
use Rattle.std.proofs.Common.{◌≡◌, ◌∙◌, refl, sym, ap, subst, ℕ, zero, suc, ◌+◌, ◌-◌, ◌*◌, ◌/◌, ◌≤◌, List, [], ◌∷◌}
use Rattle.std.proofs.Common.{length, Bool, true, false, cond}
use Rattle.std.proofs.Common.{not, nat_le, ◌==◌, Option, Some, None, IfSome, unwrap_or, is_none, option_map, zero-add}
use Rattle.std.proofs.Common.{eqb-true, arith}
use Rattle.std.proofs.lemmas.Bool.{cond_both, leb-true, leb-false}
use Rattle.std.proofs.lemmas.Bool.Decides.{nat_tests}
use Rattle.std.proofs.lemmas.Nat.{mul-le}
use Rattle.std.proofs.lemmas.List.Sums.{sum_by-cons, take_while-cons}
use Rattle.std.specs.{Prelude.{⊤, count_by, nat_lt}, List.{AllByRecursion, before_first}}
use Rattle.mus_pitch.proofs.SignLaws.{laid_good}
use Rattle.abc_lines.specs.declared.fault.FaultKind.{FaultKind}
use Rattle.abc_field.specs.Keys.{GoodKeyIn, over_by}
use Rattle.abc_signs.specs.{Signs.{further_rests, signs, tree_items_of, sound_written}, Waits.pending_of}
use Rattle.abc_faults.specs.Faults.{ends_tuplets, step_fault, fault_if, faults_in, faults_of, misfit_of, sounds_after}
use Rattle.abc_faults.specs.Faults.{tuplet_faults}
use Rattle.mus_units.specs.Parts.{cut_in, cut_next, longest_within, parts_list, units_of}
use Rattle.mus_units.specs.Good.{AreGoodSigns, IsGoodKey, IsGoodMeter, IsGoodUnit}
use Rattle.mus_units.specs.declared.{key.{Key.Key, Sign.Sign as KeySign}, value.Value.Value}
use Rattle.abc_steps.specs.Lengths.{left_factor, left_side, right_factor, right_side, written_length}
use Rattle.abc_steps.specs.Places.{state_at, measure_of}
use Rattle.abc_steps.specs.Kinds.{is_sound}
use Rattle.abc_steps.specs.Good.{IsGoodForce, IsGoodSound, IsGoodStep, IsGoodPlacedStep}
use Rattle.abc_steps.specs.Force.{changes_at, force_at, force_after, some_if}
use Rattle.abc_steps.specs.Tuplets.{after_event, fits, one_less, with_tuplet_opened, or_default, open_tuplets_after}
use Rattle.abc_steps.specs.Looks.{Steps}
use Rattle.abc_steps.specs.declared.step.WrittenSound.{WrittenSound}
use Rattle.abc_steps.specs.declared.step.Step.{Step}
use Rattle.abc_steps.specs.declared.step.PlacedStep.{PlacedStep}
use Rattle.abc_steps.specs.declared.force.InForce.{InForce}
use Rattle.abc_steps.specs.declared.state.VoiceState.{VoiceState}
use Rattle.abc_steps.specs.declared.tuplets.OpenTuplets.{OpenTuplets}
use Rattle.abc_score.proofs.Basics.{all_both, with_tuplet, none_before, none_after}
use Rattle.abc_score.proofs.Clear.{IsClearSound, no_fault, sound_clear}
use Rattle.abc_score.proofs.Nested.{IsOpen}
use Rattle.abc_score.proofs.{Judging.rest_values, Parts.IsWhole}

-- ---- parts
cut_some : (others : ℕ → Option (List Value)) (left : ℕ) (o : Option Value) → is_none (cut_next others left o) ≡ false
    → 1 ≤ length (unwrap_or (cut_next others left o) [])
cut_some others left None e = absurd cc
cut_some others left (Some v) e = by_rest (others (left - units_of v)) e where
  by_rest : (o : Option (List Value))
      → is_none (option_map (λ vs. v ∷ vs) o) ≡ false → 1 ≤ length (unwrap_or (option_map (λ vs. v ∷ vs) o) [])
  by_rest None e = absurd cc
  by_rest (Some vs) e = omega arith

parts_some : (num den : ℕ)
    → 1 ≤ num → is_none (parts_list num den) ≡ false → 1 ≤ length (unwrap_or (parts_list num den) [])
unfolding parts_list
parts_some num den some e =
    let left = 512 * num / den in
    let AreSome : Option (List Value) → Type 0 = λ o. is_none o ≡ false → 1 ≤ length (unwrap_or o []) in
    cond_both (left * den == 512 * num) _ _ AreSome
    (λ is.
    cond_both (left == 0) _ _ AreSome (λ none. absurd (no_left left none is))
    (λ none. cut_some (cut_in 7) left (longest_within left)))
    (λ is e. absurd cc) e where
      no_left : (left : ℕ) → (left == 0) ≡ true → (left * den == 512 * num) ≡ true → ⊥
      no_left left none is =
          let nothing : left * den ≡ 0 = ap (λ n. n * den) (eqb-true left 0 none) ∙ omega arith in
          absurd (omega (arith, eqb-true (left * den) (512 * num) is, nothing, some))

-- the factor of each side of a broken rhythm has a numerator of at least 1
left_some : (o : Option PlacedStep) → 1 ≤ (left_factor o).num
unfolding left_factor left_side
left_some o = grind arith

right_some : (o : Option PlacedStep) → 1 ≤ (right_factor o).num
unfolding right_factor right_side
right_some o = grind arith

pub sound_parts : (now : VoiceState) (before following : Steps) (at : PlacedStep) (s : WrittenSound)
    → IsGoodUnit now.force.unit → IsGoodSound s
    → IsClearSound now before following s → 1 ≤ length (sound_written now before at s following).values
unfolding sound_written written_length
sound_parts now before following at s unit good clear =
    parts_some _ _
    (mul-le 1 1 _ _ (mul-le 1 1 _ _ good.some (omega (arith, unit.0))) (mul-le 1 1 _ _ (left_some _) (right_some _)))
    clear.drawn

-- ---- what is in force
over_good : (signs adds : List KeySign) (o : Option Key)
    → AreGoodSigns signs → GoodKeyIn o → AreGoodSigns (over_by signs adds o)
over_good signs adds None good whole = laid_good signs adds good
over_good signs adds (Some key) good whole = whole

force_good : (s : Step) (now : InForce) → IsGoodForce now → IsGoodStep s → IsGoodForce (force_after s now)
unfolding force_after
force_good (Step.Clef clef) now force good = record { key = force.key; meter = force.meter; unit = force.unit }
force_good (Step.Key text) now force good =
    record { key = over_good now.key.signs text.adds text.key force.key good; meter = force.meter; unit = force.unit }
force_good (Step.Meter meter) now force good = record { key = force.key; meter = good; unit = force.unit }
force_good (Step.Unit unit) now force good = record { key = force.key; meter = force.meter; unit = good }
force_good _ now force good = force

pub walk_force : (first : InForce) (before : Steps)
    → IsGoodForce first → AllByRecursion IsGoodPlacedStep before → IsGoodForce (force_at first before)
walk_force first [] force good = force
walk_force first (s ∷ before) force good =
    force_good s.step (force_at first before) (walk_force first before force good.1) good.0

-- ---- tree items
when_good : {X : Type 0} (P : X → Type 0) (b : Bool) (x : X) → P x → IfSome (some_if b x) P
when_good P true x good = good
when_good P false x good = tt

step_whole : (now : VoiceState) (before following : Steps) (at : PlacedStep) (s : Step)
    → IsGoodForce now.force → IsGoodStep s
    → faults_of now before at following s ≡ [] → AllByRecursion IsWhole (tree_items_of now before at following s)
unfolding tree_items_of pending_of changes_at
step_whole now before following at (Step.Sound s) force good e =
    let parts = sound_parts now before following at s force.unit good (sound_clear now before following at s e) in
    ((parts, when_good IsGoodKey _ _ force.key, when_good IsGoodMeter _ _ force.meter), tt)
step_whole now before following at (Step.Measures seen count) force good e = (
  (rest_values now at seen _ _, when_good IsGoodKey _ _ force.key, when_good IsGoodMeter _ _ force.meter),
  further_whole (measure_of now + 1) (count - 1),
) where
  further_whole : (measure n : ℕ) → AllByRecursion IsWhole (further_rests now at seen measure n)
  further_whole measure zero = tt
  further_whole measure (suc n) = ((rest_values now at seen measure false, tt, tt), further_whole (measure + 1) n)
step_whole now before following at (Step.Tuplet p q r) force good e =
    with_tuplet (AllByRecursion IsWhole) now p q r (λ m x y z. (tt, tt)) tt
step_whole now before following at _ force good e = tt

pub walk_whole : (first : InForce) (before following : Steps)
    → IsGoodForce first → AllByRecursion IsGoodPlacedStep before → AllByRecursion IsGoodPlacedStep following
    → faults_in first before following ≡ [] → AllByRecursion IsWhole (signs first before following)
walk_whole first before [] force good goods e = tt
walk_whole first before (at ∷ following) force good goods e =
    let here = walk_force first before force good in
    all_both IsWhole _ _
    (step_whole (state_at first before) before following at at.step here goods.0 (none_before _ _ e))
    (walk_whole first (at ∷ before) following force (goods.0, good) goods.1 (none_after _ _ e))

-- ---- the events that open tuplets take
not_short : (n r : ℕ) → nat_lt n r ≡ false → r ≤ n
not_short n r e = grind (arith, nat_tests)

pub tuplet_clear : (r : ℕ) (t : OpenTuplets) (at : PlacedStep) (following : Steps) → tuplet_faults r t at following ≡ []
    → (fits r t ≡ true) × (r ≤ sounds_after following)
tuplet_clear r t at following e = by_test (fits r t) e where
  by_test : (b : Bool)
      → cond b (fault_if (nat_lt (sounds_after following) r) FaultKind.TupletShort at)
      (step_fault (misfit_of t) at ∷ [])
      ≡ []
      → (b ≡ true) × (r ≤ sounds_after following)
  by_test true e = (refl, not_short _ r (no_fault _ _ _ e))
  by_test false e = absurd cc

pub sounds_on : (s : PlacedStep) (rest : Steps)
    → sounds_after (s ∷ rest) ≡ cond (ends_tuplets s.step) 0 (cond (is_sound s.step) 1 0 + sounds_after rest)
unfolding sounds_after
sounds_on s rest =
    let inside = before_first (λ (x : PlacedStep). ends_tuplets x.step) rest in
    let count : Steps → ℕ = count_by (λ (x : PlacedStep). is_sound x.step) in
    ap count (take_while-cons (λ (x : PlacedStep). not (ends_tuplets x.step)) s rest)
    ∙ by_test inside (ends_tuplets s.step) where
      by_test : (inside : Steps) (b : Bool)
          → count_by (λ (x : PlacedStep). is_sound x.step) (cond (not b) (s ∷ inside) [])
          ≡ cond b 0 (cond (is_sound s.step) 1 0 + count_by (λ (x : PlacedStep). is_sound x.step) inside)
      by_test inside true = refl
      by_test inside false = sum_by-cons (λ (x : PlacedStep). cond (is_sound x.step) 1 0) s inside

-- that many events suffice for the open ones
abbrev pub Enough : OpenTuplets → ℕ → Type 0
Enough OpenTuplets.Nothing n = ⊤
Enough (OpenTuplets.Single left) n = (1 ≤ left) × (left ≤ n)
Enough (OpenTuplets.Nested inner outer) n = (1 ≤ inner) × (inner ≤ outer) × (outer ≤ n)

pub open_with : (t : OpenTuplets) (n : ℕ) → Enough t n → IsOpen t
open_with OpenTuplets.Nothing n enough = tt
open_with (OpenTuplets.Single left) n enough = enough.0
open_with (OpenTuplets.Nested inner outer) n enough = (enough.0, enough.1)

pub none_open : (t : OpenTuplets) → Enough t 0 → t ≡ OpenTuplets.Nothing
none_open OpenTuplets.Nothing enough = refl
none_open (OpenTuplets.Single left) enough = absurd (omega (arith, enough.0, enough.1))
none_open (OpenTuplets.Nested inner outer) enough = absurd (omega (arith, enough.0, enough.1, enough.2))

less_enough : (left n : ℕ) → left ≤ 1 + n → Enough (one_less left) n
less_enough left n few =
    cond_both (nat_le left 1) _ _ (λ t. Enough t n) (λ e. tt)
    (λ e. let more = leb-false left 1 e in (omega arith, omega arith))

after_enough : (t : OpenTuplets) (n : ℕ) → Enough t (1 + n) → Enough (after_event t) n
unfolding after_event
after_enough OpenTuplets.Nothing n enough = tt
after_enough (OpenTuplets.Single left) n enough = less_enough left n enough.1
after_enough (OpenTuplets.Nested inner outer) n enough =
    cond_both (nat_le inner 1) _ _ (λ t. Enough t n) (λ e. less_enough outer n enough.2)
    (λ e. let more = leb-false inner 1 e in (omega arith, omega (arith, enough.1), omega (arith, enough.2)))

opened_enough : (r : ℕ) (t : OpenTuplets) (n : ℕ)
    → fits r t ≡ true → 1 ≤ r → r ≤ n → Enough t n → Enough (with_tuplet_opened r t) n
unfolding fits
opened_enough r OpenTuplets.Nothing n fit some few enough = (some, few)
opened_enough r (OpenTuplets.Single left) n fit some few enough =
    subst (λ b. Enough (cond b (OpenTuplets.Nested r left) (OpenTuplets.Single left)) n) (sym fit)
    (some, leb-true r left fit, enough.1)
opened_enough r (OpenTuplets.Nested inner outer) n fit some few enough = absurd cc

pub default_some : (p r : ℕ) → 2 ≤ p → 1 ≤ or_default p r
default_some p zero low = omega arith
default_some p (suc r) low = omega arith

pub next_enough : (now : VoiceState) (before following : Steps) (at : PlacedStep) (s : Step)
    → IsGoodStep s → faults_of now before at following s ≡ []
    → Enough now.taking (cond (ends_tuplets s) 0 (cond (is_sound s) 1 0 + sounds_after following))
    → Enough (open_tuplets_after s now.taking) (sounds_after following)
unfolding faults_of ends_tuplets is_sound open_tuplets_after
next_enough now before following at (Step.Sound s) good e enough =
    after_enough now.taking (sounds_after following) enough
next_enough now before following at (Step.Measures seen count) good e enough = tt
next_enough now before following at (Step.Bar bar) good e enough = tt
next_enough now before following at (Step.Tuplet p q r) good e enough =
    let clear = tuplet_clear (or_default p r) now.taking at following e in
    opened_enough _ now.taking _ clear.0 (default_some p r good.p_low) clear.1
    (subst (Enough now.taking) (zero-add _) enough)
next_enough now before following at _ good e enough = subst (Enough now.taking) (zero-add _) enough
