-- The forced bars among n measures increase; each is after the first measure and before the last bar.
use Rattle.std.proofs.Common.{◌≡◌, refl, ℕ, ◌+◌, ◌≤◌, ◌<◌, List, [], ◌∷◌, ◌++◌, Bool, true, false, reverse, arith}
use Rattle.std.proofs.lemmas.Bool.{Decides.nat_tests, and_parts, or_parts, cond_both, leb-true, ltb-true}
use Rattle.std.specs.{Prelude.{⊤, ◌==◌, ◌&&◌, nat_le, nat_lt}, List.list_any}
use Rattle.mus_score.specs.Walks.{RiseWithin}
use Rattle.abc_events.specs.Bars.{forced_at, forced_bars, forced_after, forces_bar, is_near_bar, with_bar}
use Rattle.abc_score.{proofs.Basics.either, specs.{declared.voices.ReadVoice.ReadVoice, Score.forced_of}}
use Rattle.abc_steps.specs.{Counts.{all_further, begins_group, counts_of, measure_at, nearest_at}, Looks.Steps}
use Rattle.abc_steps.specs.declared.{step.{Step.Step, PlacedStep.PlacedStep}, counts.Counts.Counts}

-- bars that increase from above one, below n and not beyond another
abbrev Rises : ℕ → ℕ → ℕ → List ℕ → Type 0
Rises from n top [] = ⊤
Rises from n top (b ∷ bs) = (from < b) × (b < n) × (b ≤ top) × Rises b n top bs

wider : (from n top higher : ℕ) (bs : List ℕ) → top ≤ higher → Rises from n top bs → Rises from n higher bs
wider from n top higher [] less rise = tt
wider from n top higher (b ∷ bs) less (above, below, within, rise) =
    (above, below, omega (arith, within, less), wider b n top higher bs less rise)

within_n : (from n top : ℕ) (bs : List ℕ) → Rises from n top bs → RiseWithin from n bs
within_n from n top [] rise = tt
within_n from n top (b ∷ bs) (above, below, within, rise) = (above, below, within_n b n top bs rise)

below_new : (b top bar : ℕ) → (b == bar) ≡ false → b ≤ top → top ≤ bar → b < bar
below_new b top bar new within less = grind (arith, nat_tests)

with_last : (from n top bar : ℕ) (bs : List ℕ) → list_any (λ b. b == bar) bs ≡ false → from < bar → bar < n → top ≤ bar
    → Rises from n top bs → Rises from n bar (bs ++ bar ∷ [])
with_last from n top bar [] new above below less rise = (above, below, omega arith, tt)
with_last from n top bar (b ∷ bs) new above below less (following, before, within, rise) =
    let parts = or_parts (b == bar) _ new in (
      following,
      before,
      omega (arith, within, less),
      with_last b n top bar bs parts.1 (below_new b top bar parts.0 within less) below less rise,
    )

with_bar_rises : (n top bar : ℕ) (bs : List ℕ)
    → 1 ≤ bar → bar < n → top ≤ bar → Rises 0 n top bs → Rises 0 n bar (with_bar bar bs)
with_bar_rises n top bar bs some below less rise =
    cond_both (list_any (λ b. b == bar) bs) _ _ (Rises 0 n bar) (λ e. wider 0 n top bar bs less rise)
    (λ e. with_last 0 n top bar bs e (omega arith) below less rise)

inside : (bar n : ℕ) → (nat_le 1 bar && nat_lt bar n) ≡ true → (1 ≤ bar) × (bar < n)
inside bar n e =
    let parts = and_parts _ _ e in (leb-true 1 bar parts.0, ltb-true bar n parts.1)

step_rises : (n : ℕ) (counts : Counts) (s : Step) (bs : List ℕ) → Rises 0 n (counts.groups + counts.further) bs
    → Rises 0 n (counts.groups + counts.further) (forced_after n counts s bs)
unfolding forced_after
step_rises n counts Step.Break bs rise =
    let bar = counts.groups + counts.further in
    cond_both (forces_bar n counts) _ _ (Rises 0 n bar) (λ e.
    let parts = and_parts (is_near_bar counts.nearest) _ e in let held = inside bar n parts.1 in
    with_bar_rises n bar bar bs held.0 held.1 (omega arith) rise) (λ e. rise)
step_rises n counts _ bs rise = rise

measure_grows : (s : PlacedStep) (before : Steps) → measure_at before ≤ measure_at (s ∷ before)
measure_grows s before =
    either (λ g. measure_at before ≤ g + all_further (s ∷ before)) (begins_group s.step (nearest_at before)) _ _
    (omega arith) (omega arith)

forced_rises : (n : ℕ) (before : Steps) → Rises 0 n (measure_at before) (forced_at n before)
forced_rises n [] = tt
forced_rises n (s ∷ before) =
    wider 0 n (measure_at before) _ _ (measure_grows s before)
    (step_rises n (counts_of before) s.step (forced_at n before) (forced_rises n before))

bars_rise : (n : ℕ) (steps : Steps) → RiseWithin 0 n (forced_bars steps n)
bars_rise n steps = within_n 0 n (measure_at (reverse steps)) (forced_bars steps n) (forced_rises n (reverse steps))

pub forced_rise : (flow : Bool) (voices : List ReadVoice) (n : ℕ) → RiseWithin 0 n (forced_of flow voices n)
forced_rise true voices n = tt
forced_rise false [] n = tt
forced_rise false (v ∷ voices) n = bars_rise n v.steps

none_within : (n : ℕ) (bs : List ℕ) → n < 2 → RiseWithin 0 n bs → bs ≡ []
none_within n [] few rise = refl
none_within n (b ∷ bs) few rise = absurd (omega (arith, few, rise.0, rise.1))

pub none_forced : (flow : Bool) (voices : List ReadVoice) (n : ℕ) → n < 2 → forced_of flow voices n ≡ []
none_forced flow voices n few = none_within n _ few (forced_rise flow voices n)
