-- What is in force after some steps is exactly what their last fields name.
use Rattle.std.proofs.Common.{◌≡◌, ◌∙◌, refl, sym, ap, [], ◌∷◌, ◌++◌, Option, Some, None, inl, inr}
use Rattle.std.specs.Prelude.{unwrap_or}
use Rattle.mus_units.specs.declared.pitch.Clef.{Clef}
use Rattle.mus_units.specs.declared.key.Key.{Key}
use Rattle.mus_units.specs.declared.key.Meter.{Meter}
use Rattle.mus_units.specs.declared.value.Frac.{Frac}
use Rattle.abc_field.specs.declared.key.KeyText.{KeyText}
use Rattle.abc_field.specs.Keys.{key_over}
use Rattle.abc_steps.specs.declared.step.Step.{Step}
use Rattle.abc_steps.specs.declared.step.PlacedStep.{PlacedStep}
use Rattle.abc_steps.specs.declared.force.InForce.{InForce}
use Rattle.abc_steps.specs.Looks.{Steps}
use Rattle.abc_steps.specs.Force.{force_after, force_at}
use Rattle.abc_steps.specs.Said.{clef_named, key_named, meter_named, unit_named, NameNone, IsNamedOr}
use Rattle.abc_steps.specs.Said.{IsKeyInForce, as_begun, as_named, IsInForce, IsAllInForce}

-- ---- the last value named, as a function
abbrev named_or : {X : Type 0} → (Step → Option X) → X → Steps → X
named_or named first [] = first
named_or named first (s ∷ before) = unwrap_or (named s.step) (named_or named first before)

module _ {X : Type 0} (named : Step → Option X) (first : X) where
  one_more : (s : PlacedStep) (before : Steps) (o : Option X) (x : X)
      → named s.step ≡ o → IsNamedOr named first before x → IsNamedOr named first (s ∷ before) (unwrap_or o x)
  one_more s before (Some y) x e h =
      inl (before, record { later = []; step = s; cut = refl; names = e; last = tt })
  one_more s before None x e (inl (earlier, l)) =
      inl (
        earlier,
        record {
          later = s ∷ l.later;
          step = l.step;
          cut = ap (λ steps. s ∷ steps) l.cut;
          names = l.names;
          last = (e, l.last);
        },
      )
  one_more s before None x e (inr (none, is)) = inr ((e, none), is)

  is_named : (before : Steps) → IsNamedOr named first before (named_or named first before)
  is_named [] = inr (tt, refl)
  is_named (s ∷ before) = one_more s before (named s.step) (named_or named first before) refl (is_named before)

  past_none : (later rest : Steps) → NameNone named later
      → named_or named first (later ++ rest) ≡ named_or named first rest
  past_none [] rest none = refl
  past_none (s ∷ later) rest none =
      ap (λ o. unwrap_or o (named_or named first (later ++ rest))) none.0 ∙ past_none later rest none.1

  all_none : (before : Steps) → NameNone named before → named_or named first before ≡ first
  all_none [] none = refl
  all_none (s ∷ before) none =
      ap (λ o. unwrap_or o (named_or named first before)) none.0 ∙ all_none before none.1

  only_named : (before : Steps) (x : X) → IsNamedOr named first before x → x ≡ named_or named first before
  only_named before x (inl (earlier, l)) =
      sym
      (ap (named_or named first) l.cut
      ∙ past_none l.later (l.step ∷ earlier) l.last
      ∙ ap (λ o. unwrap_or o (named_or named first earlier)) l.names)
  only_named before x (inr (none, is)) = is ∙ sym (all_none before none)

-- ---- one step more
clef_after : (s : Step) (now : InForce) → (force_after s now).clef ≡ unwrap_or (clef_named s) now.clef
unfolding force_after clef_named
clef_after (Step.Clef clef) now = refl
clef_after (Step.Key text) now = refl
clef_after _ now = refl

meter_after : (s : Step) (now : InForce) → (force_after s now).meter ≡ unwrap_or (meter_named s) now.meter
unfolding force_after meter_named
meter_after (Step.Meter meter) now = refl
meter_after _ now = refl

unit_after : (s : Step) (now : InForce) → (force_after s now).unit ≡ unwrap_or (unit_named s) now.unit
unfolding force_after unit_named
unit_after (Step.Unit unit) now = refl
unit_after _ now = refl

abbrev key_by : Option KeyText → Key → Key
key_by None key = key
key_by (Some text) key = record { signs = key_over key.signs text }

key_after : (s : Step) (now : InForce) → (force_after s now).key ≡ key_by (key_named s) now.key
unfolding force_after key_named
key_after (Step.Key text) now = refl
key_after _ now = refl

-- ---- the values in force
clef_at : (first : InForce) (before : Steps) → (force_at first before).clef ≡ named_or clef_named first.clef before
clef_at first [] = refl
clef_at first (s ∷ before) =
    clef_after s.step (force_at first before) ∙ ap (unwrap_or (clef_named s.step)) (clef_at first before)

meter_at : (first : InForce) (before : Steps) → (force_at first before).meter ≡ named_or meter_named first.meter before
meter_at first [] = refl
meter_at first (s ∷ before) =
    meter_after s.step (force_at first before) ∙ ap (unwrap_or (meter_named s.step)) (meter_at first before)

unit_at : (first : InForce) (before : Steps) → (force_at first before).unit ≡ named_or unit_named first.unit before
unit_at first [] = refl
unit_at first (s ∷ before) =
    unit_after s.step (force_at first before) ∙ ap (unwrap_or (unit_named s.step)) (unit_at first before)

-- ---- the key in force
abbrev key_of : Key → Steps → Key
key_of first [] = first
key_of first (s ∷ before) = key_by (key_named s.step) (key_of first before)

key_at : (first : InForce) (before : Steps) → (force_at first before).key ≡ key_of first.key before
key_at first [] = refl
key_at first (s ∷ before) =
    key_after s.step (force_at first before) ∙ ap (key_by (key_named s.step)) (key_at first before)

key_more : (first : Key) (s : PlacedStep) (before : Steps) (o : Option KeyText) (key : Key)
    → key_named s.step ≡ o → IsKeyInForce first before key → IsKeyInForce first (s ∷ before) (key_by o key)
key_more first s before (Some text) key e h =
    as_named (s ∷ before) before text key (record { later = []; step = s; cut = refl; names = e; last = tt }) h
key_more first s before None key e (as_begun _ none) = as_begun (s ∷ before) (e, none)
key_more first s before None key e (as_named _ earlier text k l h) =
    as_named (s ∷ before) earlier text k
    (record {
      later = s ∷ l.later;
      step = l.step;
      cut = ap (λ steps. s ∷ steps) l.cut;
      names = l.names;
      last = (e, l.last);
    }) h

is_key : (first : Key) (before : Steps) → IsKeyInForce first before (key_of first before)
is_key first [] = as_begun [] tt
is_key first (s ∷ before) =
    key_more first s before (key_named s.step) (key_of first before) refl (is_key first before)

key_past : (first : Key) (later rest : Steps) → NameNone key_named later
    → key_of first (later ++ rest) ≡ key_of first rest
key_past first [] rest none = refl
key_past first (s ∷ later) rest none =
    ap (λ o. key_by o (key_of first (later ++ rest))) none.0 ∙ key_past first later rest none.1

key_begun : (first : Key) (before : Steps) → NameNone key_named before → key_of first before ≡ first
key_begun first [] none = refl
key_begun first (s ∷ before) none =
    ap (λ o. key_by o (key_of first before)) none.0 ∙ key_begun first before none.1

only_key : (first : Key) (before : Steps) (key : Key) → IsKeyInForce first before key → key ≡ key_of first before
only_key first _ _ (as_begun before none) = sym (key_begun first before none)
only_key first _ _ (as_named before earlier text key l h) =
    sym
    (ap (key_of first) l.cut
    ∙ key_past first l.later (l.step ∷ earlier) l.last
    ∙ ap (λ o. key_by o (key_of first earlier)) l.names
    ∙ ap (λ k. key_by (Some text) k) (sym (only_key first earlier key h)))

-- ---- all together
is_in_force : (first : InForce) (before : Steps) → IsInForce first before (force_at first before)
is_in_force first before = record {
  clef = rw (clef_at first before) (is_named clef_named first.clef before);
  key = rw (key_at first before) (is_key first.key before);
  meter = rw (meter_at first before) (is_named meter_named first.meter before);
  unit = rw (unit_at first before) (is_named unit_named first.unit before);
}

abbrev made : Clef → Key → Meter → Frac → InForce
made clef key meter unit = record { clef = clef; key = key; meter = meter; unit = unit }

only_in_force : (first : InForce) (before : Steps) (other : InForce)
    → IsInForce first before other → other ≡ force_at first before
only_in_force first before other h =
    let now = force_at first before in
    let clef : other.clef ≡ now.clef = only_named clef_named first.clef before other.clef h.clef
    ∙ sym (clef_at first before) in
    let key : other.key ≡ now.key = only_key first.key before other.key h.key ∙ sym (key_at first before) in
    let meter : other.meter ≡ now.meter = only_named meter_named first.meter before other.meter h.meter
    ∙ sym (meter_at first before) in
    let unit : other.unit ≡ now.unit = only_named unit_named first.unit before other.unit h.unit
    ∙ sym (unit_at first before) in
    let same : made other.clef other.key other.meter other.unit ≡ made now.clef now.key now.meter now.unit = cc in same

pub all_in_force : (first : InForce) (before : Steps) → IsAllInForce first before (force_at first before)
all_in_force first before = (is_in_force first before, only_in_force first before)
