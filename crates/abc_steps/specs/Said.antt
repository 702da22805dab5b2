-- What is in force at a place of a voice: each value is the one of the last field before the place that names one, or
-- else the one with which the voice begins. `before` is the steps before the place, the nearest first.
use Rattle.std.specs.Prelude.{◌≡◌, ◌⊎◌, ⊤, [], ◌∷◌, ◌++◌, Option, Some, None}
use Rattle.mus_units.specs.declared.pitch.Clef.{Clef}
use Rattle.mus_units.specs.declared.key.Key.{Key}
use Rattle.mus_units.specs.declared.key.Meter.{Meter}
use Rattle.mus_units.specs.declared.value.Frac.{Frac}
use Rattle.abc_field.specs.declared.key.KeyText.{KeyText}
use Rattle.abc_field.specs.Keys.{key_over}
use Rattle.abc_steps.specs.declared.step.Step.{Step}
use Rattle.abc_steps.specs.declared.step.PlacedStep.{PlacedStep}
use Rattle.abc_steps.specs.declared.force.InForce.{InForce}
use Rattle.abc_steps.specs.Looks.{Steps}

-- the value that a step names, if it names one
unfoldable pub clef_named : Step → Option Clef
clef_named (Step.Clef clef) = Some clef
clef_named (Step.Key text) = text.clef
clef_named _ = None

unfoldable pub key_named : Step → Option KeyText
key_named (Step.Key text) = Some text
key_named _ = None

unfoldable pub meter_named : Step → Option Meter
meter_named (Step.Meter meter) = Some meter
meter_named _ = None

unfoldable pub unit_named : Step → Option Frac
unit_named (Step.Unit unit) = Some unit
unit_named _ = None

-- none of the steps names a value
abbrev pub NameNone : {X : Type 0} → (Step → Option X) → Steps → Type 0
NameNone named [] = ⊤
NameNone named (s ∷ steps) = (named s.step ≡ None) × NameNone named steps

-- x is the value of the last step before the place that names one, and `earlier` are the steps before that step
pub record IsLastNamed {X : Type 0} (named : Step → Option X) (before : Steps) (x : X) (earlier : Steps) : Type 0 where
  pub later : Steps
  pub step : PlacedStep
  pub cut : before ≡ later ++ step ∷ earlier
  pub names : named step.step ≡ Some x
  pub last : NameNone named later

-- the last value named, or else the first one
abbrev pub IsNamedOr : {X : Type 0} → (Step → Option X) → X → Steps → X → Type 0
IsNamedOr named first before x =
    ((earlier : Steps) × IsLastNamed named before x earlier) ⊎ (NameNone named before × (x ≡ first))

-- The key: the text of the last `K:`, over the key in force before that field; or else the first key. A text with a
-- whole key is that key, whatever was in force before; accidentals alone are laid over it.
pub data IsKeyInForce (first : Key) : Steps → Key → Type 0 where
  as_begun : (before : Steps) → NameNone key_named before → IsKeyInForce first before first
  as_named : (before earlier : Steps) (text : KeyText) (key : Key)
      → IsLastNamed key_named before text earlier → IsKeyInForce first earlier key
      → IsKeyInForce first before (record { signs = key_over key.signs text })

pub record IsInForce (first : InForce) (before : Steps) (now : InForce) : Type 0 where
  pub clef : IsNamedOr clef_named first.clef before now.clef
  pub key : IsKeyInForce first.key before now.key
  pub meter : IsNamedOr meter_named first.meter before now.meter
  pub unit : IsNamedOr unit_named first.unit before now.unit

-- this is in force, and nothing else is
abbrev pub IsAllInForce : InForce → Steps → InForce → Type 0
IsAllInForce first before now =
    IsInForce first before now × ((other : InForce) → IsInForce first before other → other ≡ now)
