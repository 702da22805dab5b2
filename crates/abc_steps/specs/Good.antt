-- Good steps: field values are good, a note, a chord or a rest has a length, a grace note has a head, and numbers are
-- those that a music line can write.
use Rattle.std.specs.Prelude.{⊤, ◌≤◌, ◌^◌}
use Rattle.abc_music.specs.Good.{AreGoodGraces, IsGoodTuplet}
use Rattle.mus_units.specs.Good.{IsGoodKey, IsGoodMeter, IsGoodUnit}
use Rattle.abc_field.specs.Keys.{IsGoodKeyText}
use Rattle.abc_steps.specs.declared.step.WrittenSound.{WrittenSound}
use Rattle.abc_steps.specs.declared.step.Step.{Step}
use Rattle.abc_steps.specs.declared.step.PlacedStep.{PlacedStep}
use Rattle.abc_steps.specs.declared.force.InForce.{InForce}

pub record IsGoodSound (s : WrittenSound) : Type 0 where
  pub some : 1 ≤ s.num
  pub num_high : s.num ≤ 2 ^ 40
  pub above : 1 ≤ s.den
  pub den_high : s.den ≤ 2 ^ 40

abbrev pub IsGoodStep : Step → Type 0
IsGoodStep (Step.Sound s) = IsGoodSound s
IsGoodStep (Step.Measures seen count) = (1 ≤ count) × (count ≤ 999)
IsGoodStep (Step.Grace slash body) = AreGoodGraces body
IsGoodStep (Step.Tuplet p q r) = IsGoodTuplet p q r
IsGoodStep (Step.Key text) = IsGoodKeyText text
IsGoodStep (Step.Meter meter) = IsGoodMeter meter
IsGoodStep (Step.Unit unit) = IsGoodUnit unit
IsGoodStep _ = ⊤

abbrev pub IsGoodPlacedStep : PlacedStep → Type 0
IsGoodPlacedStep s = IsGoodStep s.step

pub record IsGoodForce (now : InForce) : Type 0 where
  pub key : IsGoodKey now.key
  pub meter : IsGoodMeter now.meter
  pub unit : IsGoodUnit now.unit
