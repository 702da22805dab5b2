-- The written length of a note, a chord or a rest: its length times the unit and its broken factors.
use Rattle.std.specs.Prelude.{ℕ, ◌*◌, ◌≤◌, ◌^◌, List, nat_le, true, false, if◌then◌else◌, Option, Some, None}
use Rattle.mus_units.specs.{declared.value.Frac.Frac, declared.value.Value.Value, Parts.parts_list}
use Rattle.abc_steps.specs.declared.step.WrittenSound.{WrittenSound}
use Rattle.abc_steps.specs.declared.step.PlacedStep.{PlacedStep}
use Rattle.abc_steps.specs.declared.step.Step.{Step}
use Rattle.abc_steps.specs.Looks.{Steps, broken_before, broken_after}

abbrev pub once : Frac
once = record { num = 1; den = 1 }

-- 3/2, 7/4 or 15/8 times as long
abbrev pub long_side : ℕ → Frac
long_side dots =
    if nat_le dots 1 then record { num = 3; den = 2 }
    else (if nat_le dots 2 then record { num = 7; den = 4 } else record { num = 15; den = 8 })

-- 1/2, 1/4 or 1/8 times as long
abbrev pub short_side : ℕ → Frac
short_side dots =
    if nat_le dots 1 then record { num = 1; den = 2 }
    else (if nat_le dots 2 then record { num = 1; den = 4 } else record { num = 1; den = 8 })

-- after a left side that is lengthened the right side is shortened, and vice versa
unfoldable pub left_side : Step → Frac
left_side (Step.Broken true dots) = long_side dots
left_side (Step.Broken false dots) = short_side dots
left_side _ = once

unfoldable pub right_side : Step → Frac
right_side (Step.Broken true dots) = short_side dots
right_side (Step.Broken false dots) = long_side dots
right_side _ = once

unfoldable pub left_factor : Option PlacedStep → Frac
left_factor (Some s) = left_side s.step
left_factor None = once

unfoldable pub right_factor : Option PlacedStep → Frac
right_factor (Some s) = right_side s.step
right_factor None = once

unfoldable pub written_length : Frac → WrittenSound → Steps → Steps → Frac
written_length unit s before following =
    let left = left_factor (broken_after following) in
    let right = right_factor (broken_before before) in
    record { num = s.num * unit.num * (left.num * right.num); den = s.den * unit.den * (left.den * right.den) }

-- the parts of a step: those of the length of a note, a chord or a rest; any other step has none
unfoldable pub parts_at : Frac → Steps → Step → Steps → Option (List Value)
parts_at unit before (Step.Sound s) following =
    let length = written_length unit s before following in parts_list length.num length.den
parts_at unit before _ following = None

-- Bounds: those of a factor, and those of a written length.
pub record IsFactor (f : Frac) : Type 0 where
  pub some : 1 ≤ f.num
  pub num_high : f.num ≤ 15
  pub above : 1 ≤ f.den
  pub den_high : f.den ≤ 8

pub record IsLength (f : Frac) : Type 0 where
  pub some : 1 ≤ f.num
  pub num_high : f.num ≤ 2 ^ 56
  pub above : 1 ≤ f.den
  pub den_high : f.den ≤ 2 ^ 56
