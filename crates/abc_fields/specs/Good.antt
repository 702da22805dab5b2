-- Good meters and unit lengths: the numbers that they may have.
use Rattle.std.specs.Prelude.{⊤, Option, Some, None}
use Rattle.mus_units.specs.declared.value.Frac.{Frac}
use Rattle.mus_units.specs.Good.{IsGoodMeter, IsGoodUnit}
use Rattle.abc_fields.specs.declared.defaults.Defaults.{Defaults}

-- the defaults of a file header have good values
abbrev pub GoodUnitIn : Option Frac → Type 0
GoodUnitIn None = ⊤
GoodUnitIn (Some unit) = IsGoodUnit unit

abbrev pub IsGoodDefaults : Defaults → Type 0
IsGoodDefaults defaults = IsGoodMeter defaults.meter × GoodUnitIn defaults.unit
