-- Defaults are good in only one way.
use Rattle.std.proofs.{Common.{Option, Some, None}, Props.props}
use Rattle.mus_units.specs.declared.key.Meter.TheVariants as meters
use Rattle.mus_units.specs.{declared.{value.Frac.Frac, key.Meter.Meter}, Good.{IsGoodMeter}}
use Rattle.abc_fields.specs.{declared.defaults.Defaults.{Defaults}, Good.{GoodUnitIn, IsGoodDefaults}}

meter_prop : (meter : Meter) → IsProp (IsGoodMeter meter)
meter_prop (meters.Ratio num den) = hlevel props
meter_prop meters.Free = hlevel props
meter_prop meters.Common = hlevel props
meter_prop meters.Cut = hlevel props

unit_prop : (unit : Option Frac) → IsProp (GoodUnitIn unit)
unit_prop None = hlevel props
unit_prop (Some unit) = hlevel props

pub defaults_prop : (defaults : Defaults) → IsProp (IsGoodDefaults defaults)
defaults_prop defaults = hlevel (props, meter_prop defaults.meter, unit_prop defaults.unit)
