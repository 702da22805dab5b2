-- Any file header gives good defaults.
use Rattle.std.proofs.Common.{List, [], ◌∷◌, Option, Some, None, IfSome}
use Rattle.std.specs.Prelude.{unwrap_or}
use Rattle.std.specs.Option.{option_and_then, option_or}
use Rattle.mus_units.specs.declared.key.Meter.{Meter}
use Rattle.mus_units.specs.declared.value.Frac.{Frac}
use Rattle.mus_units.specs.Good.{IsGoodMeter, IsGoodUnit}
use Rattle.abc_lines.specs.declared.book.Line.{Line}
use Rattle.abc_field.specs.Last.{last_of}
use Rattle.abc_field.proofs.GoodLaws.{meter_good, unit_good}
use Rattle.abc_fields.specs.{Defaults.{defaults_of, line_meter, line_unit}, Good.{GoodUnitIn, IsGoodDefaults}}

-- what holds for each named value holds for the last one
or_if : {Y : Type 0} (P : Y → Type 0) (o p : Option Y) → IfSome o P → IfSome p P → IfSome (option_or o p) P
or_if P None p a b = b
or_if P (Some y) p a b = a

last_if : {X Y : Type 0} (P : Y → Type 0) (f : X → Option Y)
    → ((x : X) → IfSome (f x) P) → (xs : List X) → IfSome (last_of f xs) P
last_if P f each [] = tt
last_if P f each (x ∷ xs) = or_if P (last_of f xs) (f x) (last_if P f each xs) (each x)

then_if : {X Y : Type 0} (P : Y → Type 0) (f : X → Option Y)
    → ((x : X) → IfSome (f x) P) → (o : Option X) → IfSome (option_and_then f o) P
then_if P f each None = tt
then_if P f each (Some x) = each x

else_if : {Y : Type 0} (P : Y → Type 0) (o : Option Y) (y : Y) → IfSome o P → P y → P (unwrap_or o y)
else_if P None y a b = b
else_if P (Some x) y a b = a

meter_by : (line : Line) → IfSome (line_meter line) IsGoodMeter
unfolding line_meter
meter_by line = then_if IsGoodMeter _ meter_good _

unit_by : (line : Line) → IfSome (line_unit line) IsGoodUnit
unfolding line_unit
unit_by line = then_if IsGoodUnit _ unit_good _

unit_in : (o : Option Frac) → IfSome o IsGoodUnit → GoodUnitIn o
unit_in None good = tt
unit_in (Some unit) good = good

pub defaults_good : (lines : List Line) → IsGoodDefaults (defaults_of lines)
defaults_good lines = (
  else_if IsGoodMeter (last_of line_meter lines) Meter.Free (last_if IsGoodMeter line_meter meter_by lines) tt,
  unit_in (last_of line_unit lines) (last_if IsGoodUnit line_unit unit_by lines),
)
