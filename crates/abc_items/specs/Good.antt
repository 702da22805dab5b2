-- Good items: their steps are good.
use Rattle.{std.specs.Prelude.{⊤}, abc_steps.specs.{declared.step.BodyItem.BodyItem, Good.IsGoodPlacedStep}}

abbrev pub IsGoodItem : BodyItem → Type 0
IsGoodItem (BodyItem.Step s) = IsGoodPlacedStep s
IsGoodItem _ = ⊤
