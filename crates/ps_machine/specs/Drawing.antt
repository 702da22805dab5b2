-- The current graphics state, and the saved ones.
use Rattle.{std.specs.Prelude.{List}, ps_steps.specs.declared.graphics.Graphics.{Graphics}}

pub record GraphicsStack : Type 0 where
  pub now : Graphics
  pub saved : List Graphics  -- the latest first
