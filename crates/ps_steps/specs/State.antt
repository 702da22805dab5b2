-- The state of the machine: the operand stack, the definitions, whether the font was made, the graphics state with
-- the path, the saved ones, what was painted on the page so far, and the pages before it.
use Rattle.std.specs.Prelude.{ℕ, pos, Bool, false, List, [], Option, None}
use Rattle.ps_steps.specs.declared.paint.Paint.{Paint}
use Rattle.ps_steps.specs.declared.paint.PagePaint.{PagePaint}
use Rattle.ps_steps.specs.Tokens.{SimpleToken}
pub use Rattle.ps_steps.specs.{declared.value.Operand.Operand, declared.graphics.Graphics.Graphics}
pub use Rattle.ps_steps.specs.declared.value.Operand.TheVariants.{Whole as whole_value, Pointed as pointed_value}
pub use Rattle.ps_steps.specs.declared.value.Operand.TheVariants.{Words as words_value, Label as label_value}
pub use Rattle.ps_steps.specs.declared.value.Operand.TheVariants.{Body as body_value, Font as font_value}

-- the procedure that a name is defined as, if any
abbrev pub Names : Type 0
Names = List ℕ → Option (List SimpleToken)

abbrev pub no_names : Names
no_names name = None

pub record State : Type 0 where
  pub stack : List Operand  -- the top first
  pub names : Names
  pub made : Bool  -- whether the font was made
  pub now : Graphics
  pub saved : List Graphics  -- the latest first
  pub paints : List Paint  -- of the current page
  pub pages : List PagePaint  -- the pages before it

abbrev pub first_graphics : Graphics
first_graphics = record { path = []; scale = pos 10000; x = pos 0; y = pos 0; font = pos 0; line = pos 1 }

abbrev pub first_state : State
first_state =
    record { stack = []; names = no_names; made = false; now = first_graphics; saved = []; paints = []; pages = [] }
