-- The result of running a text that a sheet spells: what the sheet paints, and never a halt, if the budget has 100
-- tokens for each byte of the text.
use Rattle.std.specs.Prelude.{◌≡◌, ◌*◌, ◌≤◌, ℕ, List, length, Result, Ok, Err}
use Rattle.ps_text.specs.Document.{SpellsSheet}
use Rattle.ps_text.specs.declared.sheet.Sheet.{Sheet}
use Rattle.ps_steps.specs.declared.halt.MachineError.{MachineError}
use Rattle.ps_steps.specs.declared.paint.PagePaint.{PagePaint}
use Rattle.ps_steps.specs.declared.halt.MachineError.TheVariants.{Halt, Memory}
use Rattle.ps_paint.specs.PaintOf.{paint_of}

-- these pages, or out of memory
abbrev pub Gives : List PagePaint → Result (List PagePaint) MachineError → Type 0
Gives pages (Ok painted) = painted ≡ pages
Gives pages (Err (Halt token cause)) = ⊥
Gives pages (Err Memory) = Unit {0}

abbrev pub GivesItsSheet : List ℕ → ℕ → Result (List PagePaint) MachineError → Type 0
GivesItsSheet text budget result =
    (s : Sheet) → SpellsSheet s text → 100 * length text ≤ budget → Gives (paint_of s) result
