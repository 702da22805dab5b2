-- The painting machine's law about documents: a text that a sheet spells paints that sheet, within 100 tokens per
-- byte.
use Rattle.std.specs.Prelude.{◌≤◌, ◌*◌, ℕ, List, length}
use Rattle.ps_text.specs.Document.{SpellsSheet}
use Rattle.ps_text.specs.declared.sheet.Sheet.{Sheet}
use Rattle.ps_steps.specs.Steps.{Paints}
use Rattle.ps_paint.specs.PaintOf.{paint_of}

abbrev pub PaintsSheets : Type 0
PaintsSheets =
    (s : Sheet) (text : List ℕ) (budget : ℕ)
    → SpellsSheet s text → 100 * length text ≤ budget → Paints text budget (paint_of s)
