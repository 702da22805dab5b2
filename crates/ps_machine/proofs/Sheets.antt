-- The run of a text that a sheet spells paints what the sheet paints.
use Rattle.std.{proofs.Common.{ℕ, List}, specs.Prelude.{Result, Ok, Err, IfOk, IfErr}}
use Rattle.ps_steps.specs.declared.halt.MachineError.{MachineError}
use Rattle.ps_steps.specs.declared.paint.PagePaint.{PagePaint}
use Rattle.ps_steps.specs.Steps.{Paints, IsHalt}
use Rattle.ps_steps.specs.declared.halt.MachineError.TheVariants.{Halt, Memory}
use Rattle.ps_paint.specs.Laws.{PaintsSheets}
use Rattle.ps_paint.specs.PaintOf.{paint_of}
use Rattle.ps_machine.specs.OneAnswer.{HasOneAnswer}
use Rattle.ps_machine.specs.Sheets.{GivesItsSheet}

pub gives_its_sheet : (text : List ℕ) (budget : ℕ) (result : Result (List PagePaint) MachineError)
    → PaintsSheets → HasOneAnswer → IfOk result (λ pages. Paints text budget pages)
    → IfErr result (λ e. IsHalt text budget e)
    → GivesItsSheet text budget result
gives_its_sheet text budget (Ok pages) law one painted halted s spells enough =
    one.painted text budget pages (paint_of s) painted (law s text budget spells enough)
gives_its_sheet text budget (Err (Halt token cause)) law one painted halted s spells enough =
    one.either text budget (paint_of s) token cause (law s text budget spells enough) halted
gives_its_sheet text budget (Err Memory) law one painted halted s spells enough = tt
