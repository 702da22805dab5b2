use Rattle.ps_machine.proofs.Sheets.{gives_its_sheet}
use Rattle.ps_machine.proofs.run.run_machine.Goals as goal

pub returns-clause-sheet : goal.returns-clause-sheet
returns-clause-sheet c =
    gives_its_sheet c.args.b.now c.args.budget c.run_bytes.result c.paints_sheets.ensures c.one_answer.ensures
    c.run_bytes.ensures.painted c.run_bytes.ensures.halted
