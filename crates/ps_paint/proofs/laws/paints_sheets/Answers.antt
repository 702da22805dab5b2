use Rattle.ps_paint.proofs.Document as document
use Rattle.ps_paint.proofs.laws.paints_sheets.Goals as goal

pub returns : goal.returns
returns c = document.paints_sheets
