use Rattle.ps_read.proofs.Alone as alone
use Rattle.ps_read.proofs.reading.one_sheet.Goals as goal

pub returns : goal.returns
returns c = alone.one_sheet
