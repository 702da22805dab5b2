use Rattle.ps_read.proofs.{Telling.lines_spell, Through.document_way}
use Rattle.ps_read.proofs.reading.good_by_lines.Goals as goal

pub returns : goal.returns
returns c text s = (document_way s text, lines_spell s text)
