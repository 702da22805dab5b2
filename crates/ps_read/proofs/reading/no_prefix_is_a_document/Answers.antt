use Rattle.ps_read.proofs.Alone.{no_prefix}
use Rattle.ps_read.proofs.reading.no_prefix_is_a_document.Goals as goal

pub returns : goal.returns
returns c = no_prefix
