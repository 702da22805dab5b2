use Rattle.lay_cert.proofs.Unforced as unforced
use Rattle.lay_cert.proofs.write.forced_by_spans.Goals as goal

pub returns : goal.returns
returns c = unforced.forced_by_spans
