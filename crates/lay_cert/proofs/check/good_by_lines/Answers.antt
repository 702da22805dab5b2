use Rattle.lay_cert.proofs.Alone as alone
use Rattle.lay_cert.proofs.check.good_by_lines.Goals as goal

pub returns : goal.returns
returns c = alone.good_by_lines
