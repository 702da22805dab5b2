use Rattle.lay_cert.proofs.Alone as alone
use Rattle.lay_cert.proofs.check.tells_one.Goals as goal

pub returns : goal.returns
returns c = alone.tells_one
