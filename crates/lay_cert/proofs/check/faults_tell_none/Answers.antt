use Rattle.lay_cert.proofs.Alone as alone
use Rattle.lay_cert.proofs.check.faults_tell_none.Goals as goal

pub returns : goal.returns
returns c = alone.faults_tell_none
