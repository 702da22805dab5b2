use Rattle.lay_cert.proofs.Put as put
use Rattle.lay_cert.proofs.write.in_parts.Goals as goal

pub returns : goal.returns
returns c = put.in_parts
