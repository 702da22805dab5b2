use Rattle.lay_cert.proofs.Alone as alone
use Rattle.lay_cert.proofs.check.no_prefix_is_a_listing.Goals as goal

pub returns : goal.returns
returns c = alone.no_prefix
