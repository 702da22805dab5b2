use Rattle.ps_tokens.proofs.OneToken.{begins_in_one_way}
use Rattle.ps_tokens.proofs.laws.one_token.Goals as goal

pub returns : goal.returns
returns c = begins_in_one_way
