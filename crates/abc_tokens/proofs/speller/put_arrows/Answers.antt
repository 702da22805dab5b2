use Rattle.abc_tokens.proofs.Writing.{ok_copies}
use Rattle.abc_tokens.proofs.speller.put_arrows.Goals as goal

pub returns : goal.returns
returns c = ok_copies c.put_copies.result _ _ _ _ _ _ c.from.ensures c.arrow_of.ensures c.put_copies.ensures
