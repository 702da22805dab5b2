use Rattle.abc_tokens.proofs.Again.{ok_again}
use Rattle.abc_tokens.proofs.speller.spell.Goals as goal

pub returns-clause-again : goal.returns-clause-again
returns-clause-again c = ok_again c.plain_text.result c.args.tokens.now c.plain_text.ensures
