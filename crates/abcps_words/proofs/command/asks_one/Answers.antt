use Rattle.abcps_words.proofs.Alone as alone
use Rattle.abcps_words.proofs.command.asks_one.Goals as goal

pub returns : goal.returns
returns c = alone.asks_one
